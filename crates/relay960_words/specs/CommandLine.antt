-- The command-line arguments: which commands and options the program has, and what each list of arguments asks for. How a command reads its
-- arguments is `clap`'s matter (`App`, `matches_of`, `subcommand_of`).
use Rattle.std.specs.Prelude.{ℕ, Bool, ◌≡◌, ◌≢◌, ◌⊎◌, if◌then◌else◌, List, [], ◌∷◌, find, Option, Some, None, option_and_then, option_map, pos, true, false, codes}
use Rattle.std.specs.Str.{bytes_eq}
use Rattle.std.specs.Str.Parse.{IsNumeral, digits_value, without_leading_plus}
use Rattle.std.specs.Net.Grammar.{IsSocketText}
use Rattle.c960_game.specs.declared.limits.TheConstants.{MOST_BOARDS, MOST_CAPACITY, MOST_FOLLOWERS, MOST_PLIES}
use Rattle.c960_game.specs.Limits.{LimitNumbers}
use Rattle.clap.specs.Words.{App, IsAmong, Row, Rule, Text, fault_of, first_of, matches_of, new_app, new_rule, one_of, subcommand_of, with_rule, with_subcommand}
use Rattle.clap.specs.declared.builder.action.ArgAction.TheVariants.{Set, SetTrue}
use Rattle.clap.specs.declared.error.kind.ErrorKind.TheVariants.{DisplayVersion}
use Rattle.clap.specs.declared.builder.value_parser.ValueParser.TheVariants.{Signed}
use Rattle.clap.specs.declared.parser.matches.ValueSource.{ValueSource}
use Rattle.clap.specs.declared.parser.matches.ValueSource.TheVariants.{CommandLine}
use Rattle.relay960_words.specs.declared.order.Connections.{Connections}
use Rattle.relay960_words.specs.declared.order.Connections.TheVariants.{Count, Forever}
use Rattle.relay960_words.specs.declared.order.Order.{Order}
use Rattle.relay960_words.specs.declared.order.Order.TheVariants.{Run, Serve, Journal}
use Rattle.relay960_words.specs.declared.order.Job.TheVariants.{Start, Moves, Play, Script, Version}
use Rattle.relay960_words.specs.declared.order.Service.{Service}
use Rattle.relay960_words.specs.declared.order.WatchPort.{WatchPort}

-- ---- the commands

-- a text, which is required
abbrev pub required_rule : Text → Rule
required_rule name = record (new_rule name) { action = Some Set; required = true }

-- a start's number, which is required
abbrev pub number_rule : Rule
number_rule = record (required_rule (codes "N")) { parser = Some (Signed (pos 0) (pos 65535)) }

-- `--name NUMBER`, from least to most, with the number that it has by default
abbrev pub option_rule : Text → ℕ → ℕ → Text → Rule
option_rule name least most default = record (new_rule name) {
  long = Some name;
  action = Some Set;
  parser = Some (Signed (pos least) (pos most));
  defaults = default ∷ [];
}

-- `--name`, which is given or is not
abbrev pub flag_rule : Text → Rule
flag_rule name = record (new_rule name) { long = Some name; action = Some SetTrue }

-- `--name TEXT`, which is given or is not
abbrev pub text_rule : Text → Rule
text_rule name = record (new_rule name) { long = Some name; action = Some Set; value_names = 1 }

-- a command with the options of a relay's limits
abbrev pub with_limits : App → App
with_limits a = with_rule (with_rule (with_rule (with_rule a
    (option_rule (codes "boards") 1 MOST_BOARDS (codes "16")))
    (option_rule (codes "followers") 1 MOST_FOLLOWERS (codes "64")))
    (option_rule (codes "capacity") 1 MOST_CAPACITY (codes "64")))
    (option_rule (codes "plies") 1 MOST_PLIES (codes "1024"))

-- a command with the options of a service, except those of its limits
abbrev pub with_service : App → App
with_service a = with_rule (with_rule (with_rule (with_rule (with_rule (with_rule (with_rule (with_rule (with_rule (with_rule (with_rule a
    (option_rule (codes "port") 1 65535 (codes "9600")))
    (option_rule (codes "connections") 1 1000000 (codes "1000000")))
    (flag_rule (codes "forever")))
    (flag_rule (codes "until-input-ends")))
    (option_rule (codes "grace") 0 3600 (codes "0")))
    (option_rule (codes "idle") 0 86400 (codes "600")))
    (flag_rule (codes "log")))
    (text_rule (codes "watch")))
    (option_rule (codes "watch-threads") 1 64 (codes "2")))
    (option_rule (codes "watch-most") 1 1000000 (codes "100000")))
    (text_rule (codes "journal"))

abbrev pub start_command : App
start_command = with_rule (new_app (codes "start")) number_rule

abbrev pub moves_command : App
moves_command = with_rule (new_app (codes "moves")) (required_rule (codes "FEN"))

abbrev pub play_command : App
play_command = with_rule (new_app (codes "play")) number_rule

abbrev pub script_command : App
script_command = with_limits (new_app (codes "script"))

abbrev pub serve_command : App
serve_command = with_limits (with_service (new_app (codes "serve")))

abbrev pub journal_command : App
journal_command = with_rule (new_app (codes "journal")) (required_rule (codes "FILE"))

-- the program's own name, with a version
abbrev pub versioned : App
versioned = record (new_app (codes "relay960")) { top = record (new_app (codes "relay960")).top { has_version = true } }

abbrev pub program : App
program = with_subcommand (with_subcommand (with_subcommand (with_subcommand (with_subcommand (with_subcommand versioned
    start_command.top) moves_command.top) play_command.top) script_command.top) serve_command.top) journal_command.top

-- ---- what the arguments ask for

-- the number whose numeral the entry of that name has
abbrev pub HasNumber : List Row → Text → ℕ → Type 0
HasNumber rows name n = (t : Text) × (one_of name rows ≡ Some t) × IsNumeral 10 (without_leading_plus t)
    × (n ≡ digits_value 10 (without_leading_plus t))

-- whether the flag of that name is given
abbrev pub HasFlag : List Row → Text → Bool → Type 0
HasFlag rows name b = one_of name rows ≡ Some (if b then codes "true" else codes "false")

-- where the entry of that name comes from: the arguments, or its default
abbrev pub source_of : List Row → Text → Option ValueSource
source_of rows name = option_and_then (λ r. r.source) (find (λ r. bytes_eq r.id name) rows)

-- the number of connections is that of `--connections`, or there is none: with `--forever`, and without `--connections`
abbrev pub HasConnections : List Row → Connections → Type 0
HasConnections rows (Count n) = HasFlag rows (codes "forever") false × HasNumber rows (codes "connections") n
HasConnections rows Forever = HasFlag rows (codes "forever") true × (source_of rows (codes "connections") ≢ Some CommandLine)

pub record HasLimits (rows : List Row) (l : LimitNumbers) : Type 0 where
  pub boards : HasNumber rows (codes "boards") l.boards
  pub followers : HasNumber rows (codes "followers") l.followers
  pub capacity : HasNumber rows (codes "capacity") l.capacity
  pub plies : HasNumber rows (codes "plies") l.plies

-- a watch port: its address is in the text of `--watch`, and its numbers are those of its two other options
pub record HasWatchPort (rows : List Row) (w : WatchPort) : Type 0 where
  pub text : Text
  pub given : first_of (codes "watch") rows ≡ Some text
  pub address : IsSocketText text w.address
  pub threads : HasNumber rows (codes "watch-threads") w.threads
  pub most : HasNumber rows (codes "watch-most") w.most

-- there is a watch port if `--watch` is given, and otherwise none
abbrev pub HasWatch : List Row → Option WatchPort → Type 0
HasWatch rows None = first_of (codes "watch") rows ≡ None
HasWatch rows (Some w) = HasWatchPort rows w

pub record HasService (rows : List Row) (s : Service) : Type 0 where
  pub port : HasNumber rows (codes "port") s.port
  pub connections : HasConnections rows s.connections
  pub until_input_ends : HasFlag rows (codes "until-input-ends") s.until_input_ends
  pub grace : HasNumber rows (codes "grace") s.grace
  pub idle : HasNumber rows (codes "idle") s.idle
  pub log : HasFlag rows (codes "log") s.log
  pub limits : HasLimits rows s.limits
  pub watch : HasWatch rows s.watch
  pub journal : option_map (λ path. path.now) s.journal ≡ first_of (codes "journal") rows

-- a command of that name, with these entries, asks for the order
abbrev pub AsksFor : Text → List Row → Order → Type 0
AsksFor name rows (Run (Start n)) = (name ≡ codes "start") × HasNumber rows (codes "N") n
AsksFor name rows (Run (Moves text)) = (name ≡ codes "moves") × (first_of (codes "FEN") rows ≡ Some text.now)
AsksFor name rows (Run (Play n)) = (name ≡ codes "play") × HasNumber rows (codes "N") n
AsksFor name rows (Run (Script limits)) = (name ≡ codes "script") × HasLimits rows limits
AsksFor name rows (Run Version) = ⊥
AsksFor name rows (Serve s) = (name ≡ codes "serve") × HasService rows s
AsksFor name rows (Journal path) = (name ≡ codes "journal") × (first_of (codes "FILE") rows ≡ Some path.now)

-- the order is what is asked for: by a command with its entries, or by arguments that name none
abbrev pub CommandAsksFor : Option (Text × List Row) → List Text → Order → Type 0
CommandAsksFor (Some command) words order = AsksFor command.0 command.1 order
CommandAsksFor None words order = AsksFor (codes "script") (matches_of script_command words) order

-- the arguments ask for the version, and have no other fault
abbrev pub AskForVersion : List Text → Type 0
AskForVersion words = fault_of program words ≡ DisplayVersion ∷ []

-- the arguments ask for the order: for the version, or by the command that they name, or, if they name none, as those of a script
abbrev pub WordsAskFor : List Text → Order → Type 0
WordsAskFor words order = ((order ≡ Run Version) × IsAmong DisplayVersion (fault_of program words))
    ⊎ CommandAsksFor (subcommand_of program words) words order
