-- What a command keeps of its arguments, what a number that was read says about its entry, and which command the arguments name.
use Rattle.std.proofs.Common.{ℕ, List, Bool, MatchBool, true, false, not, ◌&&◌, ◌≡◌, ◌≢◌, ◌∙◌, ◌∷◌, [], Option, Some, None, option_and_then, option_map, find, codes, inl, inr, refl, ap, subst, sym}
use Rattle.std.specs.Str.{bytes_eq}
use Rattle.std.specs.Str.Parse.{IsNumeral, digits_value, false_text, true_text, without_leading_plus}
use Rattle.clap.specs.Words.{HasKind, IsAmong, Kinds, Row, Text, fault_of, is_simple, is_simple_and_free, kind_of, matched_of, matches_of, one_text, subcommand_of}
use Rattle.clap.specs.Facts.{Entry}
use Rattle.clap.specs.Walk.{row_of, rows_of}
use Rattle.clap.specs.declared.parser.matches.Found.{Found}
use Rattle.clap.specs.declared.parser.matches.MatchedArg.{MatchedArg}
use Rattle.clap.specs.declared.error.Error.{Error}
use Rattle.clap.specs.declared.error.kind.ErrorKind.{ErrorKind}
use Rattle.clap.specs.declared.error.kind.ErrorKind.TheVariants.{DisplayVersion, OutOfMemory}
use Rattle.clap.proofs.OnLiterals.{clap_on_literals}
use Rattle.clap.proofs.WalkLemmas.{find_row, one_text-rows}
use Rattle.relay960_words.specs.CommandLine.{AskForVersion, AsksFor, CommandAsksFor, HasFlag, HasNumber, WordsAskFor, program, script_command, source_of}
use Rattle.relay960_words.specs.declared.order.Order.{Order}
use Rattle.relay960_words.specs.declared.order.Order.TheVariants.{Run}
use Rattle.relay960_words.specs.declared.order.Job.TheVariants.{Version}

-- a plain command has no global argument
pub none_is_global : (groups external globals rest : Bool) → (groups && (not external && (not globals && rest))) ≡ true → globals ≡ false
none_is_global true false false rest plain = refl
none_is_global true false true rest plain = absurd cc
none_is_global true true globals rest plain = absurd cc
none_is_global false external globals rest plain = absurd cc

pub number_read : (f : Found) (name : Text) (n : ℕ) (t : List ℕ) → one_text f name ≡ Some t → IsNumeral 10 (without_leading_plus t)
    → n ≡ digits_value 10 (without_leading_plus t) → HasNumber (rows_of f) name n
number_read f name n t text numeral value = (t, sym (one_text-rows f name) ∙ text, numeral, value)

-- a text that is read as a truth value is that of the flag
pub flag_read : (f : Found) (name : Text) (b : Bool) (t : List ℕ) → one_text f name ≡ Some t → MatchBool b (t ≡ true_text) (t ≡ false_text)
    → HasFlag (rows_of f) name b
flag_read f name true t text is = sym (one_text-rows f name) ∙ text ∙ ap (λ u. Some u) is
flag_read f name false t text is = sym (one_text-rows f name) ∙ text ∙ ap (λ u. Some u) is

-- where a value comes from, in the rows
pub source-rows : (f : Found) (id : Text) → option_and_then (λ (a : MatchedArg). a.source) (matched_of f id) ≡ source_of (rows_of f) id
source-rows f id = go (find (λ (e : Entry). bytes_eq e.0.now id) f.entries.items) ∙ ap (option_and_then (λ (r : Row). r.source)) (sym (find_row f.entries.items id))
  where
    go : (o : Option Entry) → option_and_then (λ (a : MatchedArg). a.source) (option_map (λ e. e.1) o) ≡ option_and_then (λ (r : Row). r.source) (option_map row_of o)
    go None = refl
    go (Some e) = refl

-- the program's command and the script's are such that `clap` determines their matches exactly
pub program_is_simple : is_simple program ≡ true
unfolding clap_on_literals
program_is_simple = refl

pub script_is_simple : is_simple script_command ≡ true
unfolding clap_on_literals
script_is_simple = refl

pub program_is_free : is_simple_and_free program ≡ true
unfolding clap_on_literals
program_is_free = refl

-- an optional pair of which both halves are known
pub both_halves : {B X Y : Type 0} (f : B → X) (g : B → Y) (o : Option B) (x : X) (y : Y) → Some x ≡ option_map f o
    → Some y ≡ option_map (λ (p : X × Y). p.1) (option_map {U = X × Y} (λ b. (f b, g b)) o) → option_map {U = X × Y} (λ b. (f b, g b)) o ≡ Some (x, y)
both_halves f g (Some b) x y first second = cc
both_halves f g None x y first second = absurd cc

pub neither_half : {B X Y : Type 0} (f : B → X) (g : B → Y) (o : Option B)
    → None ≡ option_map (λ (p : X × Y). p.1) (option_map {U = X × Y} (λ b. (f b, g b)) o) → option_map {U = X × Y} (λ b. (f b, g b)) o ≡ None
neither_half f g (Some b) second = absurd cc
neither_half f g None second = refl

pub named_asks : (words : List Text) (order : Order) (name : Text) (rows : List Row) → subcommand_of program words ≡ Some (name, rows)
    → AsksFor name rows order → WordsAskFor words order
named_asks words order name rows named asks = inr (subst (λ (o : Option (Text × List Row)). CommandAsksFor o words order) (sym named) asks)

pub script_asks : (words : List Text) (order : Order) (rows : List Row) → subcommand_of program words ≡ None
    → rows ≡ matches_of script_command words → AsksFor (codes "script") rows order → WordsAskFor words order
script_asks words order rows none given asks = inr (subst (λ (o : Option (Text × List Row)). CommandAsksFor o words order) (sym none)
    (subst (λ (r : List Row). AsksFor (codes "script") r order) given asks))

-- if the parse failed because the version was asked for, the arguments ask for it
pub version_asks : (words : List Text) (e : Error) → HasKind (fault_of program words) e → kind_of e ≡ DisplayVersion
    → WordsAskFor words (Run Version)
version_asks words e (inl memory) version = absurd cc
version_asks words e (inr among) version = inl (refl, subst (λ (k : ErrorKind). IsAmong k (fault_of program words)) version among)

-- if the version is all that is asked for, any other error is lack of memory
pub only_memory : (words : List Text) (e : Error) → HasKind (fault_of program words) e → AskForVersion words → kind_of e ≢ DisplayVersion
    → kind_of e ≡ OutOfMemory
only_memory words e kinds asked other = among (subst (λ (ks : Kinds). HasKind ks e) asked kinds)
  where
    among : HasKind (DisplayVersion ∷ []) e → kind_of e ≡ OutOfMemory
    among (inl memory) = memory
    among (inr (inl version)) = absurd (other version)
    among (inr (inr none)) = absurd none
