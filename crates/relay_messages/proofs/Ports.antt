-- What a text means on the watch port, and on the main port.
use Rattle.std.proofs.Common.{◌≡◌, ◌↔◌, List, ℕ, length, Bool, true, false, cond, nat_lt, Option, Some, None, Result, Ok, Err, refl}
use Rattle.std.specs.Option.{ok_or}
use Rattle.std.specs.Prelude.{◌==◌, codes}
use Rattle.std.specs.Str.{bytes_eq, is_utf8}
use Rattle.std.proofs.lemmas.Slice.Eq.{bytes_eq-Decides}
use Rattle.serde_json.specs.Data.{Data, null, boolean, number, string, array, object}
use Rattle.serde_json.specs.Read.{read}
use Rattle.relay_core.specs.declared.step.Step.{Step}
use Rattle.relay_messages.specs.declared.fault.MessageFault.{MessageFault}
use Rattle.relay_messages.specs.declared.fault.MessageFault.TheVariants.{NotJson, UnknownCommand, BadField}
use Rattle.relay_messages.specs.declared.reading.TheConstants.{MOST_BYTES}
use Rattle.relay_messages.specs.declared.watch_command.WatchCommand.{WatchCommand}
use Rattle.relay_messages.specs.declared.watch_command.WatchCommand.TheVariants as watch
use Rattle.relay_messages.specs.Commands.{command_by, command_in, command_named, is_boards, on_both_ports, watch_command_in}
use Rattle.relay_messages.specs.Decoding.{decoded, text_says, value_says, watch_decoded}
use Rattle.relay_messages.specs.Fields.{member_count, text_at}

-- the same steps, and `boards` only if no command is known
record Agree (main : Result Step MessageFault) (other : Result WatchCommand MessageFault) : Type 0 where
  pub steps : (step : Step) → (main ≡ Ok step) ↔ (other ≡ Ok (watch.Step step))
  pub boards : other ≡ Ok watch.Boards → main ≡ Err UnknownCommand

no_answer : {A : Type 0} {B : Type 0} (fault : MessageFault) (answer : A) → Err fault ≡ Ok answer → B
no_answer fault answer e = absurd cc

agree_at_faults : (fault : MessageFault) → Agree (Err fault) (Err fault)
agree_at_faults fault = record {
  steps = λ step. (no_answer fault step, no_answer fault (watch.Step step));
  boards = no_answer fault watch.Boards;
}

agree_at_either : (test : Bool) (m n : Result Step MessageFault) (o p : Result WatchCommand MessageFault)
    → Agree m o → Agree n p → Agree (cond test m n) (cond test o p)
agree_at_either true m n o p first second = first
agree_at_either false m n o p first second = second

-- ---- `boards`.

unknown_name : (d : Data) (name : List ℕ) → bytes_eq name (codes "boards") ≡ true → command_named d name ≡ Err UnknownCommand
unfolding command_named
unknown_name d name same = let is : name ≡ codes "boards" = (bytes_eq-Decides name (codes "boards")).0 same in rw is refl

unknown_by : (d : Data) (name : Option (List ℕ)) → is_boards name ≡ true → command_by d name ≡ Err UnknownCommand
unknown_by d (Some name) same = unknown_name d name same
unknown_by d None same = absurd cc

unknown : (d : Data) → is_boards (text_at (codes "cmd") d) ≡ true → command_in d ≡ Err UnknownCommand
unfolding command_in
unknown (object ms) same = unknown_by (object ms) (text_at (codes "cmd") (object ms)) same
unknown null same = absurd cc
unknown (boolean b) same = absurd cc
unknown (number n) same = absurd cc
unknown (string s) same = absurd cc
unknown (array ds) same = absurd cc

-- ---- Any value.

agree_where_said : (said : Result Step MessageFault) → Agree said (on_both_ports said)
agree_where_said (Ok step) = record {
  steps = λ other. ((λ e. cc), (λ e. cc));
  boards = λ e. absurd cc;
}
agree_where_said (Err fault) = agree_at_faults fault

agree_where_unknown : (alone : Bool) (said : Result Step MessageFault) → said ≡ Err UnknownCommand
    → Agree said (ok_or (cond alone (Some watch.Boards) None) BadField)
agree_where_unknown true said is = record {
  steps = λ step. ((λ e. absurd cc), (λ e. absurd cc));
  boards = λ e. is;
}
agree_where_unknown false said is = record {
  steps = λ step. ((λ e. absurd cc), no_answer BadField (watch.Step step));
  boards = no_answer BadField watch.Boards;
}

agree_at_test : (test alone : Bool) (said : Result Step MessageFault) → (test ≡ true → said ≡ Err UnknownCommand)
    → Agree said (cond test (ok_or (cond alone (Some watch.Boards) None) BadField) (on_both_ports said))
agree_at_test true alone said is = agree_where_unknown alone said (is refl)
agree_at_test false alone said is = agree_where_said said

agree_at_value : (d : Data) → Agree (command_in d) (watch_command_in d)
unfolding watch_command_in
agree_at_value d = agree_at_test (is_boards (text_at (codes "cmd") d)) (member_count d == 1) (command_in d) (unknown d)

agree_at_values : (o : Option Data) → Agree (value_says command_in o) (value_says watch_command_in o)
agree_at_values (Some d) = agree_at_value d
agree_at_values None = agree_at_faults NotJson

-- ---- Any text.

agree : (text : List ℕ) → Agree (decoded text) (watch_decoded text)
unfolding decoded watch_decoded text_says
agree text =
    agree_at_either (nat_lt MOST_BYTES (length text)) _ _ _ _ (agree_at_faults BadField)
    (agree_at_either (is_utf8 text) _ _ _ _ (agree_at_values (read text)) (agree_at_faults NotJson))

pub same_steps : (text : List ℕ) (step : Step) → (decoded text ≡ Ok step) ↔ (watch_decoded text ≡ Ok (watch.Step step))
same_steps text = (agree text).steps

pub boards_unknown : (text : List ℕ) → watch_decoded text ≡ Ok watch.Boards → decoded text ≡ Err UnknownCommand
boards_unknown text = (agree text).boards
