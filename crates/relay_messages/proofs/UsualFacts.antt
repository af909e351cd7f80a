-- Lemmas on the members of a usual object: which are not found under a key.
use Rattle.std.proofs.Common.{◌≡◌, ◌≢◌, List, ℕ, Bor, Bool, true, false, cond, Option, Some, None, refl, ap, ◌∙◌, option_and_then, codes}
use Rattle.std.specs.Str.{bytes_eq}
use Rattle.serde_json.specs.Data.{Data, Members, no_members, number, put, string, unsigned}
use Rattle.serde_json.specs.Find.{as_number, as_str, as_u64, get_member}
use Rattle.serde_json.proofs.Views.{get_member-put_other}
use Rattle.relay_messages.specs.Fields.{number_at, text_at}
use Rattle.relay_messages.specs.Members.{members_in}
use Rattle.relay_messages.specs.Usual.{usual_data, usual_members}
use Rattle.relay_messages.specs.declared.object.usual.Usual.TheVariants.{Spectator, Move, Follow, FollowFrom}
use Rattle.relay_messages.proofs.PlainFacts.{found_or_other}

-- a text, and a number
abbrev text_in : Option Data → Option (List ℕ)
text_in found = option_and_then as_str found

abbrev number_in : Option Data → Option ℕ
number_in found = option_and_then as_u64 (option_and_then as_number found)

none_of_both : {A : Type 0} (form : Option Data → Option A) (test : Bool) (found other : Option Data) → form found ≡ None → form other ≡ None
    → form (cond test found other) ≡ None
none_of_both form true found other a b = a
none_of_both form false found other a b = b

-- a member of another form is passed over, or found and of no use
other_form : {A : Type 0} (form : Option Data → Option A) (name key : List ℕ) (d : Data) (ms : Members) → form (Some d) ≡ None
    → form (get_member name ms) ≡ None → form (get_member name (put key d ms)) ≡ None
other_form form name key d ms none before =
    ap form (found_or_other (bytes_eq key name) name key d ms refl) ∙ none_of_both form (bytes_eq key name) (Some d) (get_member name ms) none before

-- a member with another key is passed over
other_key : {A : Type 0} (form : Option Data → Option A) (name key : List ℕ) (d : Data) (ms : Members) → name ≢ key
    → form (get_member name ms) ≡ None → form (get_member name (put key d ms)) ≡ None
other_key form name key d ms other before = ap form (get_member-put_other name key d ms other) ∙ before

-- ---- `cmd` and `spectator`.

pub spectator_texts : (name : List ℕ) (cmd : Bor (List ℕ)) (who : ℕ) → name ≢ codes "cmd" → text_at name (usual_data (Spectator cmd who)) ≡ None
spectator_texts name cmd who no_cmd =
    other_form text_in name (codes "spectator") (number (unsigned who)) (put (codes "cmd") (string cmd.now) no_members) refl
    (other_key text_in name (codes "cmd") (string cmd.now) no_members no_cmd refl)

pub spectator_numbers : (name : List ℕ) (cmd : Bor (List ℕ)) (who : ℕ) → name ≢ codes "spectator" → number_at name (usual_data (Spectator cmd who)) ≡ None
spectator_numbers name cmd who no_who =
    other_key number_in name (codes "spectator") (number (unsigned who)) (put (codes "cmd") (string cmd.now) no_members) no_who
    (other_form number_in name (codes "cmd") (string cmd.now) no_members refl refl)

pub spectator_keys : (name : List ℕ) (cmd : Bor (List ℕ)) (who : ℕ) → name ≢ codes "cmd" → name ≢ codes "spectator"
    → get_member name (members_in (usual_members (Spectator cmd who))) ≡ None
spectator_keys name cmd who no_cmd no_who =
    get_member-put_other name (codes "spectator") (number (unsigned who)) (put (codes "cmd") (string cmd.now) no_members) no_who
    ∙ get_member-put_other name (codes "cmd") (string cmd.now) no_members no_cmd

-- ---- `cmd`, `board` and `move`.

pub move_keys : (name : List ℕ) (cmd board m : Bor (List ℕ)) → name ≢ codes "cmd" → name ≢ codes "board" → name ≢ codes "move"
    → get_member name (members_in (usual_members (Move cmd board m))) ≡ None
move_keys name cmd board m no_cmd no_board no_move =
    let first = put (codes "cmd") (string cmd.now) no_members in
    get_member-put_other name (codes "move") (string m.now) (put (codes "board") (string board.now) first) no_move
    ∙ get_member-put_other name (codes "board") (string board.now) first no_board
    ∙ get_member-put_other name (codes "cmd") (string cmd.now) no_members no_cmd

pub move_texts : (name : List ℕ) (cmd board m : Bor (List ℕ)) → name ≢ codes "cmd" → name ≢ codes "board" → name ≢ codes "move"
    → text_at name (usual_data (Move cmd board m)) ≡ None
move_texts name cmd board m no_cmd no_board no_move = ap text_in (move_keys name cmd board m no_cmd no_board no_move)

-- ---- `cmd`, `board` and `spectator`.

pub follow_keys : (name : List ℕ) (cmd board : Bor (List ℕ)) (who : ℕ) → name ≢ codes "cmd" → name ≢ codes "board" → name ≢ codes "spectator"
    → get_member name (members_in (usual_members (Follow cmd board who))) ≡ None
follow_keys name cmd board who no_cmd no_board no_who =
    let first = put (codes "cmd") (string cmd.now) no_members in
    get_member-put_other name (codes "spectator") (number (unsigned who)) (put (codes "board") (string board.now) first) no_who
    ∙ get_member-put_other name (codes "board") (string board.now) first no_board
    ∙ get_member-put_other name (codes "cmd") (string cmd.now) no_members no_cmd

pub follow_texts : (name : List ℕ) (cmd board : Bor (List ℕ)) (who : ℕ) → name ≢ codes "cmd" → name ≢ codes "board"
    → text_at name (usual_data (Follow cmd board who)) ≡ None
follow_texts name cmd board who no_cmd no_board =
    let first = put (codes "cmd") (string cmd.now) no_members in
    other_form text_in name (codes "spectator") (number (unsigned who)) (put (codes "board") (string board.now) first) refl
    (other_key text_in name (codes "board") (string board.now) first no_board (other_key text_in name (codes "cmd") (string cmd.now) no_members no_cmd refl))

pub follow_numbers : (name : List ℕ) (cmd board : Bor (List ℕ)) (who : ℕ) → name ≢ codes "spectator"
    → number_at name (usual_data (Follow cmd board who)) ≡ None
follow_numbers name cmd board who no_who =
    let first = put (codes "cmd") (string cmd.now) no_members in
    other_key number_in name (codes "spectator") (number (unsigned who)) (put (codes "board") (string board.now) first) no_who
    (other_form number_in name (codes "board") (string board.now) first refl (other_form number_in name (codes "cmd") (string cmd.now) no_members refl refl))

-- ---- `cmd`, `board`, `spectator` and `from`.

pub from_keys : (name : List ℕ) (cmd board : Bor (List ℕ)) (who from : ℕ) → name ≢ codes "cmd" → name ≢ codes "board" → name ≢ codes "spectator"
    → name ≢ codes "from" → get_member name (members_in (usual_members (FollowFrom cmd board who from))) ≡ None
from_keys name cmd board who from no_cmd no_board no_who no_from =
    get_member-put_other name (codes "from") (number (unsigned from)) (members_in (usual_members (Follow cmd board who))) no_from
    ∙ follow_keys name cmd board who no_cmd no_board no_who

pub from_texts : (name : List ℕ) (cmd board : Bor (List ℕ)) (who from : ℕ) → name ≢ codes "cmd" → name ≢ codes "board"
    → text_at name (usual_data (FollowFrom cmd board who from)) ≡ None
from_texts name cmd board who from no_cmd no_board =
    other_form text_in name (codes "from") (number (unsigned from)) (members_in (usual_members (Follow cmd board who))) refl
    (follow_texts name cmd board who no_cmd no_board)

pub from_numbers : (name : List ℕ) (cmd board : Bor (List ℕ)) (who from : ℕ) → name ≢ codes "spectator" → name ≢ codes "from"
    → number_at name (usual_data (FollowFrom cmd board who from)) ≡ None
from_numbers name cmd board who from no_who no_from =
    other_key number_in name (codes "from") (number (unsigned from)) (members_in (usual_members (Follow cmd board who))) no_from
    (follow_numbers name cmd board who no_who)
