-- What a line of a journal says: who made a step, and the command that asks for it.
use Rattle.std.specs.Prelude.{◌≡◌, ◌≢◌, ℕ, ◌+◌, ◌≤◌, ◌==◌, ◌&&◌, Bool, true, not, cond, List, [], ◌∷◌, ◌++◌, length, slice_get, take, Option, Some, None, Ok, codes}
use Rattle.std.specs.List.{list_all}
use Rattle.std.specs.Str.{bytes_eq}
use Rattle.chained_lines.specs.Lines.{Line, file_of, no_seal}
use Rattle.relay_hall.specs.Keys.{filled, is_key}
use Rattle.relay_messages.specs.Decoding.{decoded}
use Rattle.relay_journal.specs.declared.entry.Entry.{Entry}
use Rattle.relay_journal.specs.Kept.{key_of, step_of}

abbrev pub has_no_space : List ℕ → Bool
has_no_space text = list_all (λ b. not (b == 32)) text

-- a key, or `-` for none
abbrev pub key_in : List ℕ → Option (Option (List ℕ))
key_in text = cond (bytes_eq text (codes "-")) (Some None) (cond (is_key text) (Some (Some (filled text))) None)

-- whether a text is a key of 64 bytes, behind which no zeros are
abbrev pub is_whole : List ℕ → Bool
is_whole text = (length text == 64) && is_key text

-- whether lines are made of an owner with this key, padded with zeros: it has all 64 bytes, or there is none
abbrev pub is_written : Option (List ℕ) → Bool
is_written None = true
is_written (Some key) = is_whole key

-- the key of an open, or `-`; a space; and the command as in a script
pub record IsBody (body : List ℕ) (e : Entry) : Type 0 where
  pub owner : List ℕ
  pub command : List ℕ
  pub parts : body ≡ owner ++ 32 ∷ command
  pub whole : has_no_space owner ≡ true
  pub key : key_in owner ≡ Some (key_of e)
  pub step : decoded command ≡ Ok (step_of e)

-- each line says one entry
abbrev pub AllBodies : List Line → List Entry → Type 0
AllBodies [] [] = Unit {0}
AllBodies [] (e ∷ es) = ⊥
AllBodies (l ∷ ls) [] = ⊥
AllBodies (l ∷ ls) (e ∷ es) = IsBody l.body e × AllBodies ls es

-- the line of this place says no entry
abbrev pub IsUnread : List Line → ℕ → Type 0
IsUnread ls at = (l : Line) × (slice_get ls at ≡ Some l) × ((e : Entry) → IsBody l.body e → ⊥)

-- what the first line of a journal says
abbrev pub first_body : List ℕ
first_body = codes "relay960 journal 1"

-- a journal says these entries behind its first line; one without any line says none
abbrev pub SaysEntries : List Line → List Entry → Type 0
SaysEntries [] es = es ≡ []
SaysEntries (l ∷ ls) es = (l.body ≡ first_body) × AllBodies ls es

-- a first line is there, and says something else
abbrev pub BeginsOtherwise : List Line → Type 0
BeginsOtherwise ls = (l : Line) × (slice_get ls 0 ≡ Some l) × (l.body ≢ first_body)

-- these are the first of some entries, and at least those whose lines were synced
pub record AreFirstOf (ls : List Line) (es : List Entry) (synced : ℕ) (got : List Entry) : Type 0 where
  pub count : ℕ
  pub at_least : (n : ℕ) → n ≤ length es → length (file_of no_seal (take (n + 1) ls)) ≤ synced → n ≤ count
  pub first : got ≡ take count es
