-- Where the head of a request ends, and how far it has come: RFC 9112, sections 2.1 and 2.2.
use Rattle.std.specs.Prelude.{ℕ, suc, ◌+◌, ◌-◌, ◌≤◌, ⊤, ◌==◌, ◌||◌, ◌∷◌, [], Bool, false, cond, nat_eq, nat_lt, List, length, take, drop, codes, Option, None, Some, option_map}
use Rattle.std.specs.List.{starts_with}
use Rattle.relay_frames.specs.declared.head.HeadSoFar.{HeadSoFar}
use Rattle.relay_frames.specs.declared.head.HeadSoFar.TheVariants.{Part, Whole, Refused}
use Rattle.relay_frames.specs.declared.request.TheConstants.{MOST_HEAD_BYTES}
use Rattle.relay_frames.specs.declared.request_refusal.RequestRefusal.TheVariants.{BadRequest, HeadTooLarge}

-- behind the first CR LF CR LF: a line ends, and an empty one follows it
unfoldable pub blank_end : List ℕ → Option ℕ
blank_end [] = None
blank_end (b ∷ bs) = cond (starts_with nat_eq (b ∷ bs) (codes "\r\n\r\n")) (Some 4) (option_map suc (blank_end bs))

-- the same for bytes of which the first n are left out: no empty line that begins within these counts
abbrev pub blank_end_behind : ℕ → List ℕ → Option ℕ
blank_end_behind n bytes = option_map (λ end. end + n) (blank_end (drop n bytes))

-- the head that the bytes begin with ends behind so many of them, which are no more than a head may have
abbrev pub head_end : List ℕ → Option ℕ
head_end bytes = blank_end (take MOST_HEAD_BYTES bytes)

-- the same for bytes of which the first `seen` were looked at before: only the last three of these can begin an empty line that ends behind
-- them
abbrev pub head_end_behind : ℕ → List ℕ → Option ℕ
head_end_behind seen bytes = blank_end_behind (seen - 3) (take MOST_HEAD_BYTES bytes)

-- they begin with an empty line, even if its end is an LF alone, which section 2.2 lets a server take for one
abbrev pub begins_blank : List ℕ → Bool
begins_blank [] = false
begins_blank (b ∷ bs) = (b == 13) || (b == 10)

-- a head that has no end within so many bytes, where it may have no more, is too large
abbrev pub settled : ℕ → Option ℕ → HeadSoFar
settled size None = cond (nat_lt size MOST_HEAD_BYTES) Part (Refused HeadTooLarge)
settled size (Some end) = Whole end

-- how far the head has come that the bytes begin with: section 2.2 lets a server skip an empty line before it, and this one refuses it
abbrev pub head_so_far : List ℕ → HeadSoFar
head_so_far bytes = cond (begins_blank bytes) (Refused BadRequest) (settled (length bytes) (head_end bytes))

-- the same for bytes of which the first `seen` were looked at before
abbrev pub head_so_far_behind : ℕ → List ℕ → HeadSoFar
head_so_far_behind seen bytes = cond (begins_blank bytes) (Refused BadRequest) (settled (length bytes) (head_end_behind seen bytes))

-- one that is whole ends within so many bytes
abbrev pub EndsWithin : ℕ → HeadSoFar → Type 0
EndsWithin size Part = ⊤
EndsWithin size (Whole end) = end ≤ size
EndsWithin size (Refused refusal) = ⊤
