-- Where a head ends, looked for byte by byte.
use Rattle.std.proofs.Common.{◌≡◌, ◌≤◌, ◌<◌, ℕ, suc, ◌+◌, ◌-◌, Bool, true, false, nat_eq, List, [], ◌∷◌, length, take, drop, None, Some, sym, ◌∙◌, ap, arith, length-take, min}
use Rattle.std.specs.Cmp.Lexicographic.{nat_list_eq_equiv, pointwise}
use Rattle.std.proofs.lemmas.List.{drop-take, take-take}
use Rattle.relay_frames.specs.Heads.{blank_end_behind}
use Rattle.relay_frames.proofs.lemmas.Blanks.{blank_here, blank_later, blank_nowhere, starts_blank}

module _ (at most : ℕ) (bytes : List ℕ) where
  -- the last four of the bytes up to one, as the loop takes them
  abbrev window : List ℕ
  window = take (at + 1 - (at - 3)) (drop (at - 3) bytes)

  module _ (some : 3 ≤ at) (within : at < min (length bytes) most) where
    is_window : take 4 (drop (at - 3) (take most bytes)) ≡ window
    is_window =
        let m = most - (at - 3) in
        let all : most ≡ at - 3 + m = omega (arith, some, within) in
        let four : 4 ≡ at + 1 - (at - 3) = omega (arith, some) in
        ap (λ (k : ℕ). take 4 (drop (at - 3) (take k bytes))) all
        ∙ ap (take 4) (drop-take (at - 3) m bytes)
        ∙ take-take 4 m (drop (at - 3) bytes) (omega (arith, some, within))
        ∙ ap (λ (k : ℕ). take k (drop (at - 3) bytes)) four

    looks : (t : Bool) → t ≡ pointwise nat_eq window (13 ∷ 10 ∷ 13 ∷ 10 ∷ []) → starts_blank (drop (at - 3) (take most bytes)) ≡ t
    looks t is = nat_list_eq_equiv.symm (13 ∷ 10 ∷ 13 ∷ 10 ∷ []) (take 4 (drop (at - 3) (take most bytes))) ∙ ap (λ (w : List ℕ). pointwise nat_eq w (13 ∷ 10 ∷ 13 ∷ 10 ∷ [])) is_window ∙ sym is

    begins_within : at - 3 < length (take most bytes)
    begins_within = omega (arith, within, length-take most bytes)

    pub found_at : true ≡ pointwise nat_eq window (13 ∷ 10 ∷ 13 ∷ 10 ∷ []) → Some (at + 1) ≡ blank_end_behind (at - 3) (take most bytes)
    found_at is = ap Some (omega (arith, some)) ∙ sym (blank_here (at - 3) (take most bytes) begins_within (looks true is))

    pub not_found_at : false ≡ pointwise nat_eq window (13 ∷ 10 ∷ 13 ∷ 10 ∷ []) → blank_end_behind (at - 3) (take most bytes) ≡ blank_end_behind (at + 1 - 3) (take most bytes)
    not_found_at is =
        let next : suc (at - 3) ≡ at + 1 - 3 = omega (arith, some) in
        blank_later (at - 3) (take most bytes) begins_within (looks false is)
        ∙ ap (λ (k : ℕ). blank_end_behind k (take most bytes)) next

  pub not_found : min (length bytes) most ≤ at → 3 ≤ at → blank_end_behind (at - 3) (take most bytes) ≡ None
  not_found end some = blank_nowhere (at - 3) (take most bytes) (omega (arith, end, some, length-take most bytes))
