-- What is true of each connection once one of them has changed.
use Rattle.std.proofs.Common.{◌≡◌, ◌<◌, ℕ, nat_eq, List, Bool, true, false, true≢false, cond, Option, Some, refl, sym, ap, ◌∙◌, subst, arith}
use Rattle.std.proofs.lemmas.Bool.{eqb-true}
use Rattle.relay_hall.specs.declared.owner.Owner.{Owner}
use Rattle.relay_service.specs.declared.connection.Connection.{Connection}
use Rattle.relay_service.specs.Calls.{Replaces}
use Rattle.relay_service.specs.Record.{connection_in, owner_in}

-- ---- Numbers.

pub same_number : (i : ℕ) → nat_eq i i ≡ true
same_number i = grind arith

pub unlike : (i j : ℕ) → i < j → nat_eq i j ≡ false
unlike i j less = by (nat_eq i j) refl
  where
    by : (b : Bool) → nat_eq i j ≡ b → nat_eq i j ≡ false
    by true is = absurd (not_less (subst (λ (n : ℕ). i < n) (sym (eqb-true i j is)) less))
      where
        not_less : i < i → ⊥
        not_less h = omega (arith, h)
    by false is = is

pub other_way : (i j : ℕ) → nat_eq i j ≡ false → nat_eq j i ≡ false
other_way i j other = by (nat_eq j i) refl
  where
    by : (b : Bool) → nat_eq j i ≡ b → nat_eq j i ≡ false
    by true is = absurd (true≢false (sym (subst (λ (n : ℕ). nat_eq i n ≡ true) (sym (eqb-true j i is)) (same_number i)) ∙ other))
    by false is = is

-- ---- Each connection.

-- this is true of the new one, and of all others
pub each_after : (P : ℕ → Connection → Type 0) (number : ℕ) (c : Option Connection) (before after : List (ℕ × Connection)) → Replaces number c before after
    → ((d : Connection) → c ≡ Some d → P number d) → ((i : ℕ) (d : Connection) → nat_eq number i ≡ false → connection_in before i ≡ Some d → P i d)
    → (i : ℕ) (d : Connection) → connection_in after i ≡ Some d → P i d
each_after P number c before after replaced one others i d at = by (nat_eq number i) refl (sym (replaced i) ∙ at)
  where
    by : (b : Bool) → nat_eq number i ≡ b → cond b c (connection_in before i) ≡ Some d → P i d
    by true here is = subst (λ (n : ℕ). P n d) (eqb-true number i here) (one d is)
    by false here is = others i d here is

-- ---- Who is in the hall.

pub owner_after : (number : ℕ) (c : Option Connection) (before after : List (ℕ × Connection)) → Replaces number c before after
    → (i : ℕ) → owner_in (connection_in after i) ≡ cond (nat_eq number i) (owner_in c) (owner_in (connection_in before i))
owner_after number c before after replaced i = ap owner_in (replaced i) ∙ by (nat_eq number i)
  where
    by : (b : Bool) → owner_in (cond b c (connection_in before i)) ≡ cond b (owner_in c) (owner_in (connection_in before i))
    by true = refl
    by false = refl

-- nobody has come or gone, if the new one is who the old one was
pub owners_stay : (number : ℕ) (c : Option Connection) (before after : List (ℕ × Connection)) → Replaces number c before after → owner_in c ≡ owner_in (connection_in before number)
    → (i : ℕ) → owner_in (connection_in after i) ≡ owner_in (connection_in before i)
owners_stay number c before after replaced same i = owner_after number c before after replaced i ∙ by (nat_eq number i) refl
  where
    by : (b : Bool) → nat_eq number i ≡ b → cond b (owner_in c) (owner_in (connection_in before i)) ≡ owner_in (connection_in before i)
    by true here = subst (λ (n : ℕ). owner_in c ≡ owner_in (connection_in before n)) (eqb-true number i here) same
    by false here = refl

-- this is true of who the new one is, and of all others
pub each_owner : (P : ℕ → Owner → Type 0) (number : ℕ) (c : Option Connection) (before after : List (ℕ × Connection)) → Replaces number c before after
    → ((who : Owner) → owner_in c ≡ Some who → P number who) → ((i : ℕ) (who : Owner) → nat_eq number i ≡ false → owner_in (connection_in before i) ≡ Some who → P i who)
    → (i : ℕ) (who : Owner) → owner_in (connection_in after i) ≡ Some who → P i who
each_owner P number c before after replaced one others i who at = by (nat_eq number i) refl (sym (owner_after number c before after replaced i) ∙ at)
  where
    by : (b : Bool) → nat_eq number i ≡ b → cond b (owner_in c) (owner_in (connection_in before i)) ≡ Some who → P i who
    by true here is = subst (λ (n : ℕ). P n who) (eqb-true number i here) (one who is)
    by false here is = others i who here is
