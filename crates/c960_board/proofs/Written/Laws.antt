-- The written text is the position's.
use Rattle.std.proofs.Common.{ℕ, List, refl}
use Rattle.c960_board.specs.declared.parts.Parts.{Parts}
use Rattle.c960_board.specs.Position.{IsPosition}
use Rattle.c960_board.specs.Fen.Fields.{IsSix}
use Rattle.c960_board.specs.Fen.Text.{Spells, FenText}
use Rattle.c960_board.specs.Fen.Canonical.{fields_of, canonical}
use Rattle.c960_board.proofs.Written.Ranks.{ranks_spelt}
use Rattle.c960_board.proofs.Written.Rights.{rights_spelt}
use Rattle.c960_board.proofs.Written.Fields.{ranks_field, turn_field, rights_field, target_field, number_field}

-- the written fields spell the position
fields_spell : (p : Parts) → IsPosition p → Spells (fields_of p) p
unfolding fields_of
fields_spell p valid =
    record {
      placement = record { ranks = ranks_spelt 7 p.placement valid.placement.full; placement = valid.placement };
      turn = refl;
      rights = record { spelt = rights_spelt p.rights (λ c. (valid.rights c).width); rights = valid.rights };
      target = record { spelt = refl; fits = valid.target };
      counters = record { half_moves = refl; number = refl; counters = valid.counters };
    }

-- and are six fields
fields_are_six : (p : Parts) → IsPosition p → IsSix (fields_of p) (canonical p)
unfolding fields_of canonical
fields_are_six p valid =
    let spelt = fields_spell p valid in
    record {
      whole = refl;
      placement = ranks_field _ p.placement spelt.placement.ranks;
      turn = turn_field p.turn;
      rights = rights_field _ p.rights spelt.rights.spelt;
      target = target_field p.target;
      half_moves = number_field p.half_moves valid.counters.half_moves;
      number = number_field p.number valid.counters.bounded;
    }

-- the written text of a position is one of its texts
pub canonical_is_text : (p : Parts) → IsPosition p → FenText p (canonical p)
canonical_is_text p valid = record { fields = fields_of p; six = fields_are_six p valid; spelt = fields_spell p valid }

-- a text is a position's
pub text_of_position : (p : Parts) (text : List ℕ) → FenText p text → IsPosition p
text_of_position p text t =
    record { placement = t.spelt.placement.placement; rights = t.spelt.rights.rights; target = t.spelt.target.fits; counters = t.spelt.counters.counters }
