-- How the reader's inner functions describe a text and its parts; only they cite this.
use Rattle.std.specs.Prelude.{ℕ, ◌≡◌, ◌≢◌, ◌≤◌, ◌+◌, List, ◌∷◌, ◌++◌, ◌⊎◌}
use Rattle.c960_board.specs.declared.piece.Piece.{Piece}
use Rattle.c960_board.specs.declared.rights.CastlingRights.{CastlingRights}
use Rattle.c960_board.specs.declared.fen.fields.Fields.{Fields}
use Rattle.c960_board.specs.declared.fen.symbol.Symbol.{Symbol}
use Rattle.c960_board.specs.declared.fen.symbol.Symbol.TheVariants.{Man, Run, Other}
use Rattle.c960_board.specs.Fen.Letters.{letter}
use Rattle.c960_board.specs.Fen.Fields.{Six, IsField}
use Rattle.c960_board.specs.Fen.Rights.{SpellsNoRights, SpellsRights}

-- the bytes of the six fields
abbrev pub six_of : Fields → Six
six_of f =
    record {
      placement = f.placement.now;
      turn = f.turn.now;
      rights = f.rights.now;
      target = f.target.now;
      half_moves = f.half_moves.now;
      number = f.number.now;
    }

-- the text begins with this field, followed by a space and the rest
pub record IsFront (text front rest : List ℕ) : Type 0 where
  pub whole : text ≡ front ++ 32 ∷ rest
  pub field : IsField front

-- the byte is the digit of a run of n empty squares
pub record IsRunOf (n b : ℕ) : Type 0 where
  pub some : 1 ≤ n
  pub bound : n ≤ 8
  pub digit : b ≡ 48 + n

-- the byte is neither a piece's letter nor a run's digit
pub record IsNoSymbol (b : ℕ) : Type 0 where
  pub no_man : (p : Piece) → b ≢ letter p
  pub no_run : (n : ℕ) → IsRunOf n b → ⊥

-- what a byte of a rank means
abbrev pub IsSymbol : Symbol → ℕ → Type 0
IsSymbol (Man p) b = b ≡ letter p
IsSymbol (Run n) b = IsRunOf n b
IsSymbol Other b = IsNoSymbol b

-- the text names the rights, which need not fit a placement
abbrev pub NamesRights : List ℕ → CastlingRights → Type 0
NamesRights text r = SpellsNoRights text r ⊎ SpellsRights text r
