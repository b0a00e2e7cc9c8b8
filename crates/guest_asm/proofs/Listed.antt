-- A line of a listing: it has no label, nothing is wrong with it wherever it stands, and it places its bytes.
use Rattle.std.proofs.Common.{◌≡◌, ℕ, Bool, true, not, ◌&&◌, ◌==◌, List, [], ◌∷◌, ◌++◌, length, Option, Some, None}
use Rattle.std.specs.List.{list_all}
use Rattle.guest_asm.specs.Assemble.{statement_kind, statement_piece}
use Rattle.guest_asm.specs.Bytes.{IsPiece, Piece}
use Rattle.guest_asm.specs.Labels.{line_size}
use Rattle.guest_asm.specs.Line.{is_blank, line_of}

-- a byte of a mnemonic, a register or a number: no blank, no line feed, none of `#`, `(`, `)`, `,` and `:`
unfoldable pub is_plain : ℕ → Bool
is_plain b =
    not (is_blank b) && not (b == 10) && not (b == 35) && not (b == 40) && not (b == 41) && not (b == 44) && not (b == 58)

-- a text of such bytes
abbrev pub are_plain : List ℕ → Bool
are_plain text = list_all is_plain text

-- a line without its line feed, what it places and how many bytes
pub record Places (line : List ℕ) (piece : Piece) (size : ℕ) : Type 0 where
  pub one_line : list_all (λ b. not (b == 10)) line ≡ true
  pub unlabelled : (line_of line).label ≡ None
  pub right : (places : List ℕ → Option ℕ) (place : ℕ) → statement_kind places place (line_of line).statement ≡ None
  pub placed : (places : List ℕ → Option ℕ) (place : ℕ) → statement_piece places place (line_of line).statement ≡ Some piece
  pub sized : line_size line ≡ size

-- a line with its line feed that places these bytes
pub record PlacesBytes (text bytes : List ℕ) : Type 0 where
  pub line : List ℕ
  pub piece : Piece
  pub ended : text ≡ line ++ 10 ∷ []
  pub places : Places line piece (length bytes)
  pub is_piece : IsPiece piece bytes
