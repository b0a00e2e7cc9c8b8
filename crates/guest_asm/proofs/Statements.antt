-- A line that is a statement in form, with registers and a number in range, places its piece.
use Rattle.std.proofs.Common.{◌≡◌, ℕ, ◌++◌, true, false, ◌==◌, List, [], ◌∷◌, length, Option, Some, None, ℤ, pos, refl, ap, ◌∙◌, arith}
use Rattle.std.specs.List.{list_all}
use Rattle.guest_asm.specs.declared.mnemonic.Mnemonic.{Mnemonic}
use Rattle.guest_asm.specs.Assemble.{number_at, number_kind, operands_kind, statement_kind, statement_piece}
use Rattle.guest_asm.specs.Bytes.{is_in_range, piece_of, size_of}
use Rattle.guest_asm.specs.Labels.{number_fits, number_in, operands_in, size_placed}
use Rattle.guest_asm.specs.Line.{Line, first_word, line_of}
use Rattle.guest_asm.specs.Mnemonic.{form_of, mnemonic_named}
use Rattle.guest_asm.specs.Operand.{Target, offset}
use Rattle.guest_asm.specs.Statement.{Operands, are_registers, operands_of, registers_of, target_of}
use Rattle.guest_asm.proofs.Cuts.{IsStatement, is_clear, statement_between, statement_feed, statement_line, statement_plain, word_alone, word_before}
use Rattle.guest_asm.proofs.Empty.{zero_in_range}
use Rattle.guest_asm.proofs.Listed.{Places}
use Rattle.guest_asm.proofs.Names.{Names}
use Rattle.guest_asm.proofs.Texts.{begins}

-- ---- A statement that is read

-- a statement, its mnemonic and its operands
pub record IsRead (text : List ℕ) (m : Mnemonic) (o : Operands) : Type 0 where
  pub statement : IsStatement text
  pub named : mnemonic_named (first_word text) ≡ Some m
  pub operands : operands_in m text ≡ Some o

-- a name alone is read as its mnemonic
pub read_alone : (name : List ℕ) (m : Mnemonic) (o : Operands) → Names name m → operands_of (form_of m) [] ≡ Some o → IsRead name m o
read_alone name m o names h =
    let parts = word_alone name names.plain.plain in
    record {
      statement = statement_plain name names.plain;
      named = ap mnemonic_named parts.0 ∙ names.named;
      operands = ap (operands_of (form_of m)) parts.1 ∙ h;
    }

-- a space is a clear byte
space_clear : list_all is_clear (32 ∷ []) ≡ true
unfolding is_clear
space_clear = refl

-- a name before its operands is read as both
pub read_before : (name rest : List ℕ) (m : Mnemonic) (o : Operands) → Names name m → IsStatement rest →
    operands_of (form_of m) rest ≡ Some o → IsRead (name ++ 32 ∷ rest) m o
read_before name rest m o names is_rest h =
    let parts = word_before name rest names.plain.plain is_rest.tidy in
    record {
      statement = statement_between name (32 ∷ []) rest (statement_plain name names.plain) space_clear is_rest;
      named = ap mnemonic_named parts.0 ∙ names.named;
      operands = ap (operands_of (form_of m)) parts.1 ∙ h;
    }

-- ---- Its number

-- the number of a statement that names no label is in range
pub record HasNumber (m : Mnemonic) (target : Option Target) (z : ℤ) : Type 0 where
  pub fits : number_fits m target ≡ true
  pub stands : number_in target ≡ z
  pub everywhere : (places : List ℕ → Option ℕ) (place : ℕ) → number_at places place target ≡ Some z
  pub within : is_in_range m z ≡ true

-- a statement without a number works with 0
pub without_number : (m : Mnemonic) → HasNumber m None (pos 0)
without_number m = record { fits = refl; stands = refl; everywhere = λ places place. refl; within = zero_in_range m }

-- a number that is in range
pub with_number : (m : Mnemonic) (z : ℤ) → is_in_range m z ≡ true → HasNumber m (Some (offset z)) z
with_number m z h = record { fits = h; stands = refl; everywhere = λ places place. refl; within = h }

-- ---- Nothing is wrong with it, and what it places

-- nothing is wrong with the number
number_right : (places : List ℕ → Option ℕ) (place : ℕ) (m : Mnemonic) (target : Option Target) (z : ℤ) → HasNumber m target z →
    number_kind places place m target ≡ None
number_right places place m target z h = rw (h.fits, h.everywhere places place, h.within)

-- nor with the operands
operands_right : (places : List ℕ → Option ℕ) (place : ℕ) (m : Mnemonic) (o : Operands) (z : ℤ) → are_registers o ≡ true →
    HasNumber m (target_of o) z → operands_kind places place m o ≡ None
operands_right places place m o z registers h = rw registers (number_right places place m (target_of o) z h)

-- a statement has bytes
not_empty : (text : List ℕ) → begins text ≡ true → (length text == 0) ≡ false
not_empty [] h = absurd (grind (arith, h))
not_empty (b ∷ bs) h = grind arith

-- nothing is wrong with a statement whose operands are right
statement_right : (places : List ℕ → Option ℕ) (place : ℕ) (text : List ℕ) (m : Mnemonic) (o : Operands) → IsRead text m o →
    operands_kind places place m o ≡ None → statement_kind places place text ≡ None
unfolding statement_kind
statement_right places place text m o read right =
    let some = not_empty text read.statement.tidy.first in
    rw (some, read.named, read.operands) right

-- its piece
statement_places : (places : List ℕ → Option ℕ) (place : ℕ) (text : List ℕ) (m : Mnemonic) (o : Operands) (z : ℤ) → IsRead text m o →
    HasNumber m (target_of o) z → statement_piece places place text ≡ Some (piece_of m (registers_of o) z)
unfolding statement_piece
statement_places places place text m o z read h = rw (read.named, read.operands, h.everywhere places place)

-- how many bytes it places
statement_size : (text : List ℕ) (m : Mnemonic) (o : Operands) (z : ℤ) → IsRead text m o → HasNumber m (target_of o) z →
    size_placed text ≡ size_of m z
unfolding size_placed
statement_size text m o z read h = rw (read.named, read.operands, h.fits, h.stands)

-- so the line does
pub read_places : (text : List ℕ) (m : Mnemonic) (o : Operands) (z : ℤ) → IsRead text m o → are_registers o ≡ true →
    HasNumber m (target_of o) z → Places text (piece_of m (registers_of o) z) (size_of m z)
read_places text m o z read registers h =
    let line = statement_line text read.statement in
    let is_text : (line_of text).statement ≡ text = ap (λ (l : Line). l.statement) line in
    record {
      one_line = statement_feed text read.statement;
      unlabelled = ap (λ (l : Line). l.label) line;
      right = λ places place.
          ap (statement_kind places place) is_text
          ∙ statement_right places place text m o read (operands_right places place m o z registers h);
      placed = λ places place. ap (statement_piece places place) is_text ∙ statement_places places place text m o z read h;
      sized = ap size_placed is_text ∙ statement_size text m o z read h;
    }
