-- Each kind of statement of a listing places its piece.
use Rattle.std.proofs.Common.{◌≡◌, ℕ, ◌^◌, ◌<◌, ◌++◌, true, List, ◌∷◌, Some, None, ℤ, pos, unsigned_abs, refl, sym, subst, append_assoc}
use Rattle.std.specs.Fmt.{decimal, signed_decimal}
use Rattle.guest_asm.specs.declared.mnemonic.Mnemonic.{Mnemonic}
use Rattle.guest_asm.specs.declared.mnemonic.Form.TheVariants as form
use Rattle.guest_asm.specs.Bytes.{is_in_range, piece_of, size_of}
use Rattle.guest_asm.specs.Listing.{at_register, indexed_text, numbered_text, register_text, registers_text, three_operands, two_operands}
use Rattle.guest_asm.specs.Mnemonic.{form_of}
use Rattle.guest_asm.specs.Operand.{offset}
use Rattle.guest_asm.specs.Statement.{Operands, are_registers, bare, number, numbered, operands_of, register_number, register_target, registers, registers_number, registers_of, registers_target, target_of}
use Rattle.guest_asm.proofs.Cuts.{IsStatement, statement_plain}
use Rattle.guest_asm.proofs.Forms.{IsNumberText, at_form, at_statement, bare_form, given_form, indexed_form, indexed_statement, joined, joined_statement, jump_form, number_form, register_statement, registers_form, target_form, upper_form}
use Rattle.guest_asm.proofs.Listed.{Places}
use Rattle.guest_asm.proofs.ReadBack.{decimal_read, number_read, register_read}
use Rattle.guest_asm.proofs.Names.{Names}
use Rattle.guest_asm.proofs.Statements.{HasNumber, read_alone, read_before, read_places, with_number, without_number}

-- ---- A name and its operands

-- a name and two operands, as a listing writes them
two_is : (name a b : List ℕ) → name ++ 32 ∷ joined a b ≡ two_operands name a b
two_is name a b = sym (simp append_assoc)

-- a name and three operands
three_is : (name a b c : List ℕ) → name ++ 32 ∷ joined a (joined b c) ≡ three_operands name a b c
three_is name a b c = sym (simp append_assoc)

-- a name before operands that read places its piece
rest_places : (name rest text : List ℕ) (m : Mnemonic) (o : Operands) (z : ℤ) → name ++ 32 ∷ rest ≡ text → Names name m → IsStatement rest →
    operands_of (form_of m) rest ≡ Some o → are_registers o ≡ true → HasNumber m (target_of o) z →
    Places text (piece_of m (registers_of o) z) (size_of m z)
rest_places name rest text m o z is names statement reads all h =
    subst (λ (t : List ℕ). Places t (piece_of m (registers_of o) z) (size_of m z)) is
    (read_places (name ++ 32 ∷ rest) m o z (read_before name rest m o names statement reads) all h)

-- ---- Registers before what follows them

-- two registers and what follows them
after_two : (a b : ℕ) (rest : List ℕ) → a < 32 → b < 32 → IsStatement rest →
    IsStatement (joined (register_text a) (joined (register_text b) rest))
after_two a b rest ha hb h =
    joined_statement (register_text a) (joined (register_text b) rest) (register_statement (register_text a) a (register_read a ha))
    (joined_statement (register_text b) rest (register_statement (register_text b) b (register_read b hb)) h)

-- a register and what follows it
after_one : (a : ℕ) (rest : List ℕ) → a < 32 → IsStatement rest → IsStatement (joined (register_text a) rest)
after_one a rest ha h = joined_statement (register_text a) rest (register_statement (register_text a) a (register_read a ha)) h

-- ---- The kinds of statements

-- three registers
pub registers_places : (name : List ℕ) (m : Mnemonic) (a b c : ℕ) → Names name m → form_of m ≡ form.Registers →
    a < 32 → b < 32 → c < 32 →
    Places (registers_text name a b c) (piece_of m (numbered (Some a) (Some b) (Some c)) (pos 0)) (size_of m (pos 0))
registers_places name m a b c names is ha hb hc =
    let third = register_read c hc in
    rest_places name (joined (register_text a) (joined (register_text b) (register_text c))) (registers_text name a b c) m
    (registers (Some a) (Some b) (Some c)) (pos 0) (three_is name (register_text a) (register_text b) (register_text c)) names
    (after_two a b (register_text c) ha hb (register_statement (register_text c) c third))
    (rw is (registers_form (register_text a) (register_text b) (register_text c) a b c (register_read a ha) (register_read b hb) third)) refl
    (without_number m)

-- two registers and one in parentheses
pub at_places : (name : List ℕ) (m : Mnemonic) (a b c : ℕ) → Names name m → form_of m ≡ form.RegistersAt →
    a < 32 → b < 32 → c < 32 →
    Places (three_operands name (register_text a) (register_text b) (at_register c)) (piece_of m (numbered (Some a) (Some b) (Some c)) (pos 0))
    (size_of m (pos 0))
at_places name m a b c names is ha hb hc =
    let third = register_read c hc in
    rest_places name (joined (register_text a) (joined (register_text b) (at_register c)))
    (three_operands name (register_text a) (register_text b) (at_register c)) m (registers (Some a) (Some b) (Some c)) (pos 0)
    (three_is name (register_text a) (register_text b) (at_register c)) names
    (after_two a b (at_register c) ha hb (at_statement (register_text c) c third))
    (rw is (at_form (register_text a) (register_text b) (register_text c) a b c (register_read a ha) (register_read b hb) third)) refl
    (without_number m)

-- two registers and a number
pub numbered_places : (name : List ℕ) (m : Mnemonic) (a b : ℕ) (z : ℤ) → Names name m → form_of m ≡ form.RegistersNumber →
    a < 32 → b < 32 → unsigned_abs z < 2 ^ 32 → is_in_range m z ≡ true →
    Places (numbered_text name a b z) (piece_of m (numbered (Some a) (Some b) None) z) (size_of m z)
numbered_places name m a b z names is ha hb hz within =
    let shown = number_read z hz in
    rest_places name (joined (register_text a) (joined (register_text b) (signed_decimal z))) (numbered_text name a b z) m
    (registers_number (Some a) (Some b) z) z (three_is name (register_text a) (register_text b) (signed_decimal z)) names
    (after_two a b (signed_decimal z) ha hb (statement_plain (signed_decimal z) shown.plain))
    (rw is (number_form (register_text a) (register_text b) (signed_decimal z) a b z (register_read a ha) (register_read b hb) shown)) refl
    (with_number m z within)

-- two registers and an offset
pub target_places : (name : List ℕ) (m : Mnemonic) (a b : ℕ) (z : ℤ) → Names name m → form_of m ≡ form.RegistersTarget →
    a < 32 → b < 32 → unsigned_abs z < 2 ^ 32 → is_in_range m z ≡ true →
    Places (numbered_text name a b z) (piece_of m (numbered (Some a) (Some b) None) z) (size_of m z)
target_places name m a b z names is ha hb hz within =
    let shown = number_read z hz in
    rest_places name (joined (register_text a) (joined (register_text b) (signed_decimal z))) (numbered_text name a b z) m
    (registers_target (Some a) (Some b) (offset z)) z (three_is name (register_text a) (register_text b) (signed_decimal z)) names
    (after_two a b (signed_decimal z) ha hb (statement_plain (signed_decimal z) shown.plain))
    (rw is (target_form (register_text a) (register_text b) (signed_decimal z) a b z (register_read a ha) (register_read b hb) shown)) refl
    (with_number m z within)

-- a register, and a number before one in parentheses
pub indexed_places : (name : List ℕ) (m : Mnemonic) (a : ℕ) (z : ℤ) (base : ℕ) → Names name m → form_of m ≡ form.Indexed →
    a < 32 → base < 32 → unsigned_abs z < 2 ^ 32 → is_in_range m z ≡ true →
    Places (indexed_text name a z base) (piece_of m (numbered (Some a) (Some base) None) z) (size_of m z)
indexed_places name m a z base names is ha hb hz within =
    let shown = number_read z hz in
    let index = register_read base hb in
    rest_places name (joined (register_text a) (signed_decimal z ++ at_register base)) (indexed_text name a z base) m
    (registers_number (Some a) (Some base) z) z (two_is name (register_text a) (signed_decimal z ++ at_register base)) names
    (after_one a (signed_decimal z ++ at_register base) ha (indexed_statement (signed_decimal z) (register_text base) base shown.plain index))
    (rw is (indexed_form (register_text a) (signed_decimal z) (register_text base) a base z (register_read a ha) shown index)) refl (with_number m z within)

-- a register and an offset
pub jump_places : (name : List ℕ) (m : Mnemonic) (a : ℕ) (z : ℤ) → Names name m → form_of m ≡ form.RegisterTarget →
    a < 32 → unsigned_abs z < 2 ^ 32 → is_in_range m z ≡ true →
    Places (two_operands name (register_text a) (signed_decimal z)) (piece_of m (numbered (Some a) None None) z) (size_of m z)
jump_places name m a z names is ha hz within =
    let shown = number_read z hz in
    rest_places name (joined (register_text a) (signed_decimal z)) (two_operands name (register_text a) (signed_decimal z)) m
    (register_target (Some a) (offset z)) z (two_is name (register_text a) (signed_decimal z)) names
    (after_one a (signed_decimal z) ha (statement_plain (signed_decimal z) shown.plain))
    (rw is (jump_form (register_text a) (signed_decimal z) a z (register_read a ha) shown)) refl (with_number m z within)

-- a register and a number without a sign
pub upper_places : (name : List ℕ) (m : Mnemonic) (a n : ℕ) → Names name m → form_of m ≡ form.RegisterNumber →
    a < 32 → n < 2 ^ 32 → is_in_range m (pos n) ≡ true →
    Places (two_operands name (register_text a) (decimal n)) (piece_of m (numbered (Some a) None None) (pos n)) (size_of m (pos n))
upper_places name m a n names is ha hn within =
    let shown = decimal_read n hn in
    rest_places name (joined (register_text a) (decimal n)) (two_operands name (register_text a) (decimal n)) m
    (register_number (Some a) (pos n)) (pos n) (two_is name (register_text a) (decimal n)) names
    (after_one a (decimal n) ha (statement_plain (decimal n) shown.plain))
    (rw is (upper_form (register_text a) (decimal n) a (pos n) (register_read a ha) shown)) refl (with_number m (pos n) within)

-- a number alone
pub given_places : (name text : List ℕ) (m : Mnemonic) (z : ℤ) → Names name m → form_of m ≡ form.Number → IsNumberText text z →
    is_in_range m z ≡ true → Places (name ++ 32 ∷ text) (piece_of m (numbered None None None) z) (size_of m z)
given_places name text m z names is h within =
    rest_places name text (name ++ 32 ∷ text) m (number z) z refl names (statement_plain text h.plain) (rw is (given_form text z h)) refl
    (with_number m z within)

-- a name alone
pub bare_places : (name : List ℕ) (m : Mnemonic) → Names name m → form_of m ≡ form.Bare →
    Places name (piece_of m (numbered None None None) (pos 0)) (size_of m (pos 0))
bare_places name m names is = read_places name m bare (pos 0) (read_alone name m bare names (rw is bare_form)) refl (without_number m)
