-- Operands of each form, written out, read back.
use Rattle.std.proofs.Common.{◌≡◌, ℕ, ◌++◌, true, ◌==◌, List, [], ◌∷◌, Option, Some, ℤ, refl, ap, ◌∙◌}
use Rattle.std.specs.List.{list_all}
use Rattle.std.specs.Option.{option_and_then}
use Rattle.guest_asm.specs.declared.mnemonic.Form.TheVariants as form
use Rattle.guest_asm.specs.Line.{cut, is_blank, trim}
use Rattle.guest_asm.specs.Number.{number_of}
use Rattle.guest_asm.specs.Operand.{before_register, closed, indexed, offset, register_at, register_in, target_in}
use Rattle.guest_asm.specs.Statement.{bare, registers, registers_number, registers_target, register_number, register_target, number, operands_of, pair_of, triple_of}
use Rattle.guest_asm.proofs.Cuts.{IsPlain, IsStatement, cut_at, is_clear, no_close, no_comma, no_open, plain_tidy, statement_between, statement_plain}
use Rattle.guest_asm.proofs.Targets.{target_number}
use Rattle.guest_asm.proofs.Texts.{IsTidy, all_fail, trim_space, trim_tidy}

-- ---- Two operands and three

-- two parts round a comma
cut_pair : (a b : List ℕ) → IsPlain a → IsTidy b → cut 44 (a ++ 44 ∷ 32 ∷ b) ≡ Some (a, b)
cut_pair a b plain tidy =
    cut_at 44 a (32 ∷ b) (no_comma a plain.plain)
    ∙ ap (λ (t : List ℕ). Some (t, trim (32 ∷ b))) (trim_tidy a (plain_tidy a plain))
    ∙ ap (λ (t : List ℕ). Some (a, t)) (trim_space b tidy)

-- two operands, each read by its own rule
pair_by : {A B : Type 0} (first : List ℕ → Option A) (second : List ℕ → Option B) (text a b : List ℕ) (x : A) (y : B) →
    cut 44 text ≡ Some (a, b) → first a ≡ Some x → second b ≡ Some y → pair_of first second text ≡ Some (x, y)
pair_by first second text a b x y parts is_x is_y = rw (parts, is_x, is_y)

-- the same of two that are written with a comma between them
pair_reads : {A B : Type 0} (first : List ℕ → Option A) (second : List ℕ → Option B) (a b : List ℕ) (x : A) (y : B) →
    IsPlain a → IsTidy b → first a ≡ Some x → second b ≡ Some y → pair_of first second (a ++ 44 ∷ 32 ∷ b) ≡ Some (x, y)
pair_reads first second a b x y plain tidy is_x is_y =
    pair_by first second (a ++ 44 ∷ 32 ∷ b) a b x y (cut_pair a b plain tidy) is_x is_y

-- a text that is a register's
pub record IsRegisterText (text : List ℕ) (r : ℕ) : Type 0 where
  pub plain : IsPlain text
  pub reads : register_in text ≡ Some (Some r)

-- it can be a part of a statement
pub register_statement : (text : List ℕ) (r : ℕ) → IsRegisterText text r → IsStatement text
register_statement text r h = statement_plain text h.plain

-- two operands behind one another
abbrev pub joined : List ℕ → List ℕ → List ℕ
joined a b = a ++ 44 ∷ 32 ∷ b

-- a comma and a space are clear bytes
comma_clear : list_all is_clear (44 ∷ 32 ∷ []) ≡ true
unfolding is_clear
comma_clear = refl

-- they can be a part of a statement, where each can
pub joined_statement : (a b : List ℕ) → IsStatement a → IsStatement b → IsStatement (joined a b)
joined_statement a b left right = statement_between a (44 ∷ 32 ∷ []) b left comma_clear right

-- three operands, of which two are registers
triple_reads : {A : Type 0} (third : List ℕ → Option A) (a b c : List ℕ) (r s : ℕ) (x : A) → IsRegisterText a r → IsRegisterText b s →
    IsStatement c → third c ≡ Some x → triple_of third (joined a (joined b c)) ≡ Some (Some r, (Some s, x))
triple_reads third a b c r s x is_a is_b is_c is_x =
    let rest : IsStatement (joined b c) = joined_statement b c (statement_plain b is_b.plain) is_c in
    pair_reads register_in (pair_of register_in third) a (joined b c) (Some r) (Some s, x) is_a.plain rest.tidy is_a.reads
    (pair_reads register_in third b c (Some s) x is_b.plain is_c.tidy is_b.reads is_x)

-- ---- A register between parentheses

-- a text and a `)`
abbrev pub closed_text : List ℕ → List ℕ
closed_text text = text ++ 41 ∷ []

-- a `)` can be a part of a statement
bracket : IsStatement (41 ∷ [])
unfolding is_clear is_blank
bracket = record { tidy = record { first = refl; last = refl }; clear = refl }

-- a register before the `)` that ends the text
closed_by : (inner text : List ℕ) (r : Option ℕ) → cut 41 inner ≡ Some (text, []) → register_in text ≡ Some r →
    option_and_then closed (cut 41 inner) ≡ Some r
closed_by inner text r parts reads = rw parts reads

-- the same of one that is written so
closed_reads : (text : List ℕ) (r : ℕ) → IsRegisterText text r → option_and_then closed (cut 41 (closed_text text)) ≡ Some (Some r)
closed_reads text r h =
    closed_by (closed_text text) text (Some r)
    (cut_at 41 text [] (no_close text h.plain.plain)
    ∙ ap (λ (t : List ℕ). Some (t, [])) (trim_tidy text (plain_tidy text h.plain)))
    h.reads

-- a register between parentheses, and what stands before it
before_by : (text front inner : List ℕ) (r : Option ℕ) → cut 40 text ≡ Some (front, inner) →
    option_and_then closed (cut 41 inner) ≡ Some r → before_register text ≡ Some (front, r)
before_by text front inner r parts reads = rw (parts, reads)

-- the same of one that is written so
before_reads : (front text : List ℕ) (r : ℕ) → all_fail (λ b. b == 40) front ≡ true → trim front ≡ front → IsRegisterText text r →
    before_register (front ++ 40 ∷ closed_text text) ≡ Some (front, Some r)
before_reads front text r unopened trimmed h =
    let inner : IsStatement (closed_text text) = statement_between text [] (41 ∷ []) (statement_plain text h.plain) refl bracket in
    before_by (front ++ 40 ∷ closed_text text) front (closed_text text) (Some r)
    (cut_at 40 front (closed_text text) unopened
    ∙ ap (λ (t : List ℕ). Some (t, trim (closed_text text))) trimmed
    ∙ ap (λ (t : List ℕ). Some (front, t)) (trim_tidy (closed_text text) inner.tidy))
    (closed_reads text r h)

-- a register in parentheses can be a part of a statement
pub at_statement : (text : List ℕ) (r : ℕ) → IsRegisterText text r → IsStatement (40 ∷ closed_text text)
unfolding is_clear is_blank
at_statement text r h =
    statement_between (40 ∷ []) text (41 ∷ []) (record { tidy = record { first = refl; last = refl }; clear = refl })
    (statement_plain text h.plain).clear bracket

-- and so can a number before it
pub indexed_statement : (front text : List ℕ) (r : ℕ) → IsPlain front → IsRegisterText text r → IsStatement (front ++ 40 ∷ closed_text text)
indexed_statement front text r plain h = statement_between front [] (40 ∷ closed_text text) (statement_plain front plain) refl (at_statement text r h)

-- nothing before the register
at_by : (text : List ℕ) (r : Option ℕ) → before_register text ≡ Some ([], r) → register_at text ≡ Some r
unfolding register_at
at_by text r h = rw h

-- a register in parentheses reads back
at_reads : (text : List ℕ) (r : ℕ) → IsRegisterText text r → register_at (40 ∷ closed_text text) ≡ Some (Some r)
at_reads text r h = at_by (40 ∷ closed_text text) (Some r) (before_reads [] text r refl refl h)

-- a number before the register
indexed_by : (text front : List ℕ) (r : Option ℕ) (z : ℤ) → before_register text ≡ Some (front, r) → number_of front ≡ Some z →
    indexed text ≡ Some (z, r)
unfolding indexed
indexed_by text front r z h is_number = rw (h, is_number)

-- a text that is a number's
pub record IsNumberText (text : List ℕ) (z : ℤ) : Type 0 where
  pub plain : IsPlain text
  pub reads : number_of text ≡ Some z

-- a number and a register in parentheses read back
indexed_reads : (front text : List ℕ) (r : ℕ) (z : ℤ) → IsNumberText front z → IsRegisterText text r →
    indexed (front ++ 40 ∷ closed_text text) ≡ Some (z, Some r)
indexed_reads front text r z is_number h =
    indexed_by (front ++ 40 ∷ closed_text text) front (Some r) z
    (before_reads front text r (no_open front is_number.plain.plain) (trim_tidy front (plain_tidy front is_number.plain)) h)
    is_number.reads

-- ---- The forms

-- three registers
pub registers_form : (a b c : List ℕ) (r s t : ℕ) → IsRegisterText a r → IsRegisterText b s → IsRegisterText c t →
    operands_of form.Registers (joined a (joined b c)) ≡ Some (registers (Some r) (Some s) (Some t))
unfolding operands_of
registers_form a b c r s t is_a is_b is_c = rw (triple_reads register_in a b c r s (Some t) is_a is_b (register_statement c t is_c) is_c.reads)

-- two registers and one in parentheses
pub at_form : (a b c : List ℕ) (r s t : ℕ) → IsRegisterText a r → IsRegisterText b s → IsRegisterText c t →
    operands_of form.RegistersAt (joined a (joined b (40 ∷ closed_text c))) ≡ Some (registers (Some r) (Some s) (Some t))
unfolding operands_of
at_form a b c r s t is_a is_b is_c =
    rw (triple_reads register_at a b (40 ∷ closed_text c) r s (Some t) is_a is_b (at_statement c t is_c) (at_reads c t is_c))

-- two registers and a number
pub number_form : (a b c : List ℕ) (r s : ℕ) (z : ℤ) → IsRegisterText a r → IsRegisterText b s → IsNumberText c z →
    operands_of form.RegistersNumber (joined a (joined b c)) ≡ Some (registers_number (Some r) (Some s) z)
unfolding operands_of
number_form a b c r s z is_a is_b is_c = rw (triple_reads number_of a b c r s z is_a is_b (statement_plain c is_c.plain) is_c.reads)

-- a register, and a number before one in parentheses
pub indexed_form : (a b c : List ℕ) (r s : ℕ) (z : ℤ) → IsRegisterText a r → IsNumberText b z → IsRegisterText c s →
    operands_of form.Indexed (joined a (b ++ 40 ∷ closed_text c)) ≡ Some (registers_number (Some r) (Some s) z)
unfolding operands_of
indexed_form a b c r s z is_a is_b is_c =
    rw (pair_reads register_in indexed a (b ++ 40 ∷ closed_text c) (Some r) (z, Some s) is_a.plain
    (indexed_statement b c s is_b.plain is_c).tidy is_a.reads (indexed_reads b c s z is_b is_c))

-- two registers and a target
pub target_form : (a b c : List ℕ) (r s : ℕ) (z : ℤ) → IsRegisterText a r → IsRegisterText b s → IsNumberText c z →
    operands_of form.RegistersTarget (joined a (joined b c)) ≡ Some (registers_target (Some r) (Some s) (offset z))
unfolding operands_of
target_form a b c r s z is_a is_b is_c =
    rw (triple_reads target_in a b c r s (offset z) is_a is_b (statement_plain c is_c.plain) (target_number c z is_c.reads))

-- a register and a target
pub jump_form : (a b : List ℕ) (r : ℕ) (z : ℤ) → IsRegisterText a r → IsNumberText b z →
    operands_of form.RegisterTarget (joined a b) ≡ Some (register_target (Some r) (offset z))
unfolding operands_of
jump_form a b r z is_a is_b =
    rw (pair_reads register_in target_in a b (Some r) (offset z) is_a.plain (plain_tidy b is_b.plain) is_a.reads (target_number b z is_b.reads))

-- a register and a number
pub upper_form : (a b : List ℕ) (r : ℕ) (z : ℤ) → IsRegisterText a r → IsNumberText b z →
    operands_of form.RegisterNumber (joined a b) ≡ Some (register_number (Some r) z)
unfolding operands_of
upper_form a b r z is_a is_b = rw (pair_reads register_in number_of a b (Some r) z is_a.plain (plain_tidy b is_b.plain) is_a.reads is_b.reads)

-- a number
pub given_form : (a : List ℕ) (z : ℤ) → IsNumberText a z → operands_of form.Number a ≡ Some (number z)
unfolding operands_of
given_form a z is_a = rw is_a.reads

-- nothing
pub bare_form : operands_of form.Bare [] ≡ Some bare
unfolding operands_of
bare_form = refl
