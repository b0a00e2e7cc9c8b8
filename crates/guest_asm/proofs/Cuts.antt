-- A text of plain bytes, a line without a label, and the parts round a byte.
use Rattle.std.proofs.Common.{◌≡◌, ℕ, ◌<◌, Bool, true, not, ◌&&◌, ◌==◌, List, [], ◌∷◌, ◌++◌, length, reverse, unwrap_or, Option, Some, None, refl, ap, ap₂, ◌∙◌, arith}
use Rattle.std.proofs.Math.Seq.{take-append_seam, drop-append-add}
use Rattle.std.proofs.lemmas.Bool.{and_parts}
use Rattle.std.specs.List.{list_all}
use Rattle.std.specs.Option.{option_and_then}
use Rattle.guest_asm.specs.Line.{Line, code_of, cut, first_word, is_blank, labelled, line_of, rest_of, trim}
use Rattle.guest_asm.proofs.Listed.{are_plain, is_plain}
use Rattle.guest_asm.proofs.Texts.{IsTidy, begins, ends_append, after_at, after_nowhere, all_fail, before_at, before_nowhere, fails_append, position_at, position_nowhere, tidy_between, trim_tidy}

-- ---- Plain bytes

-- where one test passes another does
pub all_pass : {X : Type 0} (p q : X → Bool) → ((x : X) → p x ≡ true → q x ≡ true) → (xs : List X) → list_all p xs ≡ true → list_all q xs ≡ true
all_pass p q implied [] h = refl
all_pass p q implied (x ∷ xs) h =
    let both = and_parts (p x) (list_all p xs) h in
    rw (implied x both.0) (all_pass p q implied xs both.1)

-- a plain byte is no blank
plain_blank : (b : ℕ) → is_plain b ≡ true → not (is_blank b) ≡ true
unfolding is_plain
plain_blank b h = grind (arith, h)

-- no `(`
plain_open : (b : ℕ) → is_plain b ≡ true → not (b == 40) ≡ true
unfolding is_plain
plain_open b h = grind (arith, h)

-- no `)`
plain_close : (b : ℕ) → is_plain b ≡ true → not (b == 41) ≡ true
unfolding is_plain
plain_close b h = grind (arith, h)

-- no `,`
plain_comma : (b : ℕ) → is_plain b ≡ true → not (b == 44) ≡ true
unfolding is_plain
plain_comma b h = grind (arith, h)

-- a byte that neither ends a line nor begins a comment nor ends a label
unfoldable pub is_clear : ℕ → Bool
is_clear b = not (b == 10) && not (b == 35) && not (b == 58)

-- a plain byte is one
plain_clear : (b : ℕ) → is_plain b ≡ true → is_clear b ≡ true
unfolding is_plain is_clear
plain_clear b h = grind (arith, h)

-- it is no line feed
clear_feed : (b : ℕ) → is_clear b ≡ true → not (b == 10) ≡ true
unfolding is_clear
clear_feed b h = grind (arith, h)

-- no `#`
clear_comment : (b : ℕ) → is_clear b ≡ true → not (b == 35) ≡ true
unfolding is_clear
clear_comment b h = grind (arith, h)

-- no `:`
clear_label : (b : ℕ) → is_clear b ≡ true → not (b == 58) ≡ true
unfolding is_clear
clear_label b h = grind (arith, h)

-- a text of plain bytes has no blank
pub no_blank : (text : List ℕ) → are_plain text ≡ true → all_fail is_blank text ≡ true
no_blank text h = all_pass is_plain (λ b. not (is_blank b)) plain_blank text h

-- no `(`
pub no_open : (text : List ℕ) → are_plain text ≡ true → all_fail (λ b. b == 40) text ≡ true
no_open text h = all_pass is_plain (λ b. not (b == 40)) plain_open text h

-- no `)`
pub no_close : (text : List ℕ) → are_plain text ≡ true → all_fail (λ b. b == 41) text ≡ true
no_close text h = all_pass is_plain (λ b. not (b == 41)) plain_close text h

-- no `,`
pub no_comma : (text : List ℕ) → are_plain text ≡ true → all_fail (λ b. b == 44) text ≡ true
no_comma text h = all_pass is_plain (λ b. not (b == 44)) plain_comma text h

-- a text of plain bytes, one at least
pub record IsPlain (text : List ℕ) : Type 0 where
  pub plain : are_plain text ≡ true
  pub some : 0 < length text

-- it has no blank at its front
plain_begins : (b : ℕ) (bs : List ℕ) → are_plain (b ∷ bs) ≡ true → begins (b ∷ bs) ≡ true
plain_begins b bs h = plain_blank b (and_parts (is_plain b) (are_plain bs) h).0

-- none at its end
plain_ends : (b : ℕ) (bs : List ℕ) → are_plain (b ∷ bs) ≡ true → begins (reverse (b ∷ bs)) ≡ true
plain_ends b [] h = plain_begins b [] h
plain_ends b (c ∷ cs) h =
    ends_append (b ∷ []) (c ∷ cs) (plain_ends c cs (and_parts (is_plain b) (are_plain (c ∷ cs)) h).1)

-- none at either end
pub plain_tidy : (text : List ℕ) → IsPlain text → IsTidy text
plain_tidy [] h = absurd (omega (arith, h.some))
plain_tidy (b ∷ bs) h = record { first = plain_begins b bs h.plain; last = plain_ends b bs h.plain }

-- ---- Lines

-- a text that can be a statement or a part of one: no blanks at its ends, no line feed, no comment and no label
pub record IsStatement (text : List ℕ) : Type 0 where
  pub tidy : IsTidy text
  pub clear : list_all is_clear text ≡ true

-- a text without `#` has no comment
code_clear : (text : List ℕ) → list_all is_clear text ≡ true → code_of text ≡ text
code_clear text h = before_nowhere (λ b. b == 35) text (all_pass is_clear (λ b. not (b == 35)) clear_comment text h)

-- a text is not cut at a byte that it has not
cut_nowhere : (c : ℕ) (text : List ℕ) → all_fail (λ b. b == c) text ≡ true → cut c text ≡ None
cut_nowhere c text h = rw (position_nowhere (λ b. b == c) text h)

-- the line of a text that is cut at its first `:` or is a statement alone
line_with : Option (List ℕ × List ℕ) → List ℕ → Line
line_with parts statement = unwrap_or (option_and_then labelled parts) (record { label = None; statement = statement })

-- a line is read without its comment
line_by : (text code : List ℕ) → code_of text ≡ code → line_of text ≡ line_with (cut 58 code) (trim code)
unfolding line_of line_with
line_by text code is_code = ap (λ (c : List ℕ). line_with (cut 58 c) (trim c)) is_code

-- a text without `:` is a statement alone
line_without : (text code : List ℕ) → code_of text ≡ code → cut 58 code ≡ None → trim code ≡ code →
    line_of text ≡ record { label = None; statement = code }
unfolding line_with
line_without text code is_code uncut trimmed =
    line_by text code is_code
    ∙ ap₂ (λ (parts : Option (List ℕ × List ℕ)) (s : List ℕ). line_with parts s) uncut trimmed

-- so a statement is a line without a label
pub statement_line : (text : List ℕ) → IsStatement text → line_of text ≡ record { label = None; statement = text }
statement_line text h =
    line_without text text (code_clear text h.clear)
    (cut_nowhere 58 text (all_pass is_clear (λ b. not (b == 58)) clear_label text h.clear)) (trim_tidy text h.tidy)

-- it has no line feed
pub statement_feed : (text : List ℕ) → IsStatement text → list_all (λ b. not (b == 10)) text ≡ true
statement_feed text h = all_pass is_clear (λ b. not (b == 10)) clear_feed text h.clear

-- plain bytes can be a statement
pub statement_plain : (text : List ℕ) → IsPlain text → IsStatement text
statement_plain text h = record { tidy = plain_tidy text h; clear = all_pass is_plain is_clear plain_clear text h.plain }

-- and so can two such texts with clear bytes between them
pub statement_between : (a m b : List ℕ) → IsStatement a → list_all is_clear m ≡ true → IsStatement b → IsStatement (a ++ (m ++ b))
statement_between a m b left middle right = record {
  tidy = tidy_between a m b left.tidy right.tidy;
  clear = fails_append is_clear a (m ++ b) left.clear (fails_append is_clear m b middle right.clear);
}

-- ---- The parts round a byte

-- what stands before the first such byte, and what stands behind it
pub cut_at : (c : ℕ) (a b : List ℕ) → all_fail (λ x. x == c) a ≡ true → cut c (a ++ c ∷ b) ≡ Some (trim a, trim b)
cut_at c a b fails =
    let same : (c == c) ≡ true = grind arith in
    rw (position_at (λ x. x == c) a c b fails same, take-append_seam a (c ∷ b), drop-append-add a (c ∷ b) 1)

-- a name alone is the first word, and nothing follows it
pub word_alone : (name : List ℕ) → are_plain name ≡ true → (first_word name ≡ name) × (rest_of name ≡ [])
word_alone name plain =
    let none = no_blank name plain in
    (before_nowhere is_blank name none, ap trim (after_nowhere is_blank name none))

-- the first word of a statement and what follows it
pub word_before : (name rest : List ℕ) → are_plain name ≡ true → IsTidy rest →
    (first_word (name ++ 32 ∷ rest) ≡ name) × (rest_of (name ++ 32 ∷ rest) ≡ rest)
unfolding is_blank
word_before name rest plain tidy =
    let none = no_blank name plain in
    (before_at is_blank name 32 rest none refl, ap trim (after_at is_blank name 32 rest none refl) ∙ trim_tidy rest tidy)
