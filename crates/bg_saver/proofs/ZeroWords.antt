-- Zeros by words of eight bytes.
use Rattle.std.proofs.Common.{◌≡◌, ℕ, zero, suc, ◌*◌, ◌/◌, ◌&&◌, ◌==◌, List, [], ◌∷◌, length, take, drop, refl, sym, ap, ◌∙◌, arith}
use Rattle.std.specs.List.{list_all}
use Rattle.std.specs.Simd.{first_chunks}
use Rattle.std.proofs.lemmas.Bool.Decides.{nat_tests}
use Rattle.std.proofs.lemmas.List.{length-take-le, length-drop, take-append-drop}
use Rattle.std.proofs.lemmas.List.Folds.{list_all-append}
use Rattle.ram_block.specs.declared.page_buf.TheConstants.{PAGE}
use Rattle.bg_saver.specs.Writes.{is_zero_word, is_zeros}

-- eight bytes are zeros exactly where their word is 0
word_zero : (a b c d e f g h : ℕ) → is_zero_word (a ∷ b ∷ c ∷ d ∷ e ∷ f ∷ g ∷ h ∷ []) ≡ is_zeros (a ∷ b ∷ c ∷ d ∷ e ∷ f ∷ g ∷ h ∷ [])
word_zero a b c d e f g h = grind (arith, nat_tests)

of_eight : (word : List ℕ) → length word ≡ 8 → is_zero_word word ≡ is_zeros word
of_eight (a ∷ b ∷ c ∷ d ∷ e ∷ f ∷ g ∷ h ∷ []) long = word_zero a b c d e f g h
of_eight _ long = absurd (omega arith)

-- the same of many words
zero_words : (j : ℕ) (bytes : List ℕ) → length bytes ≡ 8 * j → list_all is_zero_word (first_chunks 8 j bytes) ≡ is_zeros bytes
zero_words zero [] whole = refl
zero_words zero (x ∷ xs) whole = absurd (omega arith)
zero_words (suc j) bytes whole =
    let first : length (take 8 bytes) ≡ 8 = length-take-le 8 bytes (omega arith) in
    let rest : length (drop 8 bytes) ≡ 8 * j = omega (arith, length-drop 8 bytes) in
    ap (λ b. b && list_all is_zero_word (first_chunks 8 j (drop 8 bytes))) (of_eight (take 8 bytes) first)
    ∙ ap (λ b. is_zeros (take 8 bytes) && b) (zero_words j (drop 8 bytes) rest)
    ∙ sym (list_all-append (λ byte. byte == 0) (take 8 bytes) (drop 8 bytes))
    ∙ ap is_zeros (take-append-drop 8 bytes)

-- whether a page is all zeros
pub zero_page_words : (page : List ℕ) → length page ≡ PAGE → list_all is_zero_word (first_chunks 8 (length page / 8) page) ≡ is_zeros page
zero_page_words page whole = zero_words (length page / 8) page (omega arith)
