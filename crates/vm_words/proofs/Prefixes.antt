-- What a text begins with.
use Rattle.std.proofs.Common.{◌≡◌, ℕ, true, false, cond, ◌&&◌, List, [], ◌∷◌, ◌++◌, length, take, drop, nat_eq, Some, None, refl, sym, ap, ◌∙◌, inl, inr, arith}
use Rattle.std.specs.Cmp.Lexicographic.{pointwise}
use Rattle.std.specs.Option.{option_and_then}
use Rattle.std.specs.Str.Pattern.{FindsTextPrefix, StripsPrefix}
use Rattle.std.specs.List.{starts_with}
use Rattle.std.proofs.lemmas.Bool.{cond-true, cond-false}
use Rattle.std.proofs.lemmas.List.{take_at}
use Rattle.std.proofs.lemmas.Str.Pattern.{starts_text}
use Rattle.std.proofs.lemmas.Slice.Eq.{bytes_eq-Decides}
use Rattle.std.specs.List.{position_or_len}
use Rattle.std.proofs.lemmas.Bool.{cases_Bool}
use Rattle.vm_words.specs.Word.{after, is_equals, has_equals}

-- a text begins with what it is made of
starts : (text front : List ℕ) → take (length front) text ≡ front → starts_with nat_eq text front ≡ true
starts text front begins = (bytes_eq-Decides front (take (length front) text)).1 (sym begins)

-- what was stripped is what follows
pub after_found : (text front rest : List ℕ) → StripsPrefix (FindsTextPrefix front) text rest → after text front ≡ Some rest
after_found text front rest strips =
    let begins : take (length front) text ≡ front = ap (take (length front)) strips.1.1 ∙ take_at front (drop strips.0 text) (length front) refl in
    cond-true _ _ None (starts text front begins) ∙ ap (λ (n : ℕ). Some (drop n text)) (sym strips.1.0) ∙ ap Some (sym strips.2)

-- and where nothing was stripped, nothing follows
pub after_missing : (text front : List ℕ) → FindsTextPrefix front text None → after text front ≡ None
after_missing text front none = cond-false _ (Some (drop (length front) text)) None (sym (starts_text false front text none))

-- a front of two pieces is stripped one by one
pub after-append : (front text more : List ℕ) → after text (front ++ more) ≡ option_and_then (λ rest. after rest more) (after text front)
after-append [] text more = refl
after-append (f ∷ front) [] more = refl
after-append (f ∷ front) (x ∷ text) more = elim (nat_eq f x)
    as (λ b. cond (b && pointwise nat_eq (front ++ more) (take (length (front ++ more)) text)) (Some (drop (length (front ++ more)) text)) None
    ≡ option_and_then (λ rest. after rest more) (cond (b && pointwise nat_eq front (take (length front) text)) (Some (drop (length front) text)) None)) [
      | true ↦ after-append front text more
      | false ↦ refl
    ]

-- a front is followed by the rest
pub after_front : (front rest : List ℕ) → after (front ++ rest) front ≡ Some rest
after_front front rest =
    cond-true _ _ None (starts (front ++ rest) front (take_at front rest (length front) refl)) ∙ ap Some (drop_at front rest)
  where
    drop_at : (xs ys : List ℕ) → drop (length xs) (xs ++ ys) ≡ ys
    drop_at [] ys = refl
    drop_at (x ∷ xs) ys = drop_at xs ys

-- a word without `=`
pub no_equals : (word : List ℕ) → position_or_len is_equals word ≡ length word → has_equals word ≡ false
no_equals [] none = refl
no_equals (x ∷ xs) none = elim (cases_Bool (is_equals x)) [
  | inl here ↦ let short = rw here at none in absurd (omega arith)
  | inr further ↦ let longer = rw further at none in rw further (no_equals xs (omega arith))
]
