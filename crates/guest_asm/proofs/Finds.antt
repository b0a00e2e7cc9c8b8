-- What a search in a table finds.
use Rattle.std.proofs.Common.{◌≡◌, Bool, true, false, List, [], ◌∷◌, Some, IfSome, IsTrue, ℕ, cond, find, refl, subst, sym}
use Rattle.std.proofs.lemmas.Bool.{and_parts}
use Rattle.std.specs.List.{list_all}
use Rattle.std.specs.Str.{bytes_eq}
use Rattle.guest_asm.specs.declared.mnemonic.Mnemonic.{Mnemonic}
use Rattle.guest_asm.specs.Facts.{HasSmallOrder, has_small_order}
use Rattle.guest_asm.specs.Mnemonic.{mnemonic_name, plain_mnemonics, plain_named}

-- a test that each element passes is one that the found element passes
IfSome-find : {X : Type 0} (test p : X → Bool) (xs : List X) → list_all test xs ≡ true → IfSome (find p xs) (λ x. IsTrue (test x))
IfSome-find test p [] h = tt
IfSome-find test p (x ∷ xs) h =
    let both = and_parts (test x) (list_all test xs) h in
    elim (p x) as (λ b. IfSome (cond b (Some x) (find p xs)) (λ y. IsTrue (test y)))
    [ true ↦ both.0 | false ↦ IfSome-find test p xs both.1 ]

-- no mnemonic of the table has an order
pub plain_orders : (word : List ℕ) (m : Mnemonic) → Some m ≡ plain_named word → HasSmallOrder m
plain_orders word m h =
    subst (λ o. IfSome o HasSmallOrder) (sym h)
    (IfSome-find has_small_order (λ x. bytes_eq (mnemonic_name x) word) plain_mnemonics refl)
