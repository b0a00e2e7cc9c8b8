-- What is answered for a text, once all its bytes are compared.
use Rattle.std.proofs.Common.{◌≡◌, ◌≢◌, inl, inr, ℕ, zero, suc, ◌+◌, ◌-◌, ◌<◌, ◌≤◌, List, [], ◌∷◌, ◌++◌, Option, Some, None, Ok, Err, length, take, drop, refl, sym, ◌∙◌, ap, subst, arith, IfSome, slice_index, add-one}
use Rattle.std.proofs.lemmas.Bool.{le-ltb, cond-true, cond-false}
use Rattle.std.proofs.lemmas.Bool.Decides.{eqb_tells}
use Rattle.std.proofs.lemmas.List.{take-take, take_all}
use Rattle.mig_stream.specs.declared.text_fault.TextFault.TheVariants.{Differs}
use Rattle.mig_stream.specs.Pieces.{piece_in, same_text, checked_text, text_in}
use Rattle.mig_stream.specs.Turns.{IsCompared}

-- a text is itself
same_text-same : (place : ℕ) (text : List ℕ) → same_text place text text ≡ Ok tt
same_text-same place [] = refl
same_text-same place (b ∷ text) = elim (eqb_tells b b) [
  | inl same ↦ cond-true _ _ _ same.0 ∙ same_text-same (place + 1) text
  | inr other ↦ absurd (other.1 refl)
]

-- the first byte that differs
same_text-differs : (place i found : ℕ) (bytes text : List ℕ) → i < length text → take (suc i) bytes ≡ take i text ++ (found ∷ []) → found ≢ slice_index text i
    → same_text place bytes text ≡ Err (Differs (place + i) found)
same_text-differs place i found bytes [] within so_far other = absurd (omega (arith, within))
same_text-differs place zero found [] (t ∷ text) within so_far other = absurd (cc)
same_text-differs place zero found (b ∷ bytes) (t ∷ text) within so_far other =
    let same : b ≡ found = cc in
    let here : place ≡ place + 0 = omega arith in
    elim (eqb_tells b t) [
      | inl equal ↦ absurd (other (sym same ∙ equal.1))
      | inr not_equal ↦ cond-false _ _ _ not_equal.0 ∙ ap (λ (f : ℕ). Err (Differs place f)) same ∙ ap (λ (p : ℕ). Err (Differs p found)) here
    ]
same_text-differs place (suc i) found [] (t ∷ text) within so_far other = absurd (cc)
same_text-differs place (suc i) found (b ∷ bytes) (t ∷ text) within so_far other =
    let rest : take (suc i) bytes ≡ take i text ++ (found ∷ []) = cc in
    let first : b ≡ t = cc in
    let next : place + 1 + i ≡ place + suc i = omega arith in
    elim (eqb_tells b t) [
      | inl equal ↦
          cond-true _ _ _ equal.0 ∙ same_text-differs (place + 1) i found bytes text (omega (arith, within)) rest other ∙ ap (λ (p : ℕ). Err (Differs p found)) next
      | inr not_equal ↦ absurd (not_equal.1 first)
    ]

-- a file that doesn't end in the piece
piece_in-whole : (file : List ℕ) (at len : ℕ) → len ≤ length file - at → piece_in file at len ≡ Ok (take len (drop at file))
piece_in-whole file at len room = cond-false _ _ _ (le-ltb _ _ room)

text_same : (file : List ℕ) (at : ℕ) (text : List ℕ) → IsCompared file at (length text) text None → text_in file at text ≡ Ok tt
text_same file at text all =
    ap (checked_text at text) (piece_in-whole file at (length text) all.room)
    ∙ ap (λ (bytes : List ℕ). same_text at bytes text) (all.same ∙ take_all (length text) text (omega arith))
    ∙ same_text-same at text

text_differs : (file : List ℕ) (at i found : ℕ) (text : List ℕ) → IsCompared file at (length text) text (Some (i, found)) → text_in file at text ≡ Err (Differs (at + i) found)
text_differs file at i found text all =
    ap (checked_text at text) (piece_in-whole file at (length text) all.room)
    ∙ same_text-differs at i found (take (length text) (drop at file)) text all.differs.within
    (take-take (suc i) (length text) (drop at file) (omega (arith, all.differs.within)) ∙ ap (λ (k : ℕ). take k (drop at file)) (sym (add-one i)) ∙ all.differs.so_far)
    all.differs.other

-- the same, where the file tells its bytes
pub told_same : (told : Option (List ℕ)) (at : ℕ) (text : List ℕ) → IfSome told (λ file. IsCompared file at (length text) text None) → IfSome told (λ file. text_in file at text ≡ Ok tt)
told_same None at text all = tt
told_same (Some file) at text all = text_same file at text all

pub told_differs : (told : Option (List ℕ)) (at i found place : ℕ) (text : List ℕ) (first : Option (ℕ × ℕ)) → place ≡ at + i → first ≡ Some (i, found)
    → IfSome told (λ file. IsCompared file at (length text) text first) → IfSome told (λ file. text_in file at text ≡ Err (Differs place found))
told_differs None at i found place text first is other all = tt
told_differs (Some file) at i found place text first is other all =
    text_differs file at i found text (subst (IsCompared file at (length text) text) other all) ∙ ap (λ (p : ℕ). Err (Differs p found)) (sym is)
