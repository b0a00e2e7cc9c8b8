-- What a line with no fault passes.
use Rattle.std.proofs.Common.{◌≡◌, ℕ, zero, suc, ◌+◌, ◌<◌, ◌≤◌, Bool, true, false, cond, List, [], ◌∷◌, length, Option, Some, None, refl, sym, ◌∙◌, arith, inl, inr, slice_get}
use Rattle.std.specs.List.{cons_option}
use Rattle.std.specs.Option.{option_map, option_or}
use Rattle.std.proofs.lemmas.Bool.{cases_eq}
use Rattle.vm_words.specs.declared.fault.UsageKind.{UsageKind}
use Rattle.vm_words.specs.declared.command.CommandName.{CommandName}
use Rattle.vm_words.specs.Line.{kind_at, clash_at, lacks_key, faults, faults_by, missing_faults}
use Rattle.vm_words.proofs.Faults.{wrong_in, first_of_three}

-- no word is wrong, no key is missing, and all go together
pub record Passes (command : CommandName) (rest : List (List ℕ)) : Type 0 where
  pub words : (k : ℕ) → k < length rest → kind_at command rest k ≡ None
  pub complete : lacks_key command rest ≡ false
  pub together : (k : ℕ) → k < length rest → clash_at command rest k ≡ None

-- a list with no first element is empty
first_none : {X : Type 0} (xs : List X) → slice_get xs 0 ≡ None → xs ≡ []
first_none [] e = refl
first_none (x ∷ xs) e = cc

-- neither of two is there
neither : {X : Type 0} (a b : Option X) → option_or a b ≡ None → (a ≡ None) × (b ≡ None)
neither None b e = (refl, e)
neither (Some x) b e = cc

-- nothing was put before nothing
cons_nothing : {X : Type 0} (o : Option X) (xs : List X) → cons_option o xs ≡ [] → (o ≡ None) × (xs ≡ [])
cons_nothing None xs e = (refl, e)
cons_nothing (Some x) xs e = cc

-- a map of nothing
map_nothing : {X Y : Type 0} (f : X → Y) (o : Option X) → option_map f o ≡ None → o ≡ None
map_nothing f None e = refl
map_nothing f (Some x) e = cc

-- where no word of a range is wrong, each passes
none_in : (test : ℕ → Option UsageKind) (a n : ℕ) → wrong_in test a n ≡ [] → (k : ℕ) → a ≤ k → k < a + n → test k ≡ None
none_in test a zero none k low high = absurd (omega arith)
none_in test a (suc n) none k low high =
    let parts = cons_nothing (option_map (λ kind. (a + 1, kind)) (test a)) (wrong_in test (a + 1) n) none in
    elim (cases_eq k a) [
      | inl same ↦ rw same (map_nothing (λ kind. (a + 1, kind)) (test a) parts.0)
      | inr other ↦ none_in test (a + 1) n parts.1 k (omega arith) (omega arith)
    ]

-- a list of one or none is that of none
not_one : {X : Type 0} (b : Bool) (x : X) → cond b (x ∷ []) [] ≡ [] → b ≡ false
not_one true x e = cc
not_one false x e = refl

-- a line with no first fault
pub passes : (command : CommandName) (rest : List (List ℕ)) → slice_get (faults command rest) 0 ≡ None → Passes command rest
passes command rest none =
    let words = faults_by (kind_at command rest) rest in
    let missing = missing_faults command rest in
    let together = faults_by (clash_at command rest) rest in
    let two = neither (option_or (slice_get words 0) (slice_get missing 0)) (slice_get together 0) (sym (first_of_three words missing together) ∙ none) in
    let one = neither (slice_get words 0) (slice_get missing 0) two.0 in
    record {
      words = λ k within. none_in (kind_at command rest) 0 (length rest) (first_none words one.0) k (omega arith) (omega arith);
      complete = not_one (lacks_key command rest) _ (first_none missing one.1);
      together = λ k within. none_in (clash_at command rest) 0 (length rest) (first_none together two.1) k (omega arith) (omega arith);
    }
