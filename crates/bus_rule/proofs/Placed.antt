-- The places of an order, and the order of traces.
use Rattle.std.proofs.Common.{◌≡◌, ◌≢◌, inl, inr, ℕ, zero, suc, ◌+◌, ◌<◌, ◌≤◌, Bool, true, false, cond, ◌||◌, eqb, get_or, List, [], ◌∷◌, ◌++◌, length, map, Some, refl, sym, ◌∙◌, ap, subst, arith, length-append}
use Rattle.std.specs.Prelude.{if◌then◌else◌}
use Rattle.std.specs.List.{slice_get, list_any, range_with_len}
use Rattle.std.proofs.lemmas.Bool.{cases_eq, cases_Bool, eq-eqb, ne_eqb, eqb-true, or_cases, or_left, or_right, false≢true}
use Rattle.std.proofs.lemmas.List.FromFn.{sum_by-map-range_with_len_more, map-range_with_len_more}
use Rattle.std.proofs.lemmas.List.Folds.{list_any-append}
use Rattle.std.proofs.lemmas.List.Sums.{sum_by-cons}
use Rattle.std.proofs.lemmas.Option.{none-some, same_Some, slice_get_within, slice_get-get_or}
use Rattle.flat_machine.proofs.PhaseEnds.{events_of}
use Rattle.bus_rule.specs.Order.{places_from, places, trace_of, total_of, order_of, traces_of, IsAscending, AreTraces, with_number}

-- ---- The places of one vCPU

-- with one more behind both
if_push : (b : Bool) (at q : ℕ) (p r : List ℕ) → p ≡ r ++ q ∷ [] → (if b then at ∷ p else p) ≡ (if b then at ∷ r else r) ++ q ∷ []
if_push true at q p r same = ap (λ xs. at ∷ xs) same
if_push false at q p r same = same

if_same : (b : Bool) (at : ℕ) (p r : List ℕ) → p ≡ r → (if b then at ∷ p else p) ≡ (if b then at ∷ r else r)
if_same b at p r same = ap (λ xs. if b then at ∷ xs else xs) same

-- an event of the vCPU adds its place
places_from-push : (at k : ℕ) (o : List ℕ) → places_from at k (o ++ k ∷ []) ≡ places_from at k o ++ (at + length o) ∷ []
places_from-push at k [] = ap (λ b. if b then at ∷ [] else []) (eq-eqb k k refl) ∙ (let e : at ≡ at + 0 = omega arith in ap (λ n. n ∷ []) e)
places_from-push at k (j ∷ o) =
    let e : suc at + length o ≡ at + length (j ∷ o) = omega arith in
    if_push (eqb j k) at (at + length (j ∷ o)) (places_from (suc at) k (o ++ k ∷ [])) (places_from (suc at) k o)
    (places_from-push (suc at) k o ∙ ap (λ n. places_from (suc at) k o ++ n ∷ []) e)

-- one of another vCPU adds none
places_from-other : (at k j : ℕ) (o : List ℕ) → j ≢ k → places_from at k (o ++ j ∷ []) ≡ places_from at k o
places_from-other at k j [] other = ap (λ b. if b then at ∷ [] else []) (ne_eqb j k other)
places_from-other at k j (i ∷ o) other =
    if_same (eqb i k) at (places_from (suc at) k (o ++ j ∷ [])) (places_from (suc at) k o) (places_from-other (suc at) k j o other)

pub places-push : (k : ℕ) (o : List ℕ) → places k (o ++ k ∷ []) ≡ places k o ++ length o ∷ []
places-push k o = places_from-push 0 k o ∙ (let e : 0 + length o ≡ length o = omega arith in ap (λ n. places k o ++ n ∷ []) e)

pub places-other : (k j : ℕ) (o : List ℕ) → j ≢ k → places k (o ++ j ∷ []) ≡ places k o
places-other k j o other = places_from-other 0 k j o other

-- a vCPU that stands at a place has it among its places
place_is_there : (at k : ℕ) (o : List ℕ) (i : ℕ) → slice_get o i ≡ Some k → list_any (eqb (at + i)) (places_from at k o) ≡ true
place_is_there at k [] i is = absurd (none-some k is)
place_is_there at k (j ∷ o) zero is =
    let e : at + 0 ≡ at = omega arith in
    ap (λ b. list_any (eqb (at + 0)) (if b then at ∷ places_from (suc at) k o else places_from (suc at) k o)) (eq-eqb j k (same_Some j k is))
    ∙ or_left (eqb (at + 0) at) (list_any (eqb (at + 0)) (places_from (suc at) k o)) (eq-eqb (at + 0) at e)
place_is_there at k (j ∷ o) (suc i) is =
    let e : suc at + i ≡ at + suc i = omega arith in
    let later : list_any (eqb (at + suc i)) (places_from (suc at) k o) ≡ true =
    ap (λ n. list_any (eqb n) (places_from (suc at) k o)) (sym e) ∙ place_is_there (suc at) k o i is in
    first_or (eqb j k) later
  where
    first_or : (b : Bool) → list_any (eqb (at + suc i)) (places_from (suc at) k o) ≡ true →
        list_any (eqb (at + suc i)) (if b then at ∷ places_from (suc at) k o else places_from (suc at) k o) ≡ true
    first_or true later = or_right (eqb (at + suc i) at) (list_any (eqb (at + suc i)) (places_from (suc at) k o)) later
    first_or false later = later

-- a place of an order, counted from another start
pub record IsPlace (at t k : ℕ) (o : List ℕ) : Type 0 where
  pub place : ℕ
  pub counted : t ≡ at + place
  pub stands : slice_get o place ≡ Some k

-- among its places are those alone
place_is_its : (at k : ℕ) (o : List ℕ) (t : ℕ) → list_any (eqb t) (places_from at k o) ≡ true → IsPlace at t k o
place_is_its at k [] t has = absurd (false≢true has)
place_is_its at k (j ∷ o) t has =
    elim (cases_Bool (eqb j k)) as (λ _. IsPlace at t k (j ∷ o)) [
      | inl mine ↦
          elim (or_cases (eqb t at) (list_any (eqb t) (places_from (suc at) k o)) (sym (ap (λ b. list_any (eqb t) (if b then at ∷ places_from (suc at) k o else places_from (suc at) k o)) mine) ∙ has)) as (λ _. IsPlace at t k (j ∷ o)) [
            | inl here ↦ record { place = 0; counted = omega (arith, eqb-true t at here); stands = ap Some (eqb-true j k mine) }
            | inr later ↦ further (place_is_its (suc at) k o t later)
          ]
      | inr other ↦
          further (place_is_its (suc at) k o t (sym (ap (λ b. list_any (eqb t) (if b then at ∷ places_from (suc at) k o else places_from (suc at) k o)) other) ∙ has))
    ]
  where
    further : IsPlace (suc at) t k o → IsPlace at t k (j ∷ o)
    further p = record { place = suc p.place; counted = (let h = p.counted in omega (arith, h)); stands = p.stands }

pub has_place : (k : ℕ) (o : List ℕ) (t : ℕ) → slice_get o t ≡ Some k → list_any (eqb t) (places k o) ≡ true
has_place k o t is = (let e : 0 + t ≡ t = omega arith in ap (λ n. list_any (eqb n) (places k o)) (sym e)) ∙ place_is_there 0 k o t is

pub place_stands : (k : ℕ) (o : List ℕ) (t : ℕ) → list_any (eqb t) (places k o) ≡ true → slice_get o t ≡ Some k
place_stands k o t has =
    let p = place_is_its 0 k o t has in
    let e : p.place ≡ t = (let h = p.counted in omega (arith, h)) in
    ap (slice_get o) (sym e) ∙ p.stands

-- places are ascending
ascending_behind : (at k : ℕ) (o : List ℕ) (b : ℕ) → b < at → IsAscending (b ∷ places_from at k o)
ascending_behind at k [] b below = tt
ascending_behind at k (j ∷ o) b below =
    elim (cases_Bool (eqb j k)) as (λ _. IsAscending (b ∷ places_from at k (j ∷ o))) [
      | inl mine ↦
          subst (λ (c : Bool). IsAscending (b ∷ (if c then at ∷ places_from (suc at) k o else places_from (suc at) k o))) (sym mine)
          (below, ascending_behind (suc at) k o at (omega arith))
      | inr other ↦
          subst (λ (c : Bool). IsAscending (b ∷ (if c then at ∷ places_from (suc at) k o else places_from (suc at) k o))) (sym other)
          (ascending_behind (suc at) k o b (omega (arith, below)))
    ]

ascending_tail : (b : ℕ) (xs : List ℕ) → IsAscending (b ∷ xs) → IsAscending xs
ascending_tail b [] is = tt
ascending_tail b (x ∷ xs) is = is.1

pub places_ascend : (k : ℕ) (o : List ℕ) → IsAscending (places k o)
places_ascend k [] = tt
places_ascend k (j ∷ o) =
    elim (cases_Bool (eqb j k)) as (λ _. IsAscending (places k (j ∷ o))) [
      | inl mine ↦
          subst (λ (c : Bool). IsAscending (if c then 0 ∷ places_from 1 k o else places_from 1 k o)) (sym mine) (ascending_behind 1 k o 0 (omega arith))
      | inr other ↦
          subst (λ (c : Bool). IsAscending (if c then 0 ∷ places_from 1 k o else places_from 1 k o)) (sym other)
          (ascending_tail 0 (places_from 1 k o) (ascending_behind 1 k o 0 (omega arith)))
    ]

-- there are as many as the vCPU has events
length-places_from : (at k : ℕ) (o : List ℕ) → length (places_from at k o) ≡ events_of k o
length-places_from at k [] = refl
length-places_from at k (j ∷ o) = one_more (eqb j k) (length-places_from (suc at) k o) ∙ sym (sum_by-cons (λ x. cond (eqb x k) 1 0) j o)
  where
    one_more : (b : Bool) → length (places_from (suc at) k o) ≡ events_of k o →
        length (if b then at ∷ places_from (suc at) k o else places_from (suc at) k o) ≡ cond b 1 0 + events_of k o
    one_more true same = omega (arith, same)
    one_more false same = omega (arith, same)

pub length-places : (k : ℕ) (o : List ℕ) → length (places k o) ≡ events_of k o
length-places k o = length-places_from 0 k o

-- ---- The order of traces

-- traces of the same lengths have the same total
total_same : (f g : ℕ → List ℕ) (n : ℕ) → ((k : ℕ) → k < n → length (f k) ≡ length (g k)) →
    total_of (map f (range_with_len 0 n)) ≡ total_of (map g (range_with_len 0 n))
total_same f g zero same = refl
total_same f g (suc n) same =
    let e : suc n ≡ n + 1 = omega arith in
    let z : 0 + n ≡ n = omega arith in
    ap (λ m. total_of (map f (range_with_len 0 m))) e ∙ sum_by-map-range_with_len_more length f 0 n n z
    ∙ (let a = total_same f g n (λ k below. same k (omega (arith, below))) in
    let b = same n (omega arith) in
    omega (arith, a, b))
    ∙ sym (sum_by-map-range_with_len_more length g 0 n n z) ∙ ap (λ m. total_of (map g (range_with_len 0 m))) (sym e)

-- one more in one of them is one more in all
total_more : (f g : ℕ → List ℕ) (n j : ℕ) → j < n → length (f j) ≡ length (g j) + 1 → ((k : ℕ) → k ≢ j → length (f k) ≡ length (g k)) →
    total_of (map f (range_with_len 0 n)) ≡ total_of (map g (range_with_len 0 n)) + 1
total_more f g zero j within more same = absurd (omega (arith, within))
total_more f g (suc n) j within more same =
    let e : suc n ≡ n + 1 = omega arith in
    let z : 0 + n ≡ n = omega arith in
    let left = ap (λ m. total_of (map f (range_with_len 0 m))) e ∙ sum_by-map-range_with_len_more length f 0 n n z in
    let right = ap (λ m. total_of (map g (range_with_len 0 m))) e ∙ sum_by-map-range_with_len_more length g 0 n n z in
    elim (cases_eq j n) as (λ _. total_of (map f (range_with_len 0 (suc n))) ≡ total_of (map g (range_with_len 0 (suc n))) + 1) [
      | inl last ↦
          (let a = total_same f g n (λ k below. same k (λ e. omega (arith, below, e, last))) in
          let b : length (f n) ≡ length (g n) + 1 = subst (λ (k : ℕ). length (f k) ≡ length (g k) + 1) last more in
          omega (arith, left, right, a, b))
      | inr before ↦
          (let a = total_more f g n j (omega (arith, within, before)) more same in
          let b = same n (λ e. before (sym e)) in
          omega (arith, left, right, a, b))
    ]

-- no member names more vCPUs than there are
abbrev pub AreBelow : ℕ → List ℕ → Type 0
AreBelow vcpus o = (t k : ℕ) → slice_get o t ≡ Some k → k < vcpus

-- so each member of an order counts once
total_from : (at vcpus : ℕ) (o : List ℕ) → AreBelow vcpus o → total_of (map (λ k. places_from at k o) (range_with_len 0 vcpus)) ≡ length o
total_from at vcpus [] below = nothing vcpus
  where
    nothing : (n : ℕ) → total_of (map (λ (k : ℕ). places_from at k []) (range_with_len 0 n)) ≡ 0
    nothing zero = refl
    nothing (suc n) =
        let e : suc n ≡ n + 1 = omega arith in
        let z : 0 + n ≡ n = omega arith in
        let none : ℕ → List ℕ = λ k. [] in
        ap (λ m. total_of (map none (range_with_len 0 m))) e ∙ sum_by-map-range_with_len_more length none 0 n n z
        ∙ (let a = nothing n in omega (arith, a))
total_from at vcpus (j ∷ o) below =
    let shifted : ℕ → List ℕ = λ k. places_from (suc at) k o in
    let step : suc (length (shifted j)) ≡ length (shifted j) + 1 = omega arith in
    let more : length (places_from at j (j ∷ o)) ≡ length (shifted j) + 1 =
    ap (λ b. length (if b then at ∷ shifted j else shifted j)) (eq-eqb j j refl) ∙ step in
    let a = total_more (λ k. places_from at k (j ∷ o)) shifted vcpus j (below 0 j refl) more
    (λ k other. ap (λ b. length (if b then at ∷ shifted k else shifted k)) (ne_eqb j k (λ e. other (sym e)))) in
    let b = total_from (suc at) vcpus o (λ t k is. below (suc t) k is) in
    omega (arith, a, b)

pub total-places : (vcpus : ℕ) (o : List ℕ) → AreBelow vcpus o → total_of (traces_of vcpus o) ≡ length o
total-places vcpus o below = total_from 0 vcpus o below

-- the first trace that has a number
trace_of-first : (f : ℕ → List ℕ) (a n k t : ℕ) → a ≤ k → k < a + n → list_any (eqb t) (f k) ≡ true →
    ((j : ℕ) → j < k → list_any (eqb t) (f j) ≡ false) → a + trace_of (map f (range_with_len a n)) t ≡ k
trace_of-first f a zero k t from within has before = absurd (omega (arith, from, within))
trace_of-first f a (suc n) k t from within has before =
    let here_or : Bool → ℕ = λ b. if b then 0 else suc (trace_of (map f (range_with_len (a + 1) n)) t) in
    elim (cases_eq a k) as (λ _. a + trace_of (map f (range_with_len a (suc n))) t ≡ k) [
      | inl here ↦
          (let e : trace_of (map f (range_with_len a (suc n))) t ≡ 0 = ap here_or (subst (λ (x : ℕ). list_any (eqb t) (f x) ≡ true) (sym here) has) in
          omega (arith, e, here))
      | inr later ↦
          (let e : trace_of (map f (range_with_len a (suc n))) t ≡ suc (trace_of (map f (range_with_len (a + 1) n)) t) = ap here_or (before a (omega (arith, from, later))) in
          let r = trace_of-first f (a + 1) n k t (omega (arith, from, later)) (omega (arith, within)) has before in
          omega (arith, e, r))
    ]

-- a list by its members
range_map_is : (g : ℕ → ℕ) (a : ℕ) (o : List ℕ) → ((t k : ℕ) → slice_get o t ≡ Some k → g (a + t) ≡ k) → map g (range_with_len a (length o)) ≡ o
range_map_is g a [] is = refl
range_map_is g a (k ∷ o) is =
    let e : a + 0 ≡ a = omega arith in
    let first : g a ≡ k = ap g (sym e) ∙ is 0 k refl in
    let later = range_map_is g (a + 1) o (λ t j at. (let f : (a + 1) + t ≡ a + suc t = omega arith in ap g f ∙ is (suc t) j at)) in
    ap (λ x. x ∷ map g (range_with_len (a + 1) (length o))) first ∙ ap (λ xs. k ∷ xs) later

-- a number that is a place of one vCPU is of no other
not_anothers : (o : List ℕ) (t k j : ℕ) → slice_get o t ≡ Some k → j ≢ k → list_any (eqb t) (places j o) ≡ false
not_anothers o t k j is other =
    elim (cases_Bool (list_any (eqb t) (places j o))) as (λ _. list_any (eqb t) (places j o) ≡ false) [
      | inl has ↦ absurd (other (same_Some j k (sym (place_stands j o t has) ∙ is)))
      | inr none ↦ none
    ]

-- the order of the places of an order is that order
pub order-places : (vcpus : ℕ) (o : List ℕ) → AreBelow vcpus o → order_of (traces_of vcpus o) ≡ o
unfolding order_of
order-places vcpus o below =
    ap (λ n. map (trace_of (traces_of vcpus o)) (range_with_len 0 n)) (total-places vcpus o below)
    ∙ range_map_is (trace_of (traces_of vcpus o)) 0 o (λ t k is.
    (let r = trace_of-first (λ k. places k o) 0 vcpus k (0 + t) (omega arith) (let h = below t k is in omega (arith, h)) (has_place k o (0 + t) (place_at t k is))
    (λ j before. not_anothers o (0 + t) k j (place_at t k is) (λ e. omega (arith, e, before))) in
    omega (arith, r)))
  where
    place_at : (t k : ℕ) → slice_get o t ≡ Some k → slice_get o (0 + t) ≡ Some k
    place_at t k is = (let e : 0 + t ≡ t = omega arith in ap (slice_get o) e ∙ is)

-- a trace of an order is of a vCPU that there is
trace_there : (f : ℕ → List ℕ) (a n i : ℕ) (trace : List ℕ) → slice_get (map f (range_with_len a n)) i ≡ Some trace → (i < n) × (f (a + i) ≡ trace)
trace_there f a zero i trace is = absurd (none-some trace is)
trace_there f a (suc n) zero trace is = (omega arith, (let e : a + 0 ≡ a = omega arith in ap f e ∙ same_Some (f a) trace is))
trace_there f a (suc n) (suc i) trace is =
    let r = trace_there f (a + 1) n i trace is in
    let e : a + suc i ≡ (a + 1) + i = omega arith in
    let h = r.0 in
    (omega (arith, h), ap f e ∙ r.1)

there_trace : (f : ℕ → List ℕ) (a n i : ℕ) → i < n → slice_get (map f (range_with_len a n)) i ≡ Some (f (a + i))
there_trace f a zero i within = absurd (omega (arith, within))
there_trace f a (suc n) zero within = (let e : a ≡ a + 0 = omega arith in ap (λ x. Some (f x)) e)
there_trace f a (suc n) (suc i) within =
    let e : (a + 1) + i ≡ a + suc i = omega arith in
    there_trace f (a + 1) n i (omega (arith, within)) ∙ ap (λ x. Some (f x)) e

-- trace k of an order is the places of vCPU k
pub trace_is : (vcpus : ℕ) (o : List ℕ) (k : ℕ) (trace : List ℕ) → slice_get (traces_of vcpus o) k ≡ Some trace → (k < vcpus) × (places k o ≡ trace)
trace_is vcpus o k trace is =
    let r = trace_there (λ j. places j o) 0 vcpus k trace is in
    let e : k ≡ 0 + k = omega arith in
    (r.0, ap (λ j. places j o) e ∙ r.1)

pub is_trace : (vcpus : ℕ) (o : List ℕ) (k : ℕ) → k < vcpus → slice_get (traces_of vcpus o) k ≡ Some (places k o)
is_trace vcpus o k within =
    let e : 0 + k ≡ k = omega arith in
    there_trace (λ j. places j o) 0 vcpus k within ∙ ap (λ j. Some (places j o)) e

-- the traces of an order are traces
pub places_are_traces : (vcpus : ℕ) (o : List ℕ) → AreBelow vcpus o → AreTraces (traces_of vcpus o)
places_are_traces vcpus o below = record {
  ascending = λ k trace is. subst IsAscending (trace_is vcpus o k trace is).1 (places_ascend k o);
  below = λ k trace t is has.
      (let at = place_stands k o t (ap (list_any (eqb t)) (trace_is vcpus o k trace is).1 ∙ has) in
      let within = slice_get_within o t k at in
      omega (arith, within, total-places vcpus o below));
  each = λ t within.
      (let inside : t < length o = omega (arith, within, total-places vcpus o below) in
      let k = get_or o t 0 in
      let at : slice_get o t ≡ Some k = slice_get-get_or o t 0 inside in
      record {
        trace = k;
        numbers = places k o;
        there = is_trace vcpus o k (below t k at);
        has = has_place k o t at;
        alone = λ j others is also.
            same_Some j k (sym (place_stands j o t (ap (list_any (eqb t)) (trace_is vcpus o j others is).1 ∙ also)) ∙ at);
      });
}

-- ---- The append law

-- the total, with a number more
total-with_number : (traces : List (List ℕ)) (k t : ℕ) → k < length traces → total_of (with_number traces k t) ≡ total_of traces + 1
total-with_number [] k t within = absurd (omega (arith, within))
total-with_number (trace ∷ traces) zero t within =
    let more : length (trace ++ t ∷ []) ≡ length trace + 1 = length-append trace (t ∷ []) in
    sum_by-cons length (trace ++ t ∷ []) traces ∙ (let a = sum_by-cons length trace traces in omega (arith, more, a))
total-with_number (trace ∷ traces) (suc k) t within =
    let a = total-with_number traces k t (omega (arith, within)) in
    let b = sum_by-cons length trace traces in
    sum_by-cons length trace (with_number traces k t) ∙ omega (arith, a, b)

-- a number that is another stands where it stood
trace_of-other : (traces : List (List ℕ)) (k n t : ℕ) → t ≢ n → trace_of (with_number traces k n) t ≡ trace_of traces t
trace_of-other [] k n t other = refl
trace_of-other (trace ∷ traces) zero n t other =
    ap (λ b. if b then 0 else suc (trace_of traces t)) (list_any-append (eqb t) trace (n ∷ []) ∙ no_more (list_any (eqb t) trace))
  where
    no_more : (b : Bool) → (b || (eqb t n || false)) ≡ b
    no_more true = refl
    no_more false = ap (λ c. c || false) (ne_eqb t n other)
trace_of-other (trace ∷ traces) (suc k) n t other =
    ap (λ m. if list_any (eqb t) trace then 0 else suc m) (trace_of-other traces k n t other)

-- one that stands nowhere stands in the trace that it was added to
trace_of-new : (traces : List (List ℕ)) (k n : ℕ) → k < length traces → ((j : ℕ) (trace : List ℕ) → slice_get traces j ≡ Some trace → list_any (eqb n) trace ≡ false) →
    trace_of (with_number traces k n) n ≡ k
trace_of-new [] k n within none = absurd (omega (arith, within))
trace_of-new (trace ∷ traces) zero n within none =
    ap (λ b. if b then 0 else suc (trace_of traces n))
    (list_any-append (eqb n) trace (n ∷ []) ∙ or_right (list_any (eqb n) trace) (eqb n n || false) (or_left (eqb n n) false (eq-eqb n n refl)))
trace_of-new (trace ∷ traces) (suc k) n within none =
    ap (λ b. if b then 0 else suc (trace_of (with_number traces k n) n)) (none 0 trace refl)
    ∙ ap suc (trace_of-new traces k n (omega (arith, within)) (λ j t is. none (suc j) t is))

-- two maps that agree on a range are one there
range_same : (f g : ℕ → ℕ) (a n : ℕ) → ((t : ℕ) → t < a + n → f t ≡ g t) → map f (range_with_len a n) ≡ map g (range_with_len a n)
range_same f g a zero same = refl
range_same f g a (suc n) same =
    ap (λ x. x ∷ map f (range_with_len (a + 1) n)) (same a (omega arith))
    ∙ ap (λ xs. g a ∷ xs) (range_same f g (a + 1) n (λ t below. same t (omega (arith, below))))

-- the order of traces with the next number in trace k is the same list followed by k
pub order-with_number : (traces : List (List ℕ)) (k : ℕ) → AreTraces traces → k < length traces →
    order_of (with_number traces k (total_of traces)) ≡ order_of traces ++ k ∷ []
unfolding order_of
order-with_number traces k are within =
    let n = total_of traces in
    let z : 0 + n ≡ n = omega arith in
    let none : (j : ℕ) (trace : List ℕ) → slice_get traces j ≡ Some trace → list_any (eqb n) trace ≡ false = λ j trace is.
    elim (cases_Bool (list_any (eqb n) trace)) as (λ _. list_any (eqb n) trace ≡ false) [
      | inl has ↦ (let below = are.below j trace n is has in absurd (omega (arith, below)))
      | inr not ↦ not
    ] in
    ap (λ m. map (trace_of (with_number traces k n)) (range_with_len 0 m)) (total-with_number traces k n within)
    ∙ map-range_with_len_more (trace_of (with_number traces k n)) 0 n n z
    ∙ ap (λ x. map (trace_of (with_number traces k n)) (range_with_len 0 n) ++ x ∷ []) (trace_of-new traces k n within none)
    ∙ ap (λ xs. xs ++ k ∷ []) (range_same (trace_of (with_number traces k n)) (trace_of traces) 0 n (λ t below. trace_of-other traces k n t (λ e. omega (arith, below, e))))

-- the law of one event more
pub ruleset append_laws = (order-with_number)
