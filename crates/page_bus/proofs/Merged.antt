-- The order that is made of the numbers of all events.
use Rattle.std.proofs.Common.{◌≡◌, ⊎_elim, ℕ, zero, suc, ◌+◌, ◌<◌, ◌≤◌, Bool, true, false, eqb, List, [], ◌∷◌, ◌++◌, All, get_or, length, set, take, Some, refl, sym, ◌∙◌, ap, subst, arith, length-append}
use Rattle.std.specs.Prelude.{if◌then◌else◌}
use Rattle.std.specs.List.{slice_get}
use Rattle.std.proofs.lemmas.Bool.{cases_eq, eq-eqb}
use Rattle.std.proofs.lemmas.List.{get_or-set_other, get_or-set_same, length-set}
use Rattle.std.proofs.lemmas.Option.{none-some, same_Some, slice_get-get_or, slice_get_within}
use Rattle.flat_machine.proofs.Outcomes.{All-slice_get}
use Rattle.bus_rule.specs.Order.{places, places_from}
use Rattle.bus_rule.proofs.Ends.{get_there}
use Rattle.bus_rule.proofs.Lists.{place_listed, take_place}
use Rattle.bus_rule.proofs.Placed.{place_stands, places-other, places-push}
use Rattle.page_bus.specs.Merge.{FitsOrder, IsAmong, IsNext}
use Rattle.page_bus.specs.Traced.{TracedData}

-- a front of the order was made, of which so many events of each vCPU are counted
pub record IsMerged (o members placed : List ℕ) : Type 0 where
  pub within : length members ≤ length o
  pub front : members ≡ take (length members) o
  pub counted : (k : ℕ) → k < length placed → get_or placed k 0 ≡ length (places k members)

-- no more places than members
if_short : (b : Bool) (at n : ℕ) (xs : List ℕ) → length xs ≤ n → length (if b then at ∷ xs else xs) ≤ n + 1
if_short true at n xs h = omega (arith, h)
if_short false at n xs h = omega (arith, h)

places_short : (at k : ℕ) (o : List ℕ) → length (places_from at k o) ≤ length o
places_short at k [] = omega arith
places_short at k (j ∷ o) =
    let h = if_short (eqb j k) at (length o) (places_from (suc at) k o) (places_short (suc at) k o) in
    let e : length o + 1 ≡ suc (length o) = omega arith in subst (λ n. length (places_from at k (j ∷ o)) ≤ n) e h

-- an event is the one of its vCPU that comes behind those that were earlier
if_get : (b : Bool) (x : ℕ) (xs ys : List ℕ) (t : ℕ) → slice_get xs (length ys) ≡ Some t → slice_get (if b then x ∷ xs else xs) (length (if b then x ∷ ys else ys)) ≡ Some t
if_get true x xs ys t is = is
if_get false x xs ys t is = is

place_next : (at k : ℕ) (o : List ℕ) (t : ℕ) → slice_get o t ≡ Some k → slice_get (places_from at k o) (length (places_from at k (take t o))) ≡ Some (at + t)
place_next at k [] t is = absurd (none-some k is)
place_next at k (j ∷ o) zero is =
    ap (λ b. slice_get (if b then at ∷ places_from (suc at) k o else places_from (suc at) k o) 0) (eq-eqb j k (same_Some j k is))
    ∙ (let e : at ≡ at + 0 = omega arith in ap Some e)
place_next at k (j ∷ o) (suc t) is =
    if_get (eqb j k) at (places_from (suc at) k o) (places_from (suc at) k (take t o)) (at + suc t)
    (place_next (suc at) k o t is ∙ (let e : suc at + t ≡ at + suc t = omega arith in ap Some e))

module _ (o members placed : List ℕ) (traced : List TracedData) (fits : FitsOrder o traced) (was : IsMerged o members placed) where
  -- the vCPU whose next event drew the next number
  module _ (who : ℕ) (next : IsNext traced placed who (length members)) (below : who < length placed) where
    numbers : slice_get (places who o) (get_or placed who 0) ≡ Some (length members)
    numbers =
        let its = All-slice_get (λ d. d.numbers ≡ places d.who o) traced next.place next.one fits.numbers next.stands in
        ap (λ ns. slice_get ns (get_or placed who 0)) (sym (its ∙ ap (λ k. places k o) next.is)) ∙ next.drew

    pub stands : slice_get o (length members) ≡ Some who
    stands = place_stands who o (length members) (place_listed (places who o) (get_or placed who 0) (length members) (get_there (places who o) (get_or placed who 0) (length members) numbers))

    pub more : length members < length o
    more = slice_get_within o (length members) who stands

    pub few : get_or placed who 0 ≤ length members
    few = subst (λ n. n ≤ length members) (sym (was.counted who below)) (places_short 0 who members)

    -- is the next of the order
    front_more : members ++ who ∷ [] ≡ take (length (members ++ who ∷ [])) o
    front_more =
        let e : suc (length members) ≡ length (members ++ who ∷ []) = (let h = length-append members (who ∷ []) in omega (arith, h)) in
        ap (λ ms. ms ++ who ∷ []) was.front
        ∙ sym (take_place o (length members) who (get_there o (length members) who stands))
        ∙ ap (λ n. take n o) e

    counted_more : (k : ℕ) → k < length (set placed who (get_or placed who 0 + 1)) → get_or (set placed who (get_or placed who 0 + 1)) k 0 ≡ length (places k (members ++ who ∷ []))
    counted_more k inside =
        ⊎_elim
        (λ same.
        (ap (λ j. get_or (set placed who (get_or placed who 0 + 1)) j 0) same
        ∙ get_or-set_same placed who (get_or placed who 0 + 1) 0 below
        ∙ ap (λ n. n + 1) (was.counted who below)
        ∙ sym (ap length (places-push who members) ∙ length-append (places who members) (length members ∷ []))
        ∙ ap (λ j. length (places j (members ++ who ∷ []))) (sym same)))
        (λ other.
        (get_or-set_other placed who k (get_or placed who 0 + 1) 0 other
        ∙ was.counted k (let h = length-set placed who (get_or placed who 0 + 1) in omega (arith, inside, h))
        ∙ ap length (sym (places-other k who members (λ e. other (sym e))))))
        (cases_eq k who)

    pub merges : IsMerged o (members ++ who ∷ []) (set placed who (get_or placed who 0 + 1))
    merges = record {
      within = (let h = length-append members (who ∷ []) in let m = more in omega (arith, h, m));
      front = front_more;
      counted = counted_more;
    }

  -- where there is none, all were placed
  module _ (below : All (λ d. d.who < length placed) traced) (none : (who : ℕ) → IsNext traced placed who (length members) → ⊥) where
    not_more : length members < length o → ⊥
    not_more h =
        let k = get_or o (length members) 0 in
        let there : slice_get o (length members) ≡ Some k = slice_get-get_or o (length members) 0 h in
        let among : IsAmong traced k = All-slice_get (IsAmong traced) o (length members) k fits.each there in
        let its = All-slice_get (λ d. d.numbers ≡ places d.who o) traced among.place among.one fits.numbers among.stands in
        let fewer : k < length placed = subst (λ j. j < length placed) among.who (All-slice_get (λ d. d.who < length placed) traced among.place among.one below among.stands) in
        let count : get_or placed k 0 ≡ length (places k (take (length members) o)) = was.counted k fewer ∙ ap (λ ms. length (places k ms)) was.front in
        let e : 0 + length members ≡ length members = omega arith in
        none k (record {
          place = among.place;
          one = among.one;
          stands = among.stands;
          is = among.who;
          drew = ap (λ ns. slice_get ns (get_or placed k 0)) (its ∙ ap (λ j. places j o) among.who)
              ∙ ap (slice_get (places k o)) count ∙ place_next 0 k o (length members) there ∙ ap Some e;
        })

    pub all_placed : members ≡ o
    all_placed =
        let e : length members ≡ length o = (let w = was.within in ⊎_elim (λ same. same) (λ other. absurd (not_more (omega (arith, w, other)))) (cases_eq (length members) (length o))) in
        was.front ∙ ap (λ n. take n o) e ∙ take_all o
      where
        take_all : (xs : List ℕ) → take (length xs) xs ≡ xs
        take_all [] = refl
        take_all (x ∷ xs) = ap (λ ys. x ∷ ys) (take_all xs)
