-- What is left of a file of which some writes are kept, and that it is an image.
use Rattle.std.proofs.Common.{◌≡◌, inl, inr, ℕ, ◌+◌, ◌-◌, ◌<◌, ◌≤◌, max, Bool, true, false, ◌&&◌, ◌||◌, cond, List, [], ◌∷◌, ◌++◌, length, get_or, take, drop, map, refl, sym, ◌∙◌, ap, subst, arith}
use Rattle.std.specs.Prelude.{nat_le, nat_lt}
use Rattle.std.proofs.lemmas.Bool.{cases_lt, le-leb, lt-leb, lt-ltb, le-ltb, and_left, and_right, and_from, cond-true, cond-false}
use Rattle.std.proofs.lemmas.List.{length-take-le, length-drop, get_or-take, get_or-drop}
use Rattle.medium.specs.declared.write_log.Write.{Write}
use Rattle.medium.specs.Bytes.{written}
use Rattle.medium.specs.Crash.{Torn}
use Rattle.medium.specs.History.{Event, Wrote, Synced, bytes_after, MayLeave, bytes_synced, pending, is_covered, furthest_end, Keeps}
use Rattle.medium.specs.Laws.{length-written, torn_same, torn_written}
use Rattle.medium.specs.Log.{EndsBy, kept_after, events_of, replayed, span, IsRecord}
use Rattle.medium.proofs.Writes.{get_written}
use Rattle.medium.proofs.Log.{ends_drop}

-- the present bytes of a range
abbrev range : List ℕ → ℕ → ℕ → List ℕ
range present at n = take n (drop at present)

length-range : (present : List ℕ) (at n : ℕ) → at + n ≤ length present → length (range present at n) ≡ n
length-range present at n le = length-take-le n (drop at present) (omega (arith, length-drop at present))

get_range : (present : List ℕ) (at n i : ℕ) → at ≤ i → i < at + n → get_or (range present at n) (i - at) 0 ≡ get_or present i 0
get_range present at n i from within =
    let same : at + (i - at) ≡ i = omega arith in
    get_or-take n (drop at present) (i - at) 0 (omega arith) ∙ get_or-drop at present (i - at) 0 ∙ ap (λ (k : ℕ). get_or present k 0) same

-- one kept write
get_placed : (present file : List ℕ) (at n i : ℕ) → at + n ≤ length present
    → get_or (written at (range present at n) file) i 0 ≡ cond (nat_le at i && nat_lt i (at + n)) (get_or present i 0) (get_or file i 0)
get_placed present file at n i le =
    get_written at (range present at n) file i
    ∙ ap (λ (k : ℕ). cond (nat_le at i && nat_lt i (at + k)) (get_or (range present at n) (i - at) 0) (get_or file i 0)) (length-range present at n le)
    ∙ elim (cases_lt i at) [
      | inl before ↦
          let no : (nat_le at i && nat_lt i (at + n)) ≡ false = and_left _ _ (lt-leb at i before) in
          cond-false _ _ _ no ∙ sym (cond-false _ _ _ no)
      | inr from ↦ elim (cases_lt i (at + n)) [
        | inl within ↦
            let yes : (nat_le at i && nat_lt i (at + n)) ≡ true = and_from _ _ (le-leb at i from) (lt-ltb i (at + n) within) in
            cond-true _ _ _ yes ∙ get_range present at n i from within ∙ sym (cond-true _ _ _ yes)
        | inr after ↦
            let no : (nat_le at i && nat_lt i (at + n)) ≡ false = and_right _ _ (le-ltb i (at + n) after) in
            cond-false _ _ _ no ∙ sym (cond-false _ _ _ no)
      ]
    ]

either : (r s : Bool) (x y : ℕ) → cond s x (cond r x y) ≡ cond (r || s) x y
either true true x y = refl
either true false x y = refl
either false true x y = refl
either false false x y = refl

get_kept : (present : List ℕ) (writes : List (ℕ × ℕ)) (kept : List Bool) (file : List ℕ) (i : ℕ) → EndsBy (length present) writes
    → get_or (kept_after writes kept present file) i 0 ≡ cond (is_covered writes kept i) (get_or present i 0) (get_or file i 0)
get_kept present [] kept file i ends = refl
get_kept present (w ∷ writes) [] file i ends = refl
get_kept present (w ∷ writes) (false ∷ kept) file i ends = get_kept present writes kept file i ends.1
get_kept present (w ∷ writes) (true ∷ kept) file i ends =
    get_kept present writes kept (written w.0 (range present w.0 w.1) file) i ends.1
    ∙ ap (λ (x : ℕ). cond (is_covered writes kept i) (get_or present i 0) x) (get_placed present file w.0 w.1 i ends.0)
    ∙ either (nat_le w.0 i && nat_lt i (w.0 + w.1)) (is_covered writes kept i) (get_or present i 0) (get_or file i 0)

length-kept : (present : List ℕ) (writes : List (ℕ × ℕ)) (kept : List Bool) (file : List ℕ) → EndsBy (length present) writes
    → length (kept_after writes kept present file) ≡ furthest_end writes kept (length file)
length-kept present [] kept file ends = refl
length-kept present (w ∷ writes) [] file ends = refl
length-kept present (w ∷ writes) (false ∷ kept) file ends = length-kept present writes kept file ends.1
length-kept present (w ∷ writes) (true ∷ kept) file ends =
    length-kept present writes kept (written w.0 (range present w.0 w.1) file) ends.1
    ∙ ap (furthest_end writes kept) (length-written w.0 (range present w.0 w.1) file ∙ ap (λ (n : ℕ). max (length file) (w.0 + n)) (length-range present w.0 w.1 ends.0))

-- each write tears what the one before it left
abbrev TornBy : List (ℕ × ℕ) → List ℕ → List ℕ → Type 0
TornBy [] old new = new ≡ old
TornBy (w ∷ writes) old new = (mid : List ℕ) × Torn w.0 w.1 old mid × TornBy writes mid new

torn_by_none : (writes : List (ℕ × ℕ)) (file : List ℕ) → TornBy writes file file
torn_by_none [] file = refl
torn_by_none (w ∷ writes) file = (file, torn_same w.0 w.1 file, torn_by_none writes file)

torn_by_kept : (present : List ℕ) (writes : List (ℕ × ℕ)) (kept : List Bool) (file : List ℕ) → EndsBy (length present) writes → TornBy writes file (kept_after writes kept present file)
torn_by_kept present [] kept file ends = refl
torn_by_kept present (w ∷ writes) [] file ends = torn_by_none (w ∷ writes) file
torn_by_kept present (w ∷ writes) (false ∷ kept) file ends = (file, torn_same w.0 w.1 file, torn_by_kept present writes kept file ends.1)
torn_by_kept present (w ∷ writes) (true ∷ kept) file ends =
    let next = written w.0 (range present w.0 w.1) file in
    (next, subst (λ n. Torn w.0 n file next) (length-range present w.0 w.1 ends.0) (torn_written w.0 (range present w.0 w.1) file), torn_by_kept present writes kept next ends.1)

torn_by_last : (writes : List (ℕ × ℕ)) (w : ℕ × ℕ) (old new : List ℕ) → TornBy (writes ++ w ∷ []) old new → (mid : List ℕ) × TornBy writes old mid × Torn w.0 w.1 mid new
torn_by_last [] w old new torn = (old, refl, subst (λ f. Torn w.0 w.1 old f) (sym torn.2) torn.1)
torn_by_last (v ∷ writes) w old new torn =
    let rest = torn_by_last writes w torn.0 new torn.2 in
    (rest.0, (torn.0, torn.1, rest.1), rest.2)

torn_by_image : (first : List ℕ) (past : List Event) (image : List ℕ) → TornBy (pending past) (bytes_synced first past) image → MayLeave first past image
torn_by_image first [] image torn = torn
torn_by_image first (Synced ∷ past) image torn = torn
torn_by_image first (Wrote at bytes ∷ past) image torn =
    let last = torn_by_last (pending past) (at, length bytes) (bytes_synced first past) image torn in
    (last.0, torn_by_image first past last.0 last.1, last.2)

-- what `crash` answers
module _ (first file : List ℕ) (log : List Write) (joined : List ℕ) (durable : ℕ) (is : IsRecord first file log joined durable) (kept : List Bool) (left : List ℕ)
    (done : left ≡ kept_after (map span (drop durable log)) kept file (replayed (take durable log) joined first)) where
  abbrev past : List Event
  past = events_of log joined []

  ends : EndsBy (length file) (pending past)
  ends = subst (EndsBy (length file)) (sym is.since) (ends_drop (length file) durable log is.ends_by)

  same : left ≡ kept_after (pending past) kept file (bytes_synced first past)
  same =
      done
      ∙ ap (λ (ws : List (ℕ × ℕ)). kept_after ws kept file (replayed (take durable log) joined first)) (sym is.since)
      ∙ ap (kept_after (pending past) kept file) (sym is.synced_are)

  pub crash_keeps : Keeps (bytes_synced first past) (bytes_after first past) (pending past) kept left
  crash_keeps = subst (λ present. Keeps (bytes_synced first past) present (pending past) kept left) is.bytes_are (record {
    size = ap length same ∙ length-kept file (pending past) kept (bytes_synced first past) ends;
    bytes = λ i. ap (λ (f : List ℕ). get_or f i 0) same ∙ get_kept file (pending past) kept (bytes_synced first past) i ends;
  })

  pub crash_image : MayLeave first past left
  crash_image = subst (MayLeave first past) (sym same) (torn_by_image first past _ (torn_by_kept file (pending past) kept (bytes_synced first past) ends))
