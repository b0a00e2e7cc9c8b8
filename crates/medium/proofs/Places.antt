-- What torn writes leave of the bytes elsewhere.
use Rattle.std.proofs.Common.{◌≡◌, ◌⊎◌, inl, inr, ℕ, ◌+◌, ◌-◌, ◌≤◌, min, max, List, length, take, drop, sym, ◌∙◌, ap, arith}
use Rattle.std.proofs.lemmas.Bool.{cases_lt}
use Rattle.std.proofs.lemmas.List.{take-take, take_min, drop-take, drop-drop, length-drop}
use Rattle.medium.specs.Crash.{Torn, TornTwice, Follows}

-- k bytes from a place on
abbrev pub part : ℕ → ℕ → List ℕ → List ℕ
part from k file = take k (drop from file)

-- those bytes lie ahead of a range or behind it
abbrev pub Apart : ℕ → ℕ → ℕ → ℕ → Type 0
Apart from k at n = (from + k ≤ at) ⊎ (at + n ≤ from)

pub torn_front : {at n : ℕ} {old new : List ℕ} (k : ℕ) → Torn at n old new → k ≤ at → k ≤ length old → take k new ≡ take k old
torn_front {at} {n} {old} {new} k torn ahead within =
    sym (take-take k (min at (length old)) new (omega arith)) ∙ ap (take k) torn.before ∙ take-take k at old ahead

pub torn_end : {at n : ℕ} {old new : List ℕ} (k : ℕ) → Torn at n old new → at + n ≤ k → drop k new ≡ drop k old
torn_end {at} {n} {old} {new} k torn behind =
    let sum : at + n + (k - (at + n)) ≡ k = omega arith in
    ap (λ i. drop i new) (sym sum) ∙ sym (drop-drop (k - (at + n)) (at + n) new) ∙ ap (drop (k - (at + n))) torn.after ∙ drop-drop (k - (at + n)) (at + n) old ∙ ap (λ i. drop i old) sum

-- no longer than the file was or the write ends
pub torn_length : {at n : ℕ} {old new : List ℕ} → Torn at n old new → length new ≤ max (length old) (at + n)
torn_length {at} {n} {old} {new} torn = omega (arith, ap length torn.after, length-drop (at + n) new, length-drop (at + n) old)

pub torn_part : {at n : ℕ} {old new : List ℕ} (from k : ℕ) → Torn at n old new → from + k ≤ length old → Apart from k at n → part from k new ≡ part from k old
torn_part {at} {n} {old} {new} from k torn within (inl ahead) =
    sym (drop-take from k new) ∙ ap (drop from) (torn_front (from + k) torn ahead within) ∙ drop-take from k old
torn_part {at} {n} {old} {new} from k torn within (inr behind) = ap (take k) (torn_end from torn behind)

-- the same for bytes at a place of each image that a torn write may leave
pub part_stays : {at n : ℕ} {old new : List ℕ → Type 0} (from k : ℕ) (bytes : List ℕ) → Follows (Torn at n) old new → Apart from k at n
    → ((image : List ℕ) → old image → (from + k ≤ length image) × (part from k image ≡ bytes)) → (image : List ℕ) → new image → (from + k ≤ length image) × (part from k image ≡ bytes)
part_stays from k bytes follows apart each image left =
    let torn = follows image left in
    let was = each torn.0 torn.1 in
    (omega (arith, was.0, torn.2.no_shorter), torn_part from k torn.2 was.0 apart ∙ was.1)

-- two torn writes, in either order
module _ (at n bt m : ℕ) (old mid new : List ℕ) (apart : at + n ≤ bt) where
  none : (from k : ℕ) → k ≡ 0 → part from k new ≡ part from k old
  none from k is = ap (λ i. take i (drop from new)) is ∙ ap (λ i. take i (drop from old)) (sym is)

  gap : ((k : ℕ) → at + n + k ≤ length old → at + n + k ≤ bt → part (at + n) k new ≡ part (at + n) k old)
      → take (min bt (length old) - (at + n)) (drop (at + n) new) ≡ take (bt - (at + n)) (drop (at + n) old)
  gap stays =
      let k = min bt (length old) - (at + n) in
      let all : k ≡ min (bt - (at + n)) (length (drop (at + n) old)) = omega (arith, length-drop (at + n) old) in
      elim (cases_lt (length old) (at + n)) [
        | inl short ↦ none (at + n) k (omega arith)
        | inr long ↦ stays k (omega arith) (omega arith)
      ]
      ∙ ap (λ i. take i (drop (at + n) old)) all ∙ take_min (bt - (at + n)) (drop (at + n) old)

  pub torn_twice : Torn at n old mid → Torn bt m mid new → TornTwice at n bt m old new
  torn_twice one two = record {
    before = torn_front (min at (length old)) two (omega arith) (omega (arith, one.no_shorter)) ∙ torn_front (min at (length old)) one (omega arith) (omega arith) ∙ take_min at old;
    between = gap (λ k within ahead. torn_part (at + n) k two (omega (arith, within, one.no_shorter)) (inl ahead) ∙ torn_part (at + n) k one within (inr (omega arith)));
    after = torn_end (bt + m) two (omega arith) ∙ torn_end (bt + m) one (omega arith);
    no_shorter = omega (arith, one.no_shorter, two.no_shorter);
  }

  pub torn_twice_back : Torn bt m old mid → Torn at n mid new → TornTwice at n bt m old new
  torn_twice_back one two = record {
    before = torn_front (min at (length old)) two (omega arith) (omega (arith, one.no_shorter)) ∙ torn_front (min at (length old)) one (omega arith) (omega arith) ∙ take_min at old;
    between = gap (λ k within ahead. torn_part (at + n) k two (omega (arith, within, one.no_shorter)) (inr (omega arith)) ∙ torn_part (at + n) k one within (inl ahead));
    after = torn_end (bt + m) two (omega arith) ∙ torn_end (bt + m) one (omega arith);
    no_shorter = omega (arith, one.no_shorter, two.no_shorter);
  }
