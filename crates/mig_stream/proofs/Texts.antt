-- How a piece is compared with a text, byte by byte.
use Rattle.std.proofs.Common.{◌≡◌, ℕ, ◌+◌, ◌-◌, ◌<◌, ◌≤◌, List, [], ◌∷◌, ◌++◌, Option, Some, None, length, take, drop, sym, ◌∙◌, ap, arith, IfSome, slice_index, subst, get_or, inl, inr, Bool, cond}
use Rattle.std.proofs.lemmas.List.{get_or-drop, get_or-take, take_more, length-drop}
use Rattle.std.proofs.lemmas.Grind.{take_at_read}
use Rattle.std.proofs.lemmas.Bool.Decides.{eqb_tells}
use Rattle.mig_stream.specs.Turns.{IsFront, IsCompared, IsOther, note}

-- before the first byte
pub compared_none : (told : Option (List ℕ)) (at : ℕ) (text : List ℕ) → IfSome told (λ file. IsCompared file at 0 text None)
compared_none None at text = tt
compared_none (Some file) at text = record { room = omega arith; same = Prim.cc; differs = tt }

-- one byte more
module _ (file : List ℕ) (at i : ℕ) (text : List ℕ) (found : ℕ) (within : i < length text) (room : i < length file - at) (one : take (i + 1) (drop at file) ≡ take i (drop at file) ++ (found ∷ [])) where
  noted_none : take i (drop at file) ≡ take i text → IsCompared file at (i + 1) text (note text i found None)
  noted_none same = elim (eqb_tells found (slice_index text i)) [
    | inl same_byte ↦ subst (λ (b : Bool). IsCompared file at (i + 1) text (cond b None (Some (i, found)))) (sym same_byte.0) (record {
      room = omega (arith, room);
      same = one ∙ ap (λ (xs : List ℕ). xs ++ (found ∷ [])) same ∙ ap (λ (b : ℕ). take i text ++ (b ∷ [])) same_byte.1 ∙ sym ((take_at_read text i 0 within).1);
      differs = tt;
    })
    | inr other_byte ↦ subst (λ (b : Bool). IsCompared file at (i + 1) text (cond b None (Some (i, found)))) (sym other_byte.0) (record {
      room = omega (arith, room);
      same = tt;
      differs = record { within = within; so_far = one ∙ ap (λ (xs : List ℕ). xs ++ (found ∷ [])) same; other = other_byte.1 };
    })
  ]

  noted_on : (first : Option (ℕ × ℕ)) → IsCompared file at i text first → IsCompared file at (i + 1) text (note text i found first)
  noted_on None before = noted_none before.same
  noted_on (Some d) before = record { room = omega (arith, room); same = tt; differs = before.differs }

-- the byte that was found there
one_more : (file : List ℕ) (at from k : ℕ) (found : List ℕ) → k < length found → IsFront file (at + from) (length found) found → take (from + k + 1) (drop at file) ≡ take (from + k) (drop at file) ++ (slice_index found k ∷ [])
one_more file at from k found lt front =
    let room : length found ≤ length file - (at + from) = front.room in
    let same_place : at + from + k ≡ at + (from + k) = omega arith in
    let byte : get_or (drop at file) (from + k) 0 ≡ get_or found k 0 =
    get_or-drop at file (from + k) 0
    ∙ sym (ap (λ (i : ℕ). get_or file i 0) same_place)
    ∙ sym (get_or-drop (at + from) file k 0)
    ∙ sym (get_or-take (length found) (drop (at + from) file) k 0 lt)
    ∙ ap (λ (xs : List ℕ). get_or xs k 0) front.bytes
    ∙ get_or-take (length found) found k 0 lt in
    take_more (drop at file) (from + k) 0 (omega (arith, lt, room, length-drop at file))
    ∙ ap (λ (b : ℕ). take (from + k) (drop at file) ++ (b ∷ [])) byte

-- one round of the comparison
pub compared_next : (file : List ℕ) (at from k : ℕ) (text found : List ℕ) (first result : Option (ℕ × ℕ)) → result ≡ note text (from + k) (slice_index found k) first → k < length found
    → from + k < length text → IsFront file (at + from) (length found) found → IsCompared file at (from + k) text first → IsCompared file at (from + (k + 1)) text result
compared_next file at from k text found first result noted lt within front before =
    let room : length found ≤ length file - (at + from) = front.room in
    let on : from + k + 1 ≡ from + (k + 1) = omega arith in
    subst (λ (i : ℕ). IsCompared file at i text result) on
    (subst (IsCompared file at (from + k + 1) text) (sym noted)
    (noted_on file at (from + k) text (slice_index found k) within (omega (arith, lt, room)) (one_more file at from k found lt front) first before))

-- one turn of it, where the medium tells the bytes
part_on : (told : Option (List ℕ)) (at i : ℕ) (text found : List ℕ) (first result : Option (ℕ × ℕ))
    → ((file : List ℕ) (at : ℕ) → IsCompared file at i text first → IsFront file (at + i) (length found) found → IsCompared file at (i + length found) text result)
    → IfSome told (λ file. IsFront file (at + i) (length found) found) → IfSome told (λ file. IsCompared file at i text first) → IfSome told (λ file. IsCompared file at (i + length found) text result)
part_on None at i text found first result each front before = tt
part_on (Some file) at i text found first result each front before = each file at before front

pub compared_part : (told new_told : Option (List ℕ)) (at i n m : ℕ) (text found : List ℕ) (first result : Option (ℕ × ℕ)) → new_told ≡ told → n ≡ length found → m ≡ i + length found
    → ((file : List ℕ) (at : ℕ) → IsCompared file at i text first → IsFront file (at + i) (length found) found → IsCompared file at (i + length found) text result)
    → IfSome told (λ file. IsFront file (at + i) n found) → IfSome told (λ file. IsCompared file at i text first) → IfSome new_told (λ file. IsCompared file at m text result)
compared_part told new_told at i n m text found first result same len on each front before =
    subst (λ (t : Option (List ℕ)). IfSome t (λ file. IsCompared file at m text result)) (sym same)
    (subst (λ (j : ℕ). IfSome told (λ file. IsCompared file at j text result)) (sym on)
    (part_on told at i text found first result each (subst (λ (j : ℕ). IfSome told (λ file. IsFront file (at + i) j found)) len front) before))

-- the first difference is a byte that the text hasn't at its place
pub note_differs : (text : List ℕ) (i found : ℕ) (first : Option (ℕ × ℕ)) → i < length text → found < 256 → IfSome first (λ d. IsOther text d.0 d.1) → IfSome (note text i found first) (λ d. IsOther text d.0 d.1)
note_differs text i found (Some d) within is_byte before = before
note_differs text i found None within is_byte before = elim (eqb_tells found (slice_index text i)) [
  | inl same_byte ↦ subst (λ (b : Bool). IfSome {T = ℕ × ℕ} (cond b None (Some (i, found))) (λ d. IsOther text d.0 d.1)) (sym same_byte.0) tt
  | inr other_byte ↦ subst (λ (b : Bool). IfSome {T = ℕ × ℕ} (cond b None (Some (i, found))) (λ d. IsOther text d.0 d.1)) (sym other_byte.0) (record { within = within; is_byte = is_byte; other = other_byte.1 })
]

pub differs_next : (text : List ℕ) (i found : ℕ) (first result : Option (ℕ × ℕ)) → result ≡ note text i found first → i < length text → found < 256 → IfSome first (λ d. IsOther text d.0 d.1) → IfSome result (λ d. IsOther text d.0 d.1)
differs_next text i found first result noted within is_byte before = subst (λ (r : Option (ℕ × ℕ)). IfSome r (λ d. IsOther text d.0 d.1)) (sym noted) (note_differs text i found first within is_byte before)
