-- Pieces and texts of a file: what a reader answers, and what stands there.
use Rattle.std.proofs.Common.{◌≡◌, ◌≢◌, ℕ, suc, ◌+◌, ◌-◌, ◌<◌, ◌≤◌, List, [], ◌∷◌, ◌++◌, Option, Some, None, Result, Ok, Err, IfSome, length, take, drop, get_or, refl, sym, ap, ◌∙◌, subst, arith, inl, inr, eq-eqb}
use Rattle.std.proofs.Math.Seq.{drop-cons}
use Rattle.std.proofs.lemmas.Bool.{le-ltb, cond-true, cond-false}
use Rattle.std.proofs.lemmas.Bool.Decides.{eqb_tells, leb_tells}
use Rattle.std.proofs.lemmas.List.{get_or-drop, get_or-take, length-take, length-drop, take_all, drop_all}
use Rattle.mig_stream.specs.Pieces.{piece_in, text_in, same_text, checked_text, Has}
use Rattle.mig_stream.specs.Text.{footer_text}
use Rattle.mig_stream.specs.declared.field_fault.FieldFault.{FieldFault}
use Rattle.mig_stream.specs.declared.field_fault.FieldFault.TheVariants.{Truncated}
use Rattle.mig_stream.specs.declared.text_fault.TextFault.{TextFault}
use Rattle.mig_stream.specs.declared.text_fault.TextFault.TheVariants as text_fault
use Rattle.device_state.specs.Reader.{AreBytes}
use Rattle.device_state.specs.Reading.{located, checked, bytes_in, section_in, footer_in}
use Rattle.device_state.specs.declared.fault.DeviceReadFault.{DeviceReadFault}
use Rattle.device_state.specs.declared.fault.DeviceReadFault.TheVariants.{Section, Footer}

-- what holds of a file that is told
pub of_told : (P : List ℕ → Type 0) (told : Option (List ℕ)) (file : List ℕ) → told ≡ Some file → IfSome told P → P file
of_told P None file is holds = absurd (cc)
of_told P (Some other) file is holds =
    let same : other ≡ file = cc in
    subst P same holds

-- and what holds of each file that is told
pub if_told : (P : List ℕ → Type 0) (told : Option (List ℕ)) → ((file : List ℕ) → told ≡ Some file → P file) → IfSome told P
if_told P None each = tt
if_told P (Some file) each = each file refl

-- a piece that stands whole in the file
pub record IsPiece (file : List ℕ) (at len : ℕ) (bytes : List ℕ) : Type 0 where
  pub room : len ≤ length file - at
  pub same : take len (drop at file) ≡ bytes

pub piece_of : (file : List ℕ) (at len : ℕ) (bytes : List ℕ) → piece_in file at len ≡ Ok bytes → IsPiece file at len bytes
piece_of file at len bytes is = elim (leb_tells (suc (length file - at)) len) [
  | inl short ↦
      let cut : piece_in file at len ≡ Err (Truncated at) = cond-true _ _ _ short.0 in
      absurd (cc)
  | inr whole ↦
      let found : piece_in file at len ≡ Ok (take len (drop at file)) = cond-false _ _ _ whole.0 in
      record { room = omega (arith, whole.1); same = cc }
]

pub piece_is : (file : List ℕ) (at len : ℕ) (bytes : List ℕ) → IsPiece file at len bytes → piece_in file at len ≡ Ok bytes
piece_is file at len bytes is = cond-false _ _ _ (le-ltb _ _ is.room) ∙ ap (λ (b : List ℕ). Ok b) is.same

pub piece_has : (file : List ℕ) (at : ℕ) (piece : List ℕ) → Has file at piece → IsPiece file at (length piece) piece
piece_has file at piece has = record {
  room = omega (arith, ap length has, length-take (length piece) (drop at file), length-drop at file);
  same = has;
}

-- a piece of which the bytes are bytes
pub are_bytes : (file : List ℕ) (at len end : ℕ) (bytes : List ℕ) → ((i : ℕ) → get_or bytes i 0 < 256) → end ≡ at + len → take len (drop at file) ≡ bytes → AreBytes file at end
are_bytes file at len end bytes each place is i from to =
    let behind : at + (i - at) ≡ i = omega (arith, from) in
    let within : i - at < len = omega (arith, from, to, place) in
    let same : get_or bytes (i - at) 0 ≡ get_or file i 0 =
    ap (λ (l : List ℕ). get_or l (i - at) 0) (sym is)
    ∙ get_or-take len (drop at file) (i - at) 0 within
    ∙ get_or-drop at file (i - at) 0
    ∙ ap (λ (j : ℕ). get_or file j 0) behind in
    subst (λ (b : ℕ). b < 256) same (each (i - at))

-- bytes behind bytes
pub bytes_on : (file : List ℕ) (from between to : ℕ) → AreBytes file from between → AreBytes file between to → AreBytes file from to
bytes_on file from between to one two i no_less below = elim (leb_tells between i) [
  | inl behind ↦ two i behind.1 below
  | inr before ↦ one i no_less before.1
]

-- bytes that begin with a text
pub text_first : (place : ℕ) (text rest : List ℕ) → same_text place (text ++ rest) text ≡ Ok tt
text_first place [] [] = refl
text_first place [] (b ∷ rest) = refl
text_first place (b ∷ text) rest = elim (eqb_tells b b) [
  | inl same ↦ cond-true _ _ _ same.0 ∙ text_first (place + 1) text rest
  | inr other ↦ absurd (other.1 refl)
]

pub text_same : (place : ℕ) (text : List ℕ) → same_text place text text ≡ Ok tt
text_same place [] = refl
text_same place (b ∷ text) = elim (eqb_tells b b) [
  | inl same ↦ cond-true _ _ _ same.0 ∙ text_same (place + 1) text
  | inr other ↦ absurd (other.1 refl)
]

pub first_text : (place : ℕ) (bytes text : List ℕ) → length text ≤ length bytes → same_text place bytes text ≡ Ok tt → take (length text) bytes ≡ text
first_text place bytes [] le same = refl
first_text place [] (t ∷ text) le same = absurd (omega (arith, le))
first_text place (b ∷ bytes) (t ∷ text) le same = elim (eqb_tells b t) [
  | inl equal ↦
      let rest : same_text (place + 1) bytes text ≡ Ok tt = sym (cond-true _ _ _ equal.0) ∙ same in
      let tail : take (length text) bytes ≡ text = first_text (place + 1) bytes text (omega (arith, le)) rest in
      let head : b ≡ t = equal.1 in
      cc
  | inr other ↦
      let differs : same_text place (b ∷ bytes) (t ∷ text) ≡ Err (text_fault.Differs place b) = cond-false _ _ _ other.0 in
      absurd (cc)
]

no_text : (place : ℕ) (bytes : List ℕ) → same_text place bytes [] ≡ Ok tt
no_text place [] = refl
no_text place (b ∷ bytes) = refl

-- how the comparison of a text goes on, byte by byte
pub compared_to_the_end : (place i : ℕ) (bytes text : List ℕ) → length text ≤ i → same_text (place + i) (drop i bytes) (drop i text) ≡ Ok tt
compared_to_the_end place i bytes text le = ap (same_text (place + i) (drop i bytes)) (drop_all i text le) ∙ no_text (place + i) (drop i bytes)

compared_at : (place i : ℕ) (bytes text : List ℕ) → i < length bytes → i < length text
    → same_text (place + i) (drop i bytes) (drop i text) ≡ same_text (place + i) (get_or bytes i 0 ∷ drop (suc i) bytes) (get_or text i 0 ∷ drop (suc i) text)
compared_at place i bytes text lt within =
    ap (λ (b : List ℕ). same_text (place + i) b (drop i text)) (drop-cons bytes i 0 lt)
    ∙ ap (same_text (place + i) (get_or bytes i 0 ∷ drop (suc i) bytes)) (drop-cons text i 0 within)

pub compared_on : (place i : ℕ) (bytes text : List ℕ) → i < length bytes → i < length text → get_or bytes i 0 ≡ get_or text i 0
    → same_text (place + i) (drop i bytes) (drop i text) ≡ same_text (place + (i + 1)) (drop (i + 1) bytes) (drop (i + 1) text)
compared_on place i bytes text lt within same =
    let next : place + i + 1 ≡ place + (i + 1) = omega arith in
    let one : suc i ≡ i + 1 = omega arith in
    compared_at place i bytes text lt within
    ∙ cond-true _ _ _ (eq-eqb (get_or bytes i 0) (get_or text i 0) same)
    ∙ ap (λ (p : ℕ). same_text p (drop (suc i) bytes) (drop (suc i) text)) next
    ∙ ap (λ (k : ℕ). same_text (place + (i + 1)) (drop k bytes) (drop k text)) one

pub compared_other : (place i : ℕ) (bytes text : List ℕ) → i < length bytes → i < length text → get_or bytes i 0 ≢ get_or text i 0
    → same_text (place + i) (drop i bytes) (drop i text) ≡ Err (text_fault.Differs (place + i) (get_or bytes i 0))
compared_other place i bytes text lt within other = compared_at place i bytes text lt within ∙ elim (eqb_tells (get_or bytes i 0) (get_or text i 0)) [
  | inl same ↦ absurd (other same.1)
  | inr differs ↦ cond-false _ _ _ differs.0
]

-- a text that stands in the file
pub text_is : (file : List ℕ) (at : ℕ) (wanted : List ℕ) → Has file at wanted → text_in file at wanted ≡ Ok tt
text_is file at wanted has = ap (checked_text at wanted) (piece_is file at (length wanted) wanted (piece_has file at wanted has)) ∙ text_same at wanted

text_of_piece : (at : ℕ) (wanted : List ℕ) (piece : Result (List ℕ) FieldFault) → checked_text at wanted piece ≡ Ok tt → (bytes : List ℕ) × (piece ≡ Ok bytes) × (same_text at bytes wanted ≡ Ok tt)
text_of_piece at wanted (Ok bytes) is = (bytes, refl, is)
text_of_piece at wanted (Err fault) is = absurd (cc)

pub text_has : (file : List ℕ) (at : ℕ) (wanted : List ℕ) → text_in file at wanted ≡ Ok tt → IsPiece file at (length wanted) wanted
text_has file at wanted is =
    let parts = text_of_piece at wanted (piece_in file at (length wanted)) is in
    let piece = piece_of file at (length wanted) parts.0 parts.1 in
    let count : length parts.0 ≡ length wanted = omega (arith, piece.room, ap length piece.same, length-take (length wanted) (drop at file), length-drop at file) in
    let same : take (length wanted) parts.0 ≡ wanted = first_text at parts.0 wanted (omega (arith, count)) parts.2 in
    let whole : take (length wanted) parts.0 ≡ parts.0 = take_all (length wanted) parts.0 (omega (arith, count)) in
    record { room = piece.room; same = piece.same ∙ sym whole ∙ same }

-- the same of the pieces and texts of a device text
located_of : (file : List ℕ) (at len end : ℕ) (bytes : List ℕ) (piece : Result (List ℕ) FieldFault) → piece_in file at len ≡ piece → located (at + len) piece ≡ Ok (bytes, end)
    → IsPiece file at len bytes × (end ≡ at + len)
located_of file at len end bytes (Ok found) piece is =
    let both : (found, at + len) ≡ (bytes, end) = cc in
    let same : found ≡ bytes = ap (λ (p : List ℕ × ℕ). p.0) both in
    (piece_of file at len bytes (piece ∙ ap (λ (b : List ℕ). Ok b) same), sym (ap (λ (p : List ℕ × ℕ). p.1) both))
located_of file at len end bytes (Err fault) piece is = absurd (cc)

pub bytes_of : (file : List ℕ) (at len end : ℕ) (bytes : List ℕ) → bytes_in file at len ≡ Ok (bytes, end) → IsPiece file at len bytes × (end ≡ at + len)
unfolding bytes_in
bytes_of file at len end bytes is = located_of file at len end bytes (piece_in file at len) refl is

pub bytes_is : (file : List ℕ) (at len : ℕ) (bytes : List ℕ) → IsPiece file at len bytes → bytes_in file at len ≡ Ok (bytes, at + len)
unfolding bytes_in
bytes_is file at len bytes is = ap (located (at + len)) (piece_is file at len bytes is)

pub checked_of : (refusal : ℕ → ℕ → DeviceReadFault) (place end : ℕ) (same : Result (Unit {0}) TextFault) → checked refusal place same ≡ Ok end → (same ≡ Ok tt) × (end ≡ place)
checked_of refusal place end (Ok found) is =
    let equal : place ≡ end = cc in
    (refl, sym equal)
checked_of refusal place end (Err (text_fault.Differs at found)) is = absurd (cc)
checked_of refusal place end (Err (text_fault.Field fault)) is = absurd (cc)

pub section_of : (file : List ℕ) (at end : ℕ) (wanted : List ℕ) → section_in file at wanted ≡ Ok end → IsPiece file at (length wanted) wanted × (end ≡ at + length wanted)
unfolding section_in
section_of file at end wanted is =
    let parts = checked_of Section (at + length wanted) end (text_in file at wanted) is in
    (text_has file at wanted parts.0, parts.1)

pub section_is : (file : List ℕ) (at : ℕ) (wanted : List ℕ) → Has file at wanted → section_in file at wanted ≡ Ok (at + length wanted)
unfolding section_in
section_is file at wanted has = ap (checked Section (at + length wanted)) (text_is file at wanted has)

pub footer_of : (file : List ℕ) (at end id : ℕ) → footer_in file at id ≡ Ok end → IsPiece file at 5 (footer_text id) × (end ≡ at + 5)
unfolding footer_in
footer_of file at end id is =
    let parts = checked_of Footer (at + 5) end (text_in file at (footer_text id)) is in
    (text_has file at (footer_text id) parts.0, parts.1)

pub footer_is : (file : List ℕ) (at id : ℕ) → Has file at (footer_text id) → footer_in file at id ≡ Ok (at + 5)
unfolding footer_in
footer_is file at id has = ap (checked Footer (at + 5)) (text_is file at (footer_text id) has)
