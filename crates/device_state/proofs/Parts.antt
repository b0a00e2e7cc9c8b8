-- Texts one behind another in a file, and the parts of a device text that several sections share.
use Rattle.std.proofs.Common.{◌≡◌, ℕ, ◌+◌, List, [], ◌∷◌, ◌++◌, Result, Ok, Err, length, take, drop, refl, sym, ap, ◌∙◌, subst, arith, slice_index, length-append}
use Rattle.std.proofs.Math.Seq.{take-add, get_or-append_seam}
use Rattle.std.proofs.lemmas.List.{drop-drop, length-take, length-drop, take_all, take_more}
use Rattle.mig_stream.specs.Checks.{and_then}
use Rattle.mig_stream.specs.Pieces.{Has, same_text}
use Rattle.mig_stream.specs.Text.{footer_text}
use Rattle.device_state.specs.Reading.{bytes_in, checked, footer_in, section_in, tagged_in, rest_in}
use Rattle.device_state.specs.declared.fault.DeviceReadFault.{DeviceReadFault}
use Rattle.device_state.specs.declared.fault.DeviceReadFault.TheVariants.{Section}
use Rattle.device_state.proofs.Chains.{tagged_found, rest_found}
use Rattle.device_state.proofs.Found.{IsPiece, piece_has, bytes_of, bytes_is, checked_of, section_of, section_is, footer_of, footer_is, text_first, first_text}
use Rattle.device_state.proofs.Split.{split}

-- a text and another behind it
pub has_both : (file : List ℕ) (at : ℕ) (one two : List ℕ) → Has file at one → Has file (at + length one) two → Has file at (one ++ two)
has_both file at one two first second =
    ap (λ (n : ℕ). take n (drop at file)) (length-append one two)
    ∙ take-add (length one) (length two) (drop at file)
    ∙ ap (λ (l : List ℕ). l ++ take (length two) (drop (length one) (drop at file))) first
    ∙ ap (λ (l : List ℕ). one ++ take (length two) l) (drop-drop (length one) at file)
    ∙ ap (λ (l : List ℕ). one ++ l) second

pub has_parts : (file : List ℕ) (at : ℕ) (one two : List ℕ) → Has file at (one ++ two) → Has file at one × Has file (at + length one) two
has_parts file at one two has =
    let room = (piece_has file at (one ++ two) has).room in
    let whole : take (length one) (drop at file) ++ take (length two) (drop (length one) (drop at file)) ≡ one ++ two =
    sym (take-add (length one) (length two) (drop at file)) ∙ ap (λ (n : ℕ). take n (drop at file)) (sym (length-append one two)) ∙ has in
    let count : length (take (length one) (drop at file)) ≡ length one = omega (arith, room, length-append one two, length-take (length one) (drop at file), length-drop at file) in
    let parts = split (take (length one) (drop at file)) one (take (length two) (drop (length one) (drop at file))) two count whole in
    (parts.0, ap (λ (l : List ℕ). take (length two) l) (sym (drop-drop (length one) at file)) ∙ parts.1)

pub has_same : (file : List ℕ) (at : ℕ) (one two : List ℕ) → one ≡ two → Has file at one → Has file at two
has_same file at one two same has = subst (Has file at) same has

-- a piece by its bytes
pub piece_by : (file : List ℕ) (at len : ℕ) (bytes : List ℕ) → length bytes ≡ len → Has file at bytes → IsPiece file at len bytes
piece_by file at len bytes count has = subst (λ (n : ℕ). IsPiece file at n bytes) count (piece_has file at bytes has)

pub piece_count : (file : List ℕ) (at len : ℕ) (bytes : List ℕ) → IsPiece file at len bytes → length bytes ≡ len
piece_count file at len bytes is = omega (arith, is.room, ap length is.same, length-take len (drop at file), length-drop at file)

pub has_piece : (file : List ℕ) (at len : ℕ) (bytes : List ℕ) → IsPiece file at len bytes → Has file at bytes
has_piece file at len bytes is = ap (λ (n : ℕ). take n (drop at file)) (piece_count file at len bytes is) ∙ is.same

-- what was found first, where all was found
pub found_first : {A B : Type 0} (wanted : Result A DeviceReadFault) (next : A → Result B DeviceReadFault) (result : B) → and_then wanted next ≡ Ok result → (found : A) × (wanted ≡ Ok found) × (next found ≡ Ok result)
found_first (Ok found) next result is = (found, refl, is)
found_first (Err fault) next result is = absurd (cc)

-- a text and one byte more
pub tagged_is : {A : Type 0} (file : List ℕ) (at : ℕ) (text : List ℕ) (byte : ℕ) (read : ℕ → ℕ → Result A DeviceReadFault) (found : A) → Has file at (text ++ byte ∷ []) → read (at + length text) byte ≡ Ok found
    → tagged_in file at text read ≡ Ok (found, at + (length text + 1))
tagged_is file at text byte read found has is =
    let end = at + (length text + 1) in
    let whole : bytes_in file at (length text + 1) ≡ Ok (text ++ byte ∷ [], end) = bytes_is file at (length text + 1) (text ++ byte ∷ []) (piece_by file at (length text + 1) (text ++ byte ∷ []) (length-append text (byte ∷ [])) has) in
    tagged_found file at text read (text ++ byte ∷ []) text at end refl refl whole found
    (ap (checked Section end) (text_first at text (byte ∷ [])))
    (ap (read (at + length text)) (get_or-append_seam text byte [] 0) ∙ is)

-- what stands there, where it was read
pub record IsTagged {A : Type 0} (file : List ℕ) (at : ℕ) (text : List ℕ) (read : ℕ → ℕ → Result A DeviceReadFault) (found : A) (end : ℕ) : Type 0 where
  pub byte : ℕ
  pub stands : Has file at (text ++ byte ∷ [])
  pub told : read (at + length text) byte ≡ Ok found
  pub behind : end ≡ at + (length text + 1)

pub tagged_of : {A : Type 0} (file : List ℕ) (at : ℕ) (text : List ℕ) (read : ℕ → ℕ → Result A DeviceReadFault) (found : A) (end : ℕ) → tagged_in file at text read ≡ Ok (found, end) → IsTagged file at text read found end
unfolding tagged_in
tagged_of {A} file at text read found end is =
    let one = found_first (bytes_in file at (length text + 1)) _ (found, end) is in
    let piece = one.0 in
    let two = found_first (checked Section piece.1 (same_text at piece.0 text)) _ (found, end) one.2 in
    let three = found_first (read (at + length text) (slice_index piece.0 (length text))) _ (found, end) two.2 in
    let parts = bytes_of file at (length text + 1) piece.1 piece.0 one.1 in
    let same = checked_of Section piece.1 two.0 (same_text at piece.0 text) two.1 in
    let count : length piece.0 ≡ length text + 1 = piece_count file at (length text + 1) piece.0 parts.0 in
    let byte = slice_index piece.0 (length text) in
    let bytes : piece.0 ≡ text ++ byte ∷ [] =
    sym (take_all (length text + 1) piece.0 (omega (arith, count)))
    ∙ take_more piece.0 (length text) 0 (omega (arith, count))
    ∙ ap (λ (l : List ℕ). l ++ byte ∷ []) (first_text at piece.0 text (omega (arith, count)) same.0) in
    let last : ◌≡◌ {A = Result (A × ℕ) DeviceReadFault} (Ok (three.0, two.0)) (Ok (found, end)) = three.2 in
    let both : ◌≡◌ {A = A × ℕ} (three.0, two.0) (found, end) = cc in
    record {
      byte = byte;
      stands = has_same file at piece.0 (text ++ byte ∷ []) bytes (has_piece file at (length text + 1) piece.0 parts.0);
      told = three.1 ∙ ap (λ (p : A × ℕ). Ok p.0) both;
      behind = sym (ap (λ (p : A × ℕ). p.1) both) ∙ same.1 ∙ parts.1;
    }

-- the rest of a section
pub rest_is : {A : Type 0} (file : List ℕ) (at len id : ℕ) (header body : List ℕ) (read : ℕ → List ℕ → Result A DeviceReadFault) (found : A) → Has file at (header ++ (body ++ footer_text id)) → length body ≡ len
    → read (at + length header) body ≡ Ok found → rest_in file at header len read id ≡ Ok (found, at + length header + len + 5)
rest_is file at len id header body read found has count is =
    let one = has_parts file at header (body ++ footer_text id) has in
    let body_at = at + length header in
    let two = has_parts file body_at body (footer_text id) one.1 in
    let foot : Has file (body_at + len) (footer_text id) = subst (λ (n : ℕ). Has file (body_at + n) (footer_text id)) count two.1 in
    rest_found file at len id header header read refl body_at (section_is file at header one.0) body (body_at + len) body_at (bytes_is file body_at len body (piece_by file body_at len body count two.0)) refl found is (body_at + len + 5) (footer_is file (body_at + len) id foot)

pub record IsRest {A : Type 0} (file : List ℕ) (at len id : ℕ) (header : List ℕ) (read : ℕ → List ℕ → Result A DeviceReadFault) (found : A) (end : ℕ) : Type 0 where
  pub body : List ℕ
  pub count : length body ≡ len
  pub stands : Has file at (header ++ (body ++ footer_text id))
  pub body_stands : Has file (at + length header) body
  pub told : read (at + length header) body ≡ Ok found
  pub behind : end ≡ at + length header + len + 5

pub rest_of : {A : Type 0} (file : List ℕ) (at len id : ℕ) (header : List ℕ) (read : ℕ → List ℕ → Result A DeviceReadFault) (found : A) (end : ℕ) → rest_in file at header len read id ≡ Ok (found, end) → IsRest file at len id header read found end
unfolding rest_in
rest_of {A} file at len id header read found end is =
    let one = found_first (section_in file at header) _ (found, end) is in
    let body_at = one.0 in
    let two = found_first (bytes_in file body_at len) _ (found, end) one.2 in
    let body = two.0.0 in
    let three = found_first (read body_at body) _ (found, end) two.2 in
    let four = found_first (footer_in file two.0.1 id) _ (found, end) three.2 in
    let head = section_of file at body_at header one.1 in
    let middle = bytes_of file body_at len two.0.1 body two.1 in
    let foot = footer_of file two.0.1 four.0 id four.1 in
    let count : length body ≡ len = piece_count file body_at len body middle.0 in
    let last : ◌≡◌ {A = Result (A × ℕ) DeviceReadFault} (Ok (three.0, four.0)) (Ok (found, end)) = four.2 in
    let both : ◌≡◌ {A = A × ℕ} (three.0, four.0) (found, end) = cc in
    let foot_at : two.0.1 ≡ body_at + length body = middle.1 ∙ ap (λ (n : ℕ). body_at + n) (sym count) in
    let body_has : Has file body_at body = has_piece file body_at len body middle.0 in
    let foot_has : Has file (body_at + length body) (footer_text id) = subst (λ (p : ℕ). Has file p (footer_text id)) foot_at (has_piece file two.0.1 5 (footer_text id) foot.0) in
    let rest : Has file (at + length header) (body ++ footer_text id) = subst (λ (p : ℕ). Has file p (body ++ footer_text id)) head.1 (has_both file body_at body (footer_text id) body_has foot_has) in
    record {
      body = body;
      count = count;
      stands = has_both file at header (body ++ footer_text id) (has_piece file at (length header) header head.0) rest;
      body_stands = subst (λ (p : ℕ). Has file p body) head.1 body_has;
      told = ap (λ (p : ℕ). read p body) (sym head.1) ∙ three.1 ∙ ap (λ (p : A × ℕ). Ok p.0) both;
      behind = sym (ap (λ (p : A × ℕ). p.1) both) ∙ foot.1 ∙ ap (λ (n : ℕ). n + 5) (middle.1 ∙ ap (λ (n : ℕ). n + len) head.1);
    }
