-- The listing of bytes assembles to them.
use Rattle.std.proofs.Common.{◌≡◌, ℕ, ◌+◌, ◌*◌, ◌/◌, ◌^◌, ◌<◌, ◌≤◌, ◌++◌, All, List, [], ◌∷◌, length, take, drop, get_or, refl, sym, ap, ap₂, subst, ◌∙◌, append-nil, length-drop, ⊎_elim, arith}
use Rattle.std.specs.Int.{from_le_bytes, to_le_bytes, w32}
use Rattle.std.specs.List.{flat_map, range_with_len}
use Rattle.std.proofs.lemmas.List.{get_or_past, length-take-le}
use Rattle.std.proofs.lemmas.Bool.{cases_lt}
use Rattle.std.proofs.lemmas.List.Concat.{flat_map-append}
use Rattle.std.proofs.lemmas.List.Elements.{All-drop, All-get_or, All-head, All-tail, All-take}
use Rattle.std.proofs.lemmas.Nat.{le_bytes_4}
use Rattle.guest_asm.specs.declared.assembler.TheConstants.{MAX_TEXT}
use Rattle.guest_asm.specs.Assemble.{IsAssembled}
use Rattle.guest_asm.specs.Listing.{byte_line, list_of, word_at, word_line}
use Rattle.guest_asm.proofs.Chunks.{chunks_joined}
use Rattle.guest_asm.proofs.Lines.{byte_places, word_places}
use Rattle.guest_asm.proofs.Listed.{PlacesBytes}
use Rattle.guest_asm.proofs.ListedLines.{ListedLine, assembled, bytes_of, text_of}

-- a text is that of lines of a listing, which place these bytes
record IsListed (text bytes : List ℕ) : Type 0 where
  lines : List ListedLine
  text_joined : text ≡ flat_map text_of lines
  bytes_joined : bytes ≡ bytes_of lines

-- no line
no_lines : IsListed [] []
no_lines = record { lines = []; text_joined = refl; bytes_joined = refl }

-- one line
one_line : (text bytes : List ℕ) → PlacesBytes text bytes → length bytes ≤ 4 → IsListed text bytes
one_line text bytes h few = record {
  lines = record { line = h.line; piece = h.piece; bytes = bytes; places = h.places; is_piece = h.is_piece; few = few } ∷ [];
  text_joined = h.ended ∙ sym (append-nil (h.line ++ 10 ∷ []));
  bytes_joined = sym (append-nil bytes);
}

-- the lines of one text before those of another
both : (text bytes text' bytes' : List ℕ) → IsListed text bytes → IsListed text' bytes' → IsListed (text ++ text') (bytes ++ bytes')
both text bytes text' bytes' a b = record {
  lines = a.lines ++ b.lines;
  text_joined = ap₂ (λ (x y : List ℕ). x ++ y) a.text_joined b.text_joined ∙ sym (flat_map-append text_of a.lines b.lines);
  bytes_joined = ap₂ (λ (x y : List ℕ). x ++ y) a.bytes_joined b.bytes_joined ∙ sym (flat_map-append (λ (l : ListedLine). l.bytes) a.lines b.lines);
}

-- a text and bytes that are joined from as many parts
each_listed : {X : Type 0} (f g : X → List ℕ) (xs : List X) → ((x : X) → IsListed (f x) (g x)) → IsListed (flat_map f xs) (flat_map g xs)
each_listed f g [] h = no_lines
each_listed f g (x ∷ xs) h = both (f x) (g x) _ _ (h x) (each_listed f g xs h)

-- ---- The words

-- a byte is small, also where there is none
small_at : (bytes : List ℕ) (i : ℕ) → All (λ byte. byte < 2 ^ 8) bytes → get_or bytes i 0 < 256
small_at bytes i small =
    ⊎_elim (λ within. All-get_or (λ (b : ℕ). b < 2 ^ 8) bytes i 0 within small)
    (λ past. subst (λ b. b < 256) (sym (get_or_past bytes i 0 past)) (omega arith)) (cases_lt i (length bytes))

-- so the word that such bytes are is small
small_word : (bytes : List ℕ) → All (λ byte. byte < 2 ^ 8) bytes → from_le_bytes w32 bytes < 2 ^ 32
small_word bytes small = omega (arith, small_at bytes 0 small, small_at bytes 1 small, small_at bytes 2 small, small_at bytes 3 small)

-- and its bytes are those four
word_bytes : (bytes : List ℕ) → All (λ byte. byte < 2 ^ 8) bytes → length bytes ≡ 4 → to_le_bytes w32 (from_le_bytes w32 bytes) ≡ bytes
word_bytes bytes small four = le_bytes_4 bytes _ four (λ i. small_at bytes i small) refl

-- a part of small bytes is small
small_part : (bytes : List ℕ) (i : ℕ) → All (λ byte. byte < 2 ^ 8) bytes → All (λ byte. byte < 2 ^ 8) (take 4 (drop (4 * i) bytes))
small_part bytes i small = All-take (λ (b : ℕ). b < 2 ^ 8) 4 (drop (4 * i) bytes) (All-drop (λ (b : ℕ). b < 2 ^ 8) (4 * i) bytes small)

-- a whole word has four bytes
four_in : (bytes : List ℕ) (i : ℕ) → 4 * i + 4 ≤ length bytes → length (take 4 (drop (4 * i) bytes)) ≡ 4
four_in bytes i whole = length-take-le 4 (drop (4 * i) bytes) (omega (arith, length-drop (4 * i) bytes))

-- the bytes of all words, with those that are left
words_joined : (bytes : List ℕ) → All (λ byte. byte < 2 ^ 8) bytes →
    flat_map (λ i. to_le_bytes w32 (word_at bytes i)) (range_with_len 0 (length bytes / 4)) ++ drop (4 * (length bytes / 4)) bytes ≡ bytes
words_joined bytes small =
    chunks_joined (λ i. to_le_bytes w32 (word_at bytes i)) bytes 0 (length bytes / 4) (length bytes / 4) (omega arith)
    (λ i whole. word_bytes (take 4 (drop (4 * i) bytes)) (small_part bytes i small) (four_in bytes i whole)) (omega arith)

-- ---- The bytes that are left

-- a line for each byte
bytes_listed : (bytes : List ℕ) → All (λ byte. byte < 2 ^ 8) bytes → IsListed (flat_map byte_line bytes) bytes
bytes_listed [] small = no_lines
bytes_listed (byte ∷ bytes) small =
    both (byte_line byte) (byte ∷ []) (flat_map byte_line bytes) bytes
    (one_line _ _ (byte_places byte (All-head (λ b. b < 2 ^ 8) byte bytes small)) (omega arith))
    (bytes_listed bytes (All-tail (λ b. b < 2 ^ 8) byte bytes small))

-- ---- The whole text

-- the listing is such lines
listed : (bytes : List ℕ) → All (λ byte. byte < 2 ^ 8) bytes → IsListed (list_of bytes) bytes
unfolding list_of
listed bytes small =
    let k = length bytes / 4 in
    subst (IsListed (flat_map (λ i. word_line (word_at bytes i)) (range_with_len 0 k) ++ flat_map byte_line (drop (4 * k) bytes))) (words_joined bytes small)
    (both _ _ _ _
    (each_listed (λ i. word_line (word_at bytes i)) (λ i. to_le_bytes w32 (word_at bytes i)) (range_with_len 0 k)
    (λ i. one_line _ _ (word_places (word_at bytes i) (small_word (take 4 (drop (4 * i) bytes)) (small_part bytes i small))) (omega arith)))
    (bytes_listed (drop (4 * k) bytes) (All-drop (λ (b : ℕ). b < 2 ^ 8) (4 * k) bytes small)))

-- a text of such lines that is short enough assembles to their bytes
assembled_by : (text bytes : List ℕ) → IsListed text bytes → length text ≤ MAX_TEXT → IsAssembled text bytes
assembled_by text bytes h short =
    let fits : length (flat_map text_of h.lines) ≤ MAX_TEXT = omega (arith, ap length h.text_joined) in
    rw (h.text_joined, h.bytes_joined) (assembled h.lines fits)

-- the listing assembles to the bytes
pub listing_assembles : (bytes : List ℕ) → All (λ byte. byte < 2 ^ 8) bytes → length (list_of bytes) ≤ MAX_TEXT →
    IsAssembled (list_of bytes) bytes
listing_assembles bytes small short = assembled_by (list_of bytes) bytes (listed bytes small) short
