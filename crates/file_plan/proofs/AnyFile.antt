-- The file that a save writes is a layout of its machine: what a layout asks of a file, piece by piece.
use Rattle.std.proofs.Common.{◌≡◌, inl, inr, ℕ, zero, suc, ◌+◌, ◌-◌, ◌*◌, ◌/◌, ◌%◌, ◌<◌, ◌≤◌, List, [], ◌∷◌, ◌++◌, length, get_or, take, drop, sym, ap, ◌∙◌, arith}
use Rattle.std.specs.Prelude.{◌==◌, Bool, true, false, not}
use Rattle.std.specs.Int.{bit_at}
use Rattle.std.specs.List.{list_all}
use Rattle.std.proofs.lemmas.Bool.{cases_Bool}
use Rattle.std.proofs.lemmas.List.{ext_get_or, length-take, length-drop, get_or-take, get_or-drop, get_or-replicate}
use Rattle.std.proofs.lemmas.List.FromFn.{length-map-range_with_len, get_or-map-range_with_len}
use Rattle.page_bitmap.specs.Bitmap.{byte_len_of, bit_in, bytes_of}
use Rattle.page_bitmap.proofs.Bits.{get_or-bits_of}
use Rattle.page_bitmap.proofs.ReadBack.{bits_of-bytes_of}
use Rattle.std.proofs.lemmas.Nat.{mul-le}
use Rattle.file_plan.specs.Plan.{record_place, block_places, tail_place}
use Rattle.file_plan.proofs.Records.{record_place_first, record_place_more}
use Rattle.ram_block.specs.Page.{zero_page}
use Rattle.ram_block.proofs.Pages.{length-zero_page}
use Rattle.flat_machine.specs.Machine.{IsMachine, MachineData, Rest, page_of}
use Rattle.flat_machine.specs.Page.{page_at}
use Rattle.device_state.specs.DeviceText.{Two, device_text}
use Rattle.file_plan.specs.Layout.{StandsAt, page_bit, LaysPage, Lay, Piece, byte_in, is_saved, saved_bits, front_text, record_text, tail_text, bitmap_of, block_ram, block_pieces, pieces_from, pieces_of, last_piece, file_of}
use Rattle.file_plan.proofs.Heads.{length-front, length-record, length-bytes_of}
use Rattle.file_plan.proofs.Pieces.{byte_here, byte_behind, zero_at}

same : (a b : ℕ) → a ≡ b → a ≡ b
same a b e = e

-- bytes stand at a place where each of them stands at its own
pub stands : (file bytes : List ℕ) (at : ℕ) → at + length bytes ≤ length file → ((i : ℕ) → i < length bytes → get_or file (at + i) 0 ≡ get_or bytes i 0) → StandsAt file at bytes
stands file bytes at fits each =
    let size : length (take (length bytes) (drop at file)) ≡ length bytes = omega (arith, length-take (length bytes) (drop at file), length-drop at file) in
    ext_get_or 0 (take (length bytes) (drop at file)) bytes size (λ i lt.
    let within : i < length bytes = omega (arith, size) in
    get_or-take (length bytes) (drop at file) i 0 within ∙ get_or-drop at file i 0 ∙ each i within)

pub zero_page_at : (i : ℕ) → i < 4096 → get_or zero_page i 0 ≡ 0
unfolding zero_page
zero_page_at i lt = get_or-replicate 4096 i 0 0 lt

module _ (m : MachineData) (is : IsMachine m) where
  abbrev pages : ℕ
  pages = m.shape.pages

  abbrev record_at : ℕ → ℕ
  record_at b = record_place m.shape.pages b

  abbrev bitmap_at : ℕ → ℕ
  bitmap_at b = (block_places m.shape.pages b).bitmap

  abbrev pages_at : ℕ → ℕ
  pages_at b = (block_places m.shape.pages b).pages

  abbrev size : ℕ
  size = tail_place m.shape + length (last_piece m).bytes

  pub length-bitmap : (b : ℕ) → length (bitmap_of m b) ≡ byte_len_of m.shape.pages
  unfolding bitmap_of
  length-bitmap b = length-bytes_of m.shape.pages (saved_bits m b)

  -- the pages of the blocks up to this one are within the RAM
  within : (b : ℕ) → b < m.shape.blocks → 4096 * pages * b + 4096 * pages ≤ length m.ram
  within b lt = omega (arith, mul-le (b + 1) pages m.shape.blocks pages (omega arith) (omega arith), is.ram)

  pub length-block_ram : (b : ℕ) → b < m.shape.blocks → length (block_ram m b) ≡ 4096 * pages
  length-block_ram b lt = omega (arith, within b lt, length-take (4096 * pages) (drop (4096 * pages * b) m.ram), length-drop (4096 * pages * b) m.ram)

  -- the pieces of a block follow one another
  pub record_ends : (b : ℕ) → record_at b + 41 ≡ bitmap_at b
  record_ends b = omega arith

  pub bitmap_ends : (b : ℕ) → bitmap_at b + byte_len_of m.shape.pages ≤ pages_at b
  bitmap_ends b = omega arith

  pub pages_end : (b : ℕ) → pages_at b + 4096 * pages ≡ record_at (b + 1)
  pages_end b = sym (record_place_more pages b)

  pub block_ends : (b : ℕ) → record_at b + 41 + byte_len_of m.shape.pages + 4096 * pages ≤ record_at (b + 1)
  block_ends b = omega (arith, record_ends b, bitmap_ends b, pages_end b)

  records_grow : (i b : ℕ) → record_at b ≤ record_at (b + i)
  records_grow zero b = omega (arith, ap record_at (same (b + zero) b (omega arith)))
  records_grow (suc i) b = omega (arith, block_ends b, records_grow i (b + 1), ap record_at (same (b + 1 + i) (b + suc i) (omega arith)))

  pub records_in_order : (b c : ℕ) → b ≤ c → record_at b ≤ record_at c
  records_in_order b c le = omega (arith, records_grow (c - b) b, ap record_at (same (b + (c - b)) c (omega arith)))

  -- behind a block its pieces don't matter
  past_block : (b k : ℕ) (rest : List Piece) → b < m.shape.blocks → record_at (b + 1) ≤ k → byte_in (block_pieces m b ++ rest) k ≡ byte_in rest k
  past_block b k rest lt low =
      byte_behind (record { at = record_at b; bytes = record_text m.shape b })
      (record { at = bitmap_at b; bytes = bitmap_of m b } ∷ (record { at = pages_at b; bytes = block_ram m b } ∷ rest)) k
      (omega (arith, record_ends b, bitmap_ends b, pages_end b, length-record m.shape b))
      ∙ byte_behind (record { at = bitmap_at b; bytes = bitmap_of m b }) (record { at = pages_at b; bytes = block_ram m b } ∷ rest) k
      (omega (arith, bitmap_ends b, pages_end b, length-bitmap b))
      ∙ byte_behind (record { at = pages_at b; bytes = block_ram m b }) rest k (omega (arith, pages_end b, length-block_ram b lt))

  past_blocks : (i b r k : ℕ) (rest : List Piece) → b + i ≤ m.shape.blocks → record_at (b + i) ≤ k → byte_in (pieces_from m b (i + r) ++ rest) k ≡ byte_in (pieces_from m (b + i) r ++ rest) k
  unfolding pieces_from
  past_blocks zero b r k rest le low =
      ap (λ n. byte_in (pieces_from m b n ++ rest) k) (same (zero + r) r (omega arith)) ∙ ap (λ c. byte_in (pieces_from m c r ++ rest) k) (same b (b + zero) (omega arith))
  past_blocks (suc i) b r k rest le low =
      let moved : b + 1 + i ≡ b + suc i = omega arith in
      ap (λ n. byte_in (pieces_from m b n ++ rest) k) (same (suc i + r) (suc (i + r)) (omega arith))
      ∙ past_block b k (pieces_from m (b + 1) (i + r) ++ rest) (omega arith) (omega (arith, records_in_order (b + 1) (b + suc i) (omega arith)))
      ∙ past_blocks i (b + 1) r k rest (omega arith) (omega (arith, ap record_at moved)) ∙ ap (λ c. byte_in (pieces_from m c r ++ rest) k) moved

  abbrev front_piece : Piece
  front_piece = record { at = 0; bytes = front_text m.shape }

  past_front : (k : ℕ) → 47 ≤ k → byte_in (pieces_of m) k ≡ byte_in (pieces_from m 0 m.shape.blocks ++ last_piece m ∷ []) k
  unfolding pieces_of
  past_front k le = byte_behind front_piece (pieces_from m 0 m.shape.blocks ++ last_piece m ∷ []) k (omega (arith, length-front m.shape))

  -- what comes behind a block
  abbrev pub after : ℕ → List Piece
  after b = pieces_from m (b + 1) (m.shape.blocks - b - 1) ++ last_piece m ∷ []

  pub records_past_front : (b : ℕ) → 47 ≤ record_at b
  records_past_front b = omega (arith, record_place_first pages, records_in_order 0 b (omega arith))

  at_block : (b k : ℕ) → b < m.shape.blocks → record_at b ≤ k → byte_in (pieces_of m) k ≡ byte_in (block_pieces m b ++ after b) k
  unfolding pieces_from
  at_block b k lt low =
      past_front k (omega (arith, records_past_front b))
      ∙ ap (λ n. byte_in (pieces_from m 0 n ++ last_piece m ∷ []) k) (same m.shape.blocks (b + suc (m.shape.blocks - b - 1)) (omega arith))
      ∙ past_blocks b 0 (suc (m.shape.blocks - b - 1)) k (last_piece m ∷ []) (omega arith) (omega (arith, ap record_at (same (0 + b) b (omega arith))))
      ∙ ap (λ c. byte_in (pieces_from m c (suc (m.shape.blocks - b - 1)) ++ last_piece m ∷ []) k) (same (0 + b) b (omega arith))

  at_tail : (k : ℕ) → tail_place m.shape ≤ k → byte_in (pieces_of m) k ≡ byte_in (last_piece m ∷ []) k
  unfolding pieces_from
  at_tail k low =
      past_front k (omega (arith, records_past_front m.shape.blocks))
      ∙ ap (λ n. byte_in (pieces_from m 0 n ++ last_piece m ∷ []) k) (same m.shape.blocks (m.shape.blocks + 0) (omega arith))
      ∙ past_blocks m.shape.blocks 0 0 k (last_piece m ∷ []) (omega arith) (omega (arith, ap record_at (same (0 + m.shape.blocks) m.shape.blocks (omega arith))))

  pub length-file : length (file_of m) ≡ size
  unfolding file_of
  length-file = length-map-range_with_len (byte_in (pieces_of m)) 0 size

  pub file_byte : (k : ℕ) → k < size → get_or (file_of m) k 0 ≡ byte_in (pieces_of m) k
  unfolding file_of
  file_byte k lt = get_or-map-range_with_len (byte_in (pieces_of m)) 0 size k k 0 lt (omega arith)

  pub block_fits : (b : ℕ) → b < m.shape.blocks → record_at (b + 1) ≤ tail_place m.shape
  block_fits b lt = records_in_order (b + 1) m.shape.blocks (omega arith)

  -- each piece of a block, byte by byte
  record_byte : (b i : ℕ) → b < m.shape.blocks → i < 41 → get_or (file_of m) (record_at b + i) 0 ≡ get_or (record_text m.shape b) i 0
  record_byte b i lt small =
      file_byte (record_at b + i) (omega (arith, block_ends b, block_fits b lt)) ∙ at_block b (record_at b + i) lt (omega arith)
      ∙ byte_here (record { at = record_at b; bytes = record_text m.shape b })
      (record { at = bitmap_at b; bytes = bitmap_of m b } ∷ (record { at = pages_at b; bytes = block_ram m b } ∷ after b)) (record_at b + i) (omega arith) (omega (arith, length-record m.shape b))
      ∙ ap (λ (j : ℕ). get_or (record_text m.shape b) j 0) (omega arith)

  pub behind_record : (b k : ℕ) → b < m.shape.blocks → bitmap_at b ≤ k
      → byte_in (pieces_of m) k ≡ byte_in (record { at = bitmap_at b; bytes = bitmap_of m b } ∷ (record { at = pages_at b; bytes = block_ram m b } ∷ after b)) k
  behind_record b k lt low =
      at_block b k lt (omega (arith, record_ends b))
      ∙ byte_behind (record { at = record_at b; bytes = record_text m.shape b })
      (record { at = bitmap_at b; bytes = bitmap_of m b } ∷ (record { at = pages_at b; bytes = block_ram m b } ∷ after b)) k (omega (arith, record_ends b, length-record m.shape b))

  pub bitmap_byte : (b i : ℕ) → b < m.shape.blocks → i < byte_len_of m.shape.pages → get_or (file_of m) (bitmap_at b + i) 0 ≡ get_or (bitmap_of m b) i 0
  bitmap_byte b i lt small =
      file_byte (bitmap_at b + i) (omega (arith, bitmap_ends b, pages_end b, block_fits b lt)) ∙ behind_record b (bitmap_at b + i) lt (omega arith)
      ∙ byte_here (record { at = bitmap_at b; bytes = bitmap_of m b }) (record { at = pages_at b; bytes = block_ram m b } ∷ after b) (bitmap_at b + i) (omega arith) (omega (arith, length-bitmap b))
      ∙ ap (λ (j : ℕ). get_or (bitmap_of m b) j 0) (same (bitmap_at b + i - bitmap_at b) i (omega arith))

  pub ram_byte : (b i : ℕ) → b < m.shape.blocks → i < 4096 * pages → get_or (file_of m) (pages_at b + i) 0 ≡ get_or m.ram (4096 * pages * b + i) 0
  ram_byte b i lt small =
      file_byte (pages_at b + i) (omega (arith, pages_end b, block_fits b lt)) ∙ behind_record b (pages_at b + i) lt (omega (arith, bitmap_ends b))
      ∙ byte_behind (record { at = bitmap_at b; bytes = bitmap_of m b }) (record { at = pages_at b; bytes = block_ram m b } ∷ after b) (pages_at b + i) (omega (arith, bitmap_ends b, length-bitmap b))
      ∙ byte_here (record { at = pages_at b; bytes = block_ram m b }) (after b) (pages_at b + i) (omega arith) (omega (arith, length-block_ram b lt))
      ∙ ap (λ (j : ℕ). get_or (block_ram m b) j 0) (same (pages_at b + i - pages_at b) i (omega arith))
      ∙ get_or-take (4096 * pages) (drop (4096 * pages * b) m.ram) i 0 small ∙ get_or-drop (4096 * pages * b) m.ram i 0

  -- the pages of a block
  abbrev number : ℕ → ℕ → ℕ
  number b p = b * m.shape.pages + p

  page_ends : (p : ℕ) → p < pages → 4096 * p + 4096 ≤ 4096 * pages
  page_ends p lt = omega arith

  pub length-page : (b p : ℕ) → b < m.shape.blocks → p < pages → length (page_of m (number b p)) ≡ 4096
  unfolding page_at
  length-page b p lt small =
      omega (arith, within b lt, page_ends p small, length-take 4096 (drop (4096 * number b p) m.ram), length-drop (4096 * number b p) m.ram)

  pub page_byte : (b p i : ℕ) → i < 4096 → get_or (page_of m (number b p)) i 0 ≡ get_or m.ram (4096 * number b p + i) 0
  unfolding page_at
  page_byte b p i lt = get_or-take 4096 (drop (4096 * number b p) m.ram) i 0 lt ∙ get_or-drop (4096 * number b p) m.ram i 0

  pub page_stands : (b p : ℕ) → b < m.shape.blocks → p < pages → StandsAt (file_of m) (pages_at b + 4096 * p) (page_of m (number b p))
  page_stands b p lt small =
      stands (file_of m) (page_of m (number b p)) (pages_at b + 4096 * p) (omega (arith, length-page b p lt small, length-file, pages_end b, block_fits b lt, page_ends p small)) (λ i inside.
      let short : i < 4096 = omega (arith, length-page b p lt small) in
      ap (λ (k : ℕ). get_or (file_of m) k 0) (same (pages_at b + 4096 * p + i) (pages_at b + (4096 * p + i)) (omega arith))
      ∙ ram_byte b (4096 * p + i) lt (omega (arith, page_ends p small))
      ∙ ap (λ (k : ℕ). get_or m.ram k 0) (same (4096 * pages * b + (4096 * p + i)) (4096 * number b p + i) (omega arith))
      ∙ sym (page_byte b p i short))

  -- the bit of a page
  saved_bit : (b p : ℕ) → p < pages → bit_in (bitmap_of m b) p ≡ is_saved m (number b p)
  unfolding bitmap_of
  saved_bit b p small =
      sym (get_or-bits_of m.shape.pages (bytes_of m.shape.pages (saved_bits m b)) p false small)
      ∙ ap (λ (bits : List Bool). get_or bits p false) (bits_of-bytes_of m.shape.pages (saved_bits m b) (length-map-range_with_len (λ q. is_saved m (number b q)) 0 m.shape.pages))
      ∙ get_or-map-range_with_len (λ q. is_saved m (number b q)) 0 m.shape.pages p p false small (omega arith)

  bit_is : (b p : ℕ) → b < m.shape.blocks → p < pages → page_bit (file_of m) (bitmap_at b) p ≡ is_saved m (number b p)
  bit_is b p lt small =
      ap (λ (byte : ℕ). bit_at byte (p % 8) == 1) (get_or-drop (bitmap_at b) (file_of m) (p / 8) 0 ∙ bitmap_byte b (p / 8) lt (omega arith)) ∙ saved_bit b p small

  pub clear_page : (b p : ℕ) → b < m.shape.blocks → p < pages → is_saved m (number b p) ≡ false → page_of m (number b p) ≡ zero_page
  clear_page b p lt small clear = elim (cases_Bool (list_all (λ c. c == 0) (page_of m (number b p)))) [
    | inl zeros ↦
        ext_get_or 0 (page_of m (number b p)) zero_page (length-page b p lt small ∙ sym length-zero_page) (λ i inside.
        zero_at (page_of m (number b p)) i zeros ∙ sym (zero_page_at i (omega (arith, length-page b p lt small))))
    | inr some ↦
        let saved : true ≡ false = ap not (sym some) ∙ clear in
        absurd (cc saved)
  ]

  lays_page : (b p : ℕ) → b < m.shape.blocks → p < pages → LaysPage (file_of m) m b p
  lays_page b p lt small = record {
    stands = λ set. page_stands b p lt small;
    zeros = λ clear. clear_page b p lt small (sym (bit_is b p lt small) ∙ clear);
  }

  pub record_stands : (b : ℕ) → b < m.shape.blocks → StandsAt (file_of m) (record_at b) (record_text m.shape b)
  record_stands b lt = stands (file_of m) (record_text m.shape b) (record_at b) (omega (arith, length-record m.shape b, length-file, block_ends b, block_fits b lt)) (λ i inside. record_byte b i lt (omega (arith, length-record m.shape b)))

  front_byte : (i : ℕ) → i < 47 → get_or (file_of m) i 0 ≡ get_or (front_text m.shape) i 0
  unfolding pieces_of
  front_byte i lt =
      file_byte i (omega (arith, records_past_front m.shape.blocks))
      ∙ byte_here front_piece (pieces_from m 0 m.shape.blocks ++ last_piece m ∷ []) i (omega arith) (omega (arith, length-front m.shape))
      ∙ ap (λ (j : ℕ). get_or (front_text m.shape) j 0) (same (i - 0) i (omega arith))

  pub front_stands : StandsAt (file_of m) 0 (front_text m.shape)
  front_stands =
      stands (file_of m) (front_text m.shape) 0 (omega (arith, length-front m.shape, length-file, records_past_front m.shape.blocks)) (λ i inside.
      ap (λ (k : ℕ). get_or (file_of m) k 0) (same (0 + i) i (omega arith)) ∙ front_byte i (omega (arith, length-front m.shape)))

  pub tail_stands : drop (tail_place m.shape) (file_of m) ≡ tail_text ++ device_text Two m
  tail_stands =
      let long : length (drop (tail_place m.shape) (file_of m)) ≡ length (last_piece m).bytes = omega (arith, length-drop (tail_place m.shape) (file_of m), length-file) in
      ext_get_or 0 (drop (tail_place m.shape) (file_of m)) (last_piece m).bytes long (λ i inside.
      let short : i < length (last_piece m).bytes = omega (arith, long) in
      get_or-drop (tail_place m.shape) (file_of m) i 0 ∙ file_byte (tail_place m.shape + i) (omega arith) ∙ at_tail (tail_place m.shape + i) (omega arith)
      ∙ byte_here (last_piece m) [] (tail_place m.shape + i) (omega arith) (omega arith)
      ∙ ap (λ (j : ℕ). get_or (last_piece m).bytes j 0) (same (tail_place m.shape + i - tail_place m.shape) i (omega arith)))

  pub file_of_lays : Rest m → Lay (file_of m) m
  file_of_lays rest = record {
    machine = is;
    rest = rest;
    shape = record { front = front_stands; records = record_stands };
    pages = lays_page;
    tail = (Two, tt, tail_stands);
  }
