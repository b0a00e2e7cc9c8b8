-- Outside of the heads, of the pages that aren't all zeros and of the tail the file of a machine has zeros.
use Rattle.std.proofs.Common.{◌≡◌, inl, inr, ℕ, zero, suc, ◌+◌, ◌-◌, ◌*◌, ◌/◌, ◌%◌, ◌<◌, ◌≤◌, true, false, List, [], ◌∷◌, ◌++◌, length, get_or, sym, ap, ◌∙◌, arith, add-one}
use Rattle.std.proofs.lemmas.Bool.{cases_Bool, cases_lt}
use Rattle.std.proofs.lemmas.Nat.{mul-le, div-mul-add, mod-mul-add}
use Rattle.page_bitmap.specs.Bitmap.{byte_len_of}
use Rattle.flat_machine.specs.Machine.{IsMachine, MachineData}
use Rattle.file_plan.specs.Plan.{record_place, block_places, page_place, head_place, head_len_of, tail_place}
use Rattle.file_plan.specs.Layout.{byte_in, is_saved, record_text, bitmap_of, block_ram, pieces_from, pieces_of, last_piece, file_of}
use Rattle.file_plan.specs.UnderWay.{CoversFile, is_covered}
use Rattle.file_plan.proofs.AnyFile.{zero_page_at, record_ends, bitmap_ends, pages_end, block_ends, after, behind_record, file_byte, block_fits, length-bitmap, ram_byte, page_byte, clear_page}
use Rattle.file_plan.proofs.FilePieces.{has_its_pieces}
use Rattle.file_plan.proofs.Pieces.{byte_before, byte_behind}
use Rattle.file_plan.proofs.Records.{record_place_first}

-- where a block's head piece begins and ends
head_ends : (m : MachineData) (b : ℕ) → (head_place m.shape b ≤ record_place m.shape.pages b) × (head_place m.shape b + head_len_of m.shape.pages b ≡ record_place m.shape.pages b + 41 + byte_len_of m.shape.pages)
head_ends m zero = (omega arith, omega (arith, record_place_first m.shape.pages))
head_ends m (suc b) = (omega arith, omega arith)

-- a place from the first record on and before record n is in a block
block_of : (at : ℕ → ℕ) (n k : ℕ) → at 0 ≤ k → k < at n → (b : ℕ) × (b < n) × (at b ≤ k) × (k < at (b + 1))
block_of at zero k low high = absurd (omega arith)
block_of at (suc n) k low high = elim (cases_lt k (at n)) [
  | inl before ↦ let found = block_of at n k low before in (found.0, omega (arith, found.1), found.2, found.3)
  | inr from ↦ (n, omega arith, from, rw add-one high)
]

module _ (m : MachineData) (is : IsMachine m) where
  abbrev pages : ℕ
  pages = m.shape.pages

  abbrev record_at : ℕ → ℕ
  record_at b = record_place m.shape.pages b

  abbrev bitmap_at : ℕ → ℕ
  bitmap_at b = (block_places m.shape.pages b).bitmap

  abbrev pages_at : ℕ → ℕ
  pages_at b = (block_places m.shape.pages b).pages

  -- before a block none of the pieces from it on has a byte
  before_blocks : (n b k : ℕ) → b + n ≡ m.shape.blocks → k < record_at b → byte_in (pieces_from m b n ++ last_piece m ∷ []) k ≡ 0
  unfolding pieces_from
  before_blocks zero b k sum lt =
      let last : b ≡ m.shape.blocks = omega arith in
      byte_before (last_piece m) [] k (omega (arith, lt, ap record_at last))
  before_blocks (suc n) b k sum lt =
      byte_before (record { at = record_at b; bytes = record_text m.shape b })
      (record { at = bitmap_at b; bytes = bitmap_of m b } ∷ (record { at = pages_at b; bytes = block_ram m b } ∷ (pieces_from m (b + 1) n ++ last_piece m ∷ []))) k lt
      ∙ byte_before (record { at = bitmap_at b; bytes = bitmap_of m b }) (record { at = pages_at b; bytes = block_ram m b } ∷ (pieces_from m (b + 1) n ++ last_piece m ∷ [])) k (omega (arith, record_ends m is b))
      ∙ byte_before (record { at = pages_at b; bytes = block_ram m b }) (pieces_from m (b + 1) n ++ last_piece m ∷ []) k (omega (arith, record_ends m is b, bitmap_ends m is b))
      ∙ before_blocks n (b + 1) k (omega arith) (omega (arith, block_ends m is b))

  -- between a bitmap and the pages there is nothing
  gap_byte : (b k : ℕ) → b < m.shape.blocks → bitmap_at b + byte_len_of m.shape.pages ≤ k → k < pages_at b → byte_in (pieces_of m) k ≡ 0
  gap_byte b k lt low high =
      behind_record m is b k lt (omega arith)
      ∙ byte_behind (record { at = bitmap_at b; bytes = bitmap_of m b }) (record { at = pages_at b; bytes = block_ram m b } ∷ after m is b) k (omega (arith, length-bitmap m is b))
      ∙ byte_before (record { at = pages_at b; bytes = block_ram m b }) (after m is b) k high
      ∙ before_blocks (m.shape.blocks - b - 1) (b + 1) k (omega arith) (omega (arith, pages_end m is b))

  -- a byte of a page that is all zeros
  zero_byte : (b p i : ℕ) → b < m.shape.blocks → p < pages → i < 4096 → is_saved m (b * m.shape.pages + p) ≡ false → get_or (file_of m) (pages_at b + (4096 * p + i)) 0 ≡ 0
  zero_byte b p i lt small short clear =
      let place : 4096 * pages * b + (4096 * p + i) ≡ 4096 * (b * m.shape.pages + p) + i = omega arith in
      ram_byte m is b (4096 * p + i) lt (omega arith) ∙ ap (λ (k : ℕ). get_or m.ram k 0) place ∙ sym (page_byte m is b p i short)
      ∙ ap (λ (l : List ℕ). get_or l i 0) (clear_page m is b p lt small clear) ∙ zero_page_at i short

  module _ (ranges : List (ℕ × ℕ)) (covers : CoversFile ranges m) (k : ℕ) (some : 0 < k) (none : is_covered ranges k ≡ false) where
    not_both : is_covered ranges k ≡ true → ⊥
    not_both covered = let both : true ≡ false = sym covered ∙ none in absurd (cc both)

    in_page : (b : ℕ) → b < m.shape.blocks → pages_at b ≤ k → k < record_at (b + 1) → get_or (file_of m) k 0 ≡ 0
    in_page b lt low high =
        let p = (k - pages_at b) / 4096 in
        let i = (k - pages_at b) % 4096 in
        let short : i < 4096 = omega arith in
        let small : p < pages = omega (arith, pages_end m is b) in
        let place : pages_at b + (4096 * p + i) ≡ k = omega arith in
        let q = b * m.shape.pages + p in
        let block : q / m.shape.pages ≡ b = div-mul-add b m.shape.pages p small in
        let number : q % m.shape.pages ≡ p = mod-mul-add b m.shape.pages p small in
        let at_page : page_place m.shape.pages q ≡ pages_at b + 4096 * p = λ j. pages_at (block j) + 4096 * number j in
        let inside : q < m.shape.blocks * m.shape.pages = omega (arith, small, mul-le (b + 1) m.shape.pages m.shape.blocks m.shape.pages (omega arith) (omega arith)) in
        elim (cases_Bool (is_saved m q)) [
          | inl saved ↦ absurd (not_both (covers.pages q inside saved k some (omega (arith, at_page)) (omega (arith, at_page))))
          | inr clear ↦ ap (λ (j : ℕ). get_or (file_of m) j 0) (sym place) ∙ zero_byte b p i lt small short clear
        ]

    in_block : (b : ℕ) → b < m.shape.blocks → record_at b ≤ k → k < record_at (b + 1) → get_or (file_of m) k 0 ≡ 0
    in_block b lt low high = elim (cases_lt k (bitmap_at b + byte_len_of m.shape.pages)) [
      | inl in_head ↦ absurd (not_both (covers.heads b lt k some (omega (arith, (head_ends m b).0)) (omega (arith, (head_ends m b).1, record_ends m is b))))
      | inr behind ↦ elim (cases_lt k (pages_at b)) [
        | inl gap ↦ file_byte m is k (omega (arith, high, block_fits m is b lt)) ∙ gap_byte b k lt behind gap
        | inr page ↦ in_page b lt page high
      ]
    ]

    pub zero_elsewhere : k < length (file_of m) → get_or (file_of m) k 0 ≡ 0
    zero_elsewhere lt = elim (cases_lt k (tail_place m.shape)) [
      | inr in_tail ↦ absurd (not_both (covers.tail k some in_tail (omega (arith, lt, (has_its_pieces m is).size))))
      | inl before ↦ elim (cases_lt k (record_at 0)) [
        | inl in_front ↦
            absurd (not_both (covers.heads 0 (omega (arith, is.shape.blocks)) k some (omega arith) (omega (arith, (head_ends m 0).1))))
        | inr from ↦ let found = block_of record_at m.shape.blocks k from before in in_block found.0 found.1 found.2 found.3
      ]
    ]
