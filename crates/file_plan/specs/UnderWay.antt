-- A file on its way to be the file of a machine: which pieces it has, and what is written so far (this project's own
-- file layout and order of writes, docs/FILE_FORMAT.md).
use Rattle.std.specs.Prelude.{◌≡◌, ℕ, ◌+◌, ◌<◌, ◌≤◌, Bool, true, false, ◌&&◌, ◌||◌, nat_le, nat_lt, if◌then◌else◌, List, [], ◌∷◌, ◌++◌, length, get_or, drop, slice_get, Some}
use Rattle.medium.specs.Bytes.{written}
use Rattle.ram_block.specs.Shape.{total_pages_of}
use Rattle.ram_block.specs.declared.page_buf.TheConstants.{PAGE}
use Rattle.flat_machine.specs.Machine.{MachineData, page_of}
use Rattle.device_state.specs.DeviceText.{Two, device_text}
use Rattle.file_plan.specs.Plan.{page_place, head_place, head_len_of, tail_place}
use Rattle.file_plan.specs.Layout.{StandsAt, head_text, tail_text, saved_bits, is_saved, file_of}
use Rattle.file_plan.specs.declared.format.TheConstants.{GATE, TAIL_LEN}

-- the pieces of the file of a machine, each whole at its place, and the first head without the gate byte
pub record HasItsPieces (file : List ℕ) (m : MachineData) : Type 0 where
  pub gate : slice_get file 0 ≡ Some GATE
  pub heads : (block : ℕ) → block < m.shape.blocks → StandsAt file (head_place m.shape block) (head_text m.shape block (saved_bits m block))
  pub behind_gate : StandsAt file 1 (drop 1 (head_text m.shape 0 (saved_bits m 0)))
  pub pages : (p : ℕ) → p < total_pages_of m.shape → StandsAt file (page_place m.shape.pages p) (page_of m p)
  pub tail : drop (tail_place m.shape) file ≡ tail_text ++ device_text Two m
  pub size : length file ≡ tail_place m.shape + (TAIL_LEN + length (device_text Two m))

-- the place k is in one of the ranges, each a place and a length
abbrev pub is_covered : List (ℕ × ℕ) → ℕ → Bool
is_covered [] k = false
is_covered (range ∷ ranges) k = (nat_le range.0 k && nat_lt k (range.0 + range.1)) || is_covered ranges k

-- The ranges have each place of a piece of so many bytes, but for the place of the gate byte.
abbrev pub Covers : List (ℕ × ℕ) → ℕ → ℕ → Type 0
Covers ranges at n = (k : ℕ) → 0 < k → at ≤ k → k < at + n → is_covered ranges k ≡ true

-- The file under way: its gate byte is shut; where a piece was written it has the bytes of the machine's file, and
-- zeros elsewhere. The ranges are those of the pieces written so far.
pub record IsLaidSoFar (file : List ℕ) (m : MachineData) (ranges : List (ℕ × ℕ)) : Type 0 where
  pub shut : slice_get file 0 ≡ Some 0
  pub size : length file ≤ length (file_of m)
  pub reaches : (k : ℕ) → is_covered ranges k ≡ true → k < length file
  pub bytes : (k : ℕ) → 0 < k → get_or file k 0 ≡ (if is_covered ranges k then get_or (file_of m) k 0 else 0)

-- Each piece is written: the head of each block, each page that isn't all zeros, and the tail with the devices.
pub record CoversFile (ranges : List (ℕ × ℕ)) (m : MachineData) : Type 0 where
  pub heads : (block : ℕ) → block < m.shape.blocks → Covers ranges (head_place m.shape block) (head_len_of m.shape.pages block)
  pub pages : (p : ℕ) → p < total_pages_of m.shape → is_saved m p ≡ true → Covers ranges (page_place m.shape.pages p) PAGE
  pub tail : Covers ranges (tail_place m.shape) (TAIL_LEN + length (device_text Two m))

-- The file is the machine's but for the gate byte, which is shut: to open it is all that is left.
pub record IsShutFile (file : List ℕ) (m : MachineData) : Type 0 where
  pub opens : file_of m ≡ written 0 (GATE ∷ []) file
  pub shut : file ≡ written 0 (0 ∷ []) (file_of m)
