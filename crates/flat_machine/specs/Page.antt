-- Numbers in a page of RAM, and pages in one flat list of bytes (RISC-V Unprivileged ISA, Load and Store Instructions:
-- memory is little-endian).
use Rattle.std.specs.Prelude.{ℕ, ◌+◌, ◌*◌, List, [], ◌∷◌, ◌++◌, length, take, drop, slice_index}
use Rattle.std.specs.Int.{w16, w32, w64, to_le_bytes, from_le_bytes}
use Rattle.ram_block.specs.declared.page_buf.TheConstants.{PAGE}
use Rattle.ram_block.specs.declared.place.Width.{Width}
use Rattle.ram_block.specs.declared.place.Width.TheVariants.{One, Two, Four, Eight}

-- the number that stands at a place of a page, in as many bytes as the width says
unfoldable pub number_at : Width → List ℕ → ℕ → ℕ
number_at One page off = slice_index page off
number_at Two page off = from_le_bytes w16 (take 2 (drop off page))
number_at Four page off = from_le_bytes w32 (take 4 (drop off page))
number_at Eight page off = from_le_bytes w64 (take 8 (drop off page))

-- the bytes of a number
abbrev pub bytes_of : Width → ℕ → List ℕ
bytes_of One value = value ∷ []
bytes_of Two value = to_le_bytes w16 value
bytes_of Four value = to_le_bytes w32 value
bytes_of Eight value = to_le_bytes w64 value

-- the page with these bytes at a place
abbrev pub with_bytes : List ℕ → ℕ → List ℕ → List ℕ
with_bytes page off bytes = take off page ++ (bytes ++ drop (off + length bytes) page)

-- the page with a number at a place
unfoldable pub with_number : Width → List ℕ → ℕ → ℕ → List ℕ
with_number width page off value = with_bytes page off (bytes_of width value)

-- page p of RAM, counted over all blocks
unfoldable pub page_at : List ℕ → ℕ → List ℕ
page_at ram p = take PAGE (drop (PAGE * p) ram)

-- RAM with other bytes in page p
unfoldable pub with_page : List ℕ → ℕ → List ℕ → List ℕ
with_page ram p page = take (PAGE * p) ram ++ (page ++ drop (PAGE * p + PAGE) ram)

-- pages, one after another
unfoldable pub joined : List (List ℕ) → List ℕ
joined [] = []
joined (page ∷ pages) = page ++ joined pages
