-- Where the pieces of a block stand (this project's own file layout, docs/FILE_FORMAT.md, after the plan of
-- QEMU's mapped-ram).
use Rattle.std.specs.Prelude.{ℕ, ◌+◌, ◌*◌}
use Rattle.std.specs.Int.{div_ceil, next_multiple_of}
use Rattle.ram_block.specs.declared.page_buf.TheConstants.{PAGE}
use Rattle.mapped_ram_header.specs.declared.header.TheConstants.{HEADER_LEN}
use Rattle.mapped_ram_header.specs.declared.block.Places.{Places}
use Rattle.mapped_ram_header.specs.declared.place.TheConstants.{PAGES_ALIGN}

-- the bytes of a bitmap: a bit for each page, in words of 64
abbrev pub bitmap_len : ℕ → ℕ
bitmap_len pages = 8 * div_ceil pages 64

-- where the pages begin: behind the header and the bitmap, at the next multiple of 1 MiB
abbrev pub first_page : ℕ → ℕ → ℕ
first_page header pages = next_multiple_of (header + HEADER_LEN + bitmap_len pages) PAGES_ALIGN

-- the places of a block of so many pages whose header begins at a place
abbrev pub places_of : ℕ → ℕ → Places
places_of header pages = record {
  header = header;
  bitmap = header + HEADER_LEN;
  pages = first_page header pages;
  end = first_page header pages + PAGE * pages;
}
