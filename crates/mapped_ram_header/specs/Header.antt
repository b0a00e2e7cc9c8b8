-- The mapped-ram header of a block (this project's own file layout, docs/FILE_FORMAT.md).
use Rattle.std.specs.Prelude.{ℕ, List, ◌++◌, take, drop, Result, Ok, Err, ◌==◌, if◌then◌else◌}
use Rattle.std.specs.Int.{w32, w64, to_be_bytes, from_be_bytes}
use Rattle.ram_block.specs.declared.page_buf.TheConstants.{PAGE}
use Rattle.mapped_ram_header.specs.declared.header.TheConstants.{HEADER_VERSION}
use Rattle.mapped_ram_header.specs.declared.block.Places.{Places}
use Rattle.mapped_ram_header.specs.declared.fault.HeaderFault.{HeaderFault}
use Rattle.mapped_ram_header.specs.declared.fault.HeaderFault.TheVariants.{Version, PageSize, BitmapOffset, PagesOffset}

-- its version, the page size, and where the bitmap and the pages begin
abbrev pub header_bytes : Places → List ℕ
header_bytes p = to_be_bytes w32 HEADER_VERSION ++ (to_be_bytes w64 PAGE ++ (to_be_bytes w64 p.bitmap ++ to_be_bytes w64 p.pages))

-- the four fields of a header
abbrev pub version_in : List ℕ → ℕ
version_in bytes = from_be_bytes w32 (take 4 bytes)

abbrev pub page_size_in : List ℕ → ℕ
page_size_in bytes = from_be_bytes w64 (take 8 (drop 4 bytes))

abbrev pub bitmap_in : List ℕ → ℕ
bitmap_in bytes = from_be_bytes w64 (take 8 (drop 12 bytes))

abbrev pub pages_in : List ℕ → ℕ
pages_in bytes = from_be_bytes w64 (take 8 (drop 20 bytes))

-- a field is as it should be, and what follows is, or the fault of the field
abbrev pub unless : ℕ → ℕ → HeaderFault → Result (Unit {0}) HeaderFault → Result (Unit {0}) HeaderFault
unless found wanted fault rest = if found == wanted then rest else Err fault

-- the first field that differs, in the order of the file
abbrev pub header_fault : List ℕ → Places → Result (Unit {0}) HeaderFault
header_fault bytes p =
    unless (version_in bytes) HEADER_VERSION (Version (version_in bytes)) (
    unless (page_size_in bytes) PAGE (PageSize (page_size_in bytes)) (
    unless (bitmap_in bytes) p.bitmap (BitmapOffset (bitmap_in bytes)) (
    unless (pages_in bytes) p.pages (PagesOffset (pages_in bytes)) (Ok tt))))
