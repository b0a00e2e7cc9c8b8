-- An ELF file and the memory that its segments make (ELF-64 Object File Format, version 1.5, File header and Program
-- header table; the order of the tests is this project's own, docs/COMMAND_LINE.md).
use Rattle.std.specs.Prelude.{◌≡◌, ℕ, zero, suc, ◌+◌, ◌-◌, ◌*◌, ◌^◌, ◌<◌, ◌≤◌, Bool, true, not, ◌&&◌, ◌==◌, max, nat_lt, nat_le, List, length, map, take, drop, slice_index, Option, Some, None, Result, Ok, Err, if◌then◌else◌}
use Rattle.std.specs.Int.{w16, w32, w64, from_le_bytes}
use Rattle.std.specs.List.{range_with_len}
use Rattle.std.specs.Option.{option_or}
use Rattle.ram_block.specs.declared.shape.TheConstants.{RAM_BASE}
use Rattle.image_file.specs.declared.elf.TheConstants.{EHDR_LEN, ELFCLASS64, ELFDATA2LSB, EM_RISCV}
use Rattle.image_file.specs.declared.program_header.TheConstants.{PHDR_LEN, PT_LOAD}
use Rattle.image_file.specs.declared.program_header.ProgramHeader.{ProgramHeader}
use Rattle.image_file.specs.declared.elf_kind.ElfKind.TheVariants.{Short, Class, Encoding, Machine, EntrySize, Table, Sizes, Range, Place}
use Rattle.image_file.specs.declared.image_refusal.ImageRefusal.{ImageRefusal}
use Rattle.image_file.specs.declared.image_refusal.ImageRefusal.TheVariants.{Elf}

-- the little-endian numbers of two, four and eight bytes at a place of a file
unfoldable pub half_at : List ℕ → ℕ → ℕ
half_at file at = from_le_bytes w16 (take 2 (drop at file))

unfoldable pub word_at : List ℕ → ℕ → ℕ
word_at file at = from_le_bytes w32 (take 4 (drop at file))

unfoldable pub xword_at : List ℕ → ℕ → ℕ
xword_at file at = from_le_bytes w64 (take 8 (drop at file))

-- the fields of the file header that count
abbrev pub e_class : List ℕ → ℕ
e_class file = slice_index file 4

abbrev pub e_data : List ℕ → ℕ
e_data file = slice_index file 5

abbrev pub e_machine : List ℕ → ℕ
e_machine file = half_at file 18

abbrev pub e_phoff : List ℕ → ℕ
e_phoff file = xword_at file 32

abbrev pub e_phentsize : List ℕ → ℕ
e_phentsize file = half_at file 54

abbrev pub e_phnum : List ℕ → ℕ
e_phnum file = half_at file 56

-- where program header j stands
abbrev pub header_place : List ℕ → ℕ → ℕ
header_place file j = e_phoff file + PHDR_LEN * j

-- the fields of program header j that count
unfoldable pub program_header : List ℕ → ℕ → ProgramHeader
program_header file j =
    let at = header_place file j in
    record { p_type = word_at file at; p_offset = xword_at file (at + 8); p_paddr = xword_at file (at + 24); p_filesz = xword_at file (at + 32); p_memsz = xword_at file (at + 40) }

-- a segment that has bytes in memory
abbrev pub is_placed : ProgramHeader → Bool
is_placed h = (h.p_type == PT_LOAD) && not (h.p_memsz == 0)

-- its memory lies in RAM of so many bytes
abbrev pub lies_in : ProgramHeader → ℕ → Bool
lies_in h ram = nat_le RAM_BASE h.p_paddr && nat_le (h.p_paddr + h.p_memsz) (RAM_BASE + ram)

-- the first fault of the file header
unfoldable pub file_header_fault : List ℕ → Option ImageRefusal
file_header_fault file =
    if nat_lt (length file) EHDR_LEN then Some (Elf Short 0)
    else if not (e_class file == ELFCLASS64) then Some (Elf Class 4)
    else if not (e_data file == ELFDATA2LSB) then Some (Elf Encoding 5)
    else if not (e_machine file == EM_RISCV) then Some (Elf Machine 18)
    else if not (e_phnum file == 0) && not (e_phentsize file == PHDR_LEN) then Some (Elf EntrySize 54)
    else None

-- the first fault of a segment whose header stands at a place
abbrev pub segment_fault : List ℕ → ℕ → ℕ → ProgramHeader → Option ImageRefusal
segment_fault file ram at h =
    if not (h.p_type == PT_LOAD) then None
    else if nat_lt h.p_memsz h.p_filesz then Some (Elf Sizes (at + 32))
    else if nat_lt (length file) (h.p_offset + h.p_filesz) then Some (Elf Range (at + 8))
    else if is_placed h && not (lies_in h ram) then Some (Elf Place (at + 24))
    else None

-- the first fault of program header j, for a machine with so many bytes of RAM
unfoldable pub header_fault : List ℕ → ℕ → ℕ → Option ImageRefusal
header_fault file ram j =
    let at = header_place file j in
    if nat_lt (length file) (at + PHDR_LEN) then Some (Elf Table 32) else segment_fault file ram at (program_header file j)

-- the first fault of the first n program headers
unfoldable pub table_fault : List ℕ → ℕ → ℕ → Option ImageRefusal
table_fault file ram zero = None
table_fault file ram (suc j) = option_or (table_fault file ram j) (header_fault file ram j)

-- the first fault of the file
abbrev pub elf_fault : List ℕ → ℕ → Option ImageRefusal
elf_fault file ram = option_or (file_header_fault file) (table_fault file ram (e_phnum file))

-- a segment has a byte at an address
abbrev pub covers : ProgramHeader → ℕ → Bool
covers h address = is_placed h && (nat_le h.p_paddr address && nat_lt address (h.p_paddr + h.p_memsz))

-- that byte: the file's, or 0 behind those of the file
abbrev pub segment_byte : List ℕ → ProgramHeader → ℕ → ℕ
segment_byte file h address =
    let k = address - h.p_paddr in
    if nat_lt k h.p_filesz then slice_index file (h.p_offset + k) else 0

-- the byte of memory at an address: that of the last of the first n segments that has one there, 0 where none has
unfoldable pub memory_byte : List ℕ → ℕ → ℕ → ℕ
memory_byte file zero address = 0
memory_byte file (suc j) address =
    let h = program_header file j in
    if covers h address then segment_byte file h address else memory_byte file j address

-- how many bytes of RAM there are up to the end of a segment that has bytes
abbrev pub reach_of : ProgramHeader → ℕ
reach_of h = if is_placed h then (h.p_paddr + h.p_memsz) - RAM_BASE else 0

-- how many bytes of RAM there are up to the highest end of the first n segments
unfoldable pub image_len : List ℕ → ℕ → ℕ
image_len file zero = 0
image_len file (suc j) = max (image_len file j) (reach_of (program_header file j))

-- so many bytes of memory from an address on
unfoldable pub memory : List ℕ → ℕ → ℕ → List ℕ
memory file from len = map (λ k. memory_byte file (e_phnum file) (from + k)) (range_with_len 0 len)

-- the image, unless there is a fault
abbrev pub unless : Option ImageRefusal → List ℕ → Result (List ℕ) ImageRefusal
unless (Some refusal) image = Err refusal
unless None image = Ok image

-- the image of an ELF file for a machine with so many bytes of RAM
unfoldable pub elf_of : List ℕ → ℕ → Result (List ℕ) ImageRefusal
elf_of file ram = unless (elf_fault file ram) (memory file RAM_BASE (image_len file (e_phnum file)))

-- every byte that a placed segment names is there
pub record IsSoundSegment (file : List ℕ) (h : ProgramHeader) : Type 0 where
  pub sizes : h.p_filesz ≤ h.p_memsz
  pub range : h.p_offset + h.p_filesz ≤ length file
  pub end : h.p_paddr + h.p_memsz < 2 ^ 32

-- a program header lies in the file, and a placed segment is sound
pub record IsSoundHeader (file : List ℕ) (j : ℕ) : Type 0 where
  pub in_file : header_place file j + PHDR_LEN ≤ length file
  pub segment : is_placed (program_header file j) ≡ true → IsSoundSegment file (program_header file j)

-- all of them are
abbrev pub AreSound : List ℕ → Type 0
AreSound file = (j : ℕ) → j < e_phnum file → IsSoundHeader file j
