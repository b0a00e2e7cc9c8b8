-- Where an access to a guest-physical address goes (this project's own memory map, docs/MACHINE.md).
use Rattle.std.specs.Prelude.{◌≡◌, ℕ, ◌+◌, ◌-◌, ◌/◌, ◌%◌, ◌<◌, ◌≤◌, Bool, not, ◌&&◌, ◌==◌, nat_le, Result, Ok, Err, if◌then◌else◌}
use Rattle.std.specs.Option.{ok_or}
use Rattle.ram_block.specs.declared.page_buf.TheConstants.{PAGE}
use Rattle.ram_block.specs.declared.shape.TheConstants.{RAM_BASE}
use Rattle.ram_block.specs.declared.cause.Cause.{Cause}
use Rattle.ram_block.specs.declared.cause.Cause.TheVariants.{FetchMisaligned, FetchOutside, LoadMisaligned, LoadOutside, StoreMisaligned, StoreOutside}
use Rattle.ram_block.specs.declared.place.Way.{Way}
use Rattle.ram_block.specs.declared.place.Way.TheVariants.{Fetch, Load, Store, Amo}
use Rattle.ram_block.specs.declared.place.Width.{Width}
use Rattle.ram_block.specs.declared.place.Width.TheVariants.{One, Two, Four, Eight}
use Rattle.ram_block.specs.declared.place.Place.{Place}
use Rattle.ram_block.specs.declared.place.Place.TheVariants.{Ram}
use Rattle.ram_block.specs.Shape.{ShapeData, total_pages_of, ram_bytes_of}
use Rattle.ram_block.specs.Devices.{device_at, IsRegisterAccess}

-- how many bytes an access moves
abbrev pub width_bytes : Width → ℕ
width_bytes One = 1
width_bytes Two = 2
width_bytes Four = 4
width_bytes Eight = 8

-- why an access halts at an address that isn't a multiple of its width
abbrev pub misaligned_cause : Way → Cause
misaligned_cause Fetch = FetchMisaligned
misaligned_cause Load = LoadMisaligned
misaligned_cause Store = StoreMisaligned
misaligned_cause Amo = StoreMisaligned

-- why an access halts that neither RAM nor a device has
abbrev pub outside_cause : Way → Cause
outside_cause Fetch = FetchOutside
outside_cause Load = LoadOutside
outside_cause Store = StoreOutside
outside_cause Amo = StoreOutside

-- the address is a multiple of the width
abbrev pub IsAligned : ℕ → Width → Type 0
IsAligned addr width = addr % width_bytes width ≡ 0

-- every byte of the access is in RAM
abbrev pub IsInRam : ShapeData → ℕ → Width → Type 0
IsInRam s addr width = (RAM_BASE ≤ addr) × (addr + width_bytes width ≤ RAM_BASE + ram_bytes_of s)

-- the same, as a test
abbrev pub is_in_ram : ShapeData → ℕ → Width → Bool
is_in_ram s addr width = nat_le RAM_BASE addr && nat_le (addr + width_bytes width) (RAM_BASE + ram_bytes_of s)

-- the page, counted over all blocks, and the place in it
abbrev pub ram_place : ℕ → Place
ram_place addr = Ram ((addr - RAM_BASE) / PAGE) ((addr - RAM_BASE) % PAGE)

-- where the access goes, or why it halts
unfoldable pub located : ShapeData → ℕ → Width → Way → Result Place Cause
located s addr width way =
    if not (addr % width_bytes width == 0) then Err (misaligned_cause way)
    else if is_in_ram s addr width then Ok (ram_place addr)
    else ok_or (device_at addr width way) (outside_cause way)

-- the access lies in one page of the machine
pub record IsRamAccess (s : ShapeData) (width : Width) (page off : ℕ) : Type 0 where
  pub in_machine : page < total_pages_of s
  pub in_page : off + width_bytes width ≤ PAGE
  pub aligned : off % width_bytes width ≡ 0

-- the access can be carried out at the place: in one page of the machine, or as the device table has it
abbrev pub IsAccess : ShapeData → Width → Way → Place → Type 0
IsAccess s width way (Ram page off) = IsRamAccess s width page off
IsAccess s width way place = IsRegisterAccess place width way
