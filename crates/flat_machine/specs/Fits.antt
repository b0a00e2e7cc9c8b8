-- Which requests a page, the serial device and the timer can serve, whatever machine they are of (this project's own
-- device table, docs/MACHINE.md).
use Rattle.std.specs.Prelude.{◌≡◌, ◌⊎◌, ℕ, ◌%◌, ◌^◌, ◌<◌}
use Rattle.ram_block.specs.AddressMap.{width_bytes}
use Rattle.ram_block.specs.Devices.{IsRegisterAccess}
use Rattle.ram_block.specs.declared.page_buf.TheConstants.{PAGE}
use Rattle.ram_block.specs.declared.place.Place.TheVariants as places
use Rattle.ram_block.specs.declared.place.Way.TheVariants as ways
use Rattle.ram_block.specs.declared.place.Width.{Width}
use Rattle.ram_block.specs.declared.place.Width.TheVariants.{Four, Eight}
use Rattle.rv64i_step.specs.declared.request.Request.{Request}
use Rattle.rv64i_step.specs.declared.request.Request.TheVariants.{Fetch, Load, Store, Amo}

-- a place in a page, at a multiple of the width
abbrev pub IsInPage : Width → ℕ → Type 0
IsInPage width off = (off < PAGE) × (off % width_bytes width ≡ 0)

-- the request is one of a page
abbrev pub FitsPage : Request → Type 0
FitsPage (Fetch page off) = IsInPage Four off
FitsPage (Load (places.Ram page off) width) = IsInPage width off
FitsPage (Store (places.Ram page off) width value) = IsInPage width off
FitsPage (Amo (places.Ram page off) width op value) = IsInPage width off × ((width ≡ Four) ⊎ (width ≡ Eight))
FitsPage _ = ⊥

-- the request is one of the serial device
abbrev pub FitsSerial : Request → Type 0
FitsSerial (Load (places.Serial reg) width) = IsRegisterAccess (places.Serial reg) width ways.Load
FitsSerial (Store (places.Serial reg) width value) = IsRegisterAccess (places.Serial reg) width ways.Store
FitsSerial _ = ⊥

-- the request is one of the timer
abbrev pub FitsTimer : Request → Type 0
FitsTimer (Load (places.Timer reg) width) = IsRegisterAccess (places.Timer reg) width ways.Load
FitsTimer (Store (places.Timer reg) width value) = IsRegisterAccess (places.Timer reg) width ways.Store
FitsTimer _ = ⊥

-- what is fetched is a word
abbrev pub IsWordIfFetched : Request → ℕ → Type 0
IsWordIfFetched (Fetch page off) value = value < 2 ^ 32
IsWordIfFetched _ value = Unit {0}
