-- The devices' registers, at fixed guest-physical addresses (this project's own memory map, docs/MACHINE.md).
use Rattle.std.specs.Prelude.{ℕ, ◌==◌, ◌&&◌, Bool, true, false, List, [], ◌∷◌, Option, MatchBool, ⊤}
use Rattle.std.specs.List.{find}
use Rattle.ram_block.specs.declared.locate.TheConstants.{SERIAL_DATA, SERIAL_STATUS, TIMER_TIME, TIMER_CMP, TIMER_DUE}
use Rattle.ram_block.specs.declared.place.Way.{Way}
use Rattle.ram_block.specs.declared.place.Way.TheVariants.{Load, Store}
use Rattle.ram_block.specs.declared.place.Width.{Width}
use Rattle.ram_block.specs.declared.place.Width.TheVariants.{One, Two, Four, Eight}
use Rattle.ram_block.specs.declared.place.SerialReg.TheVariants.{Tx, Rx, Status}
use Rattle.ram_block.specs.declared.place.TimerReg.TheVariants.{Time, Cmp, Due}
use Rattle.ram_block.specs.declared.place.Place.{Place}
use Rattle.ram_block.specs.declared.place.Place.TheVariants.{Serial, Timer}

-- where a register is, how wide its accesses are, and whether it has loads and stores; no register has another access
pub record Register : Type 0 where
  pub addr : ℕ
  pub width : Width
  pub loads : Bool
  pub stores : Bool

-- the device table, a line for each register; RAM is none
abbrev pub register_of : Place → Register
register_of (Serial Tx) = record { addr = SERIAL_DATA; width = One; loads = false; stores = true }
register_of (Serial Rx) = record { addr = SERIAL_DATA; width = One; loads = true; stores = false }
register_of (Serial Status) = record { addr = SERIAL_STATUS; width = One; loads = true; stores = false }
register_of (Timer Time) = record { addr = TIMER_TIME; width = Eight; loads = true; stores = false }
register_of (Timer Cmp) = record { addr = TIMER_CMP; width = Eight; loads = true; stores = true }
register_of (Timer Due) = record { addr = TIMER_DUE; width = Eight; loads = true; stores = false }
register_of _ = record { addr = 0; width = One; loads = false; stores = false }

-- the places of the table
abbrev pub registers : List Place
registers = Serial Tx ∷ Serial Rx ∷ Serial Status ∷ Timer Time ∷ Timer Cmp ∷ Timer Due ∷ []

-- whether two widths are the same
abbrev pub same_width : Width → Width → Bool
same_width One One = true
same_width Two Two = true
same_width Four Four = true
same_width Eight Eight = true
same_width _ _ = false

-- whether a register has accesses of this way
abbrev pub has_way : Register → Way → Bool
has_way register Load = register.loads
has_way register Store = register.stores
has_way register _ = false

-- whether the register at a place has the access
abbrev pub has_access : Place → Width → Way → Bool
has_access place width way = has_way (register_of place) way && same_width (register_of place).width width

-- the register that an access at an address goes to
unfoldable pub device_at : ℕ → Width → Way → Option Place
device_at addr width way = find (λ place. (addr == (register_of place).addr) && has_access place width way) registers

-- the accesses of each register, wherever it stands
abbrev pub IsRegisterAccess : Place → Width → Way → Type 0
IsRegisterAccess place width way = MatchBool (has_access place width way) ⊤ ⊥
