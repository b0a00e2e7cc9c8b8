-- What the serial device holds, and what each access makes of it (this project's own device, docs/MACHINE.md).
use Rattle.std.specs.Prelude.{ℕ, ◌+◌, ◌-◌, ◌^◌, ◌<◌, ◌≤◌, min, nat_lt, List, [], ◌∷◌, ◌++◌, length, drop, slice_index, if◌then◌else◌}
use Rattle.ram_block.specs.declared.limits.TheConstants.{MAX_INPUT}
use Rattle.serial_timer.specs.declared.serial.TheConstants.{MAX_SERIAL_BYTES}

-- the bytes that the guest wrote and the device keeps, how many it lost, and the input that waits
pub record SerialData : Type 0 where
  pub bytes : List ℕ
  pub lost : ℕ
  pub input : List ℕ

-- within the limits
pub record IsSerial (s : SerialData) : Type 0 where
  pub bytes : length s.bytes ≤ MAX_SERIAL_BYTES
  pub lost : s.lost < 2 ^ 64
  pub input : length s.input ≤ MAX_INPUT

-- the device after a store to TX: a full one counts the byte as lost, up to the greatest u64
unfoldable pub sent : SerialData → ℕ → SerialData
sent s byte =
    if nat_lt (length s.bytes) MAX_SERIAL_BYTES then record s { bytes = s.bytes ++ byte ∷ [] }
    else record s { lost = min (s.lost + 1) (2 ^ 64 - 1) }

-- the byte that a load of RX gives: the first one that waits, or 0 where none does
unfoldable pub received_byte : SerialData → ℕ
received_byte s = slice_index s.input 0

-- the device after a load of RX
unfoldable pub received : SerialData → SerialData
received s = record s { input = drop 1 s.input }

-- what a load of STATUS gives: 0x20 where there is room for a byte, and 0x01 where one waits
unfoldable pub status_of : SerialData → ℕ
status_of s =
    (if nat_lt (length s.bytes) MAX_SERIAL_BYTES then 0x20 else 0) + (if nat_lt 0 (length s.input) then 0x01 else 0)
