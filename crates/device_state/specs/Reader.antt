-- What a reader of devices answers, against what stands in the file, and what it may answer over any file.
use Rattle.std.specs.Prelude.{◌≡◌, ℕ, ◌+◌, ◌<◌, ◌≤◌, List, length, slice_index, Result, Ok, Err}
use Rattle.medium.specs.Count.{HasRisen}
use Rattle.medium.specs.States.{FileState}
use Rattle.mig_stream.specs.declared.field_fault.FieldFault.TheVariants.{Truncated, ReadFault}
use Rattle.mig_stream.specs.Pieces.{Has}
use Rattle.device_state.specs.DeviceText.{SerialVersion, One, Two, DevicesData, TellsAll, devices_text}
use Rattle.device_state.specs.Reading.{DevicesRead}
use Rattle.device_state.specs.declared.devices.Devices.{Devices}
use Rattle.device_state.specs.declared.fault.DeviceReadFault.{DeviceReadFault}
use Rattle.device_state.specs.declared.fault.DeviceReadFault.TheVariants.{Field, Section, Footer, Device, NoMemory}
use Rattle.device_state.specs.declared.kind.SerialForm.{SerialForm}
use Rattle.device_state.specs.declared.kind.SerialForm.TheVariants.{WithoutInput, WithInput}

-- the bytes of the file tell it: neither a call of the medium failed nor did memory run out
abbrev pub IsRefusal : DeviceReadFault → Type 0
IsRefusal (Field (Truncated at)) = Unit {0}
IsRefusal (Field ReadFault) = ⊥
IsRefusal (Section at found) = Unit {0}
IsRefusal (Footer at found) = Unit {0}
IsRefusal (Device at fault) = Unit {0}
IsRefusal NoMemory = ⊥

-- what was found is what stands in the file, and so is a refusal
abbrev pub Reads : {A B : Type 0} → Result A DeviceReadFault → (B → A) → Result B DeviceReadFault → Type 0
Reads wanted tell (Ok found) = wanted ≡ Ok (tell found)
Reads wanted tell (Err fault) = IsRefusal fault → wanted ≡ Err fault

-- the place that the fault names is not before this one
abbrev pub IsFrom : ℕ → DeviceReadFault → Type 0
IsFrom from (Field (Truncated at)) = from ≤ at
IsFrom from (Field ReadFault) = Unit {0}
IsFrom from (Section at found) = from ≤ at
IsFrom from (Footer at found) = from ≤ at
IsFrom from (Device at fault) = from ≤ at
IsFrom from NoMemory = Unit {0}

-- what a fault tells over any file: its cause, and that its place is not before the one where reading began
pub record IsFault (old new : FileState) (from : ℕ) (fault : DeviceReadFault) : Type 0 where
  pub cause : fault ≡ Field ReadFault → HasRisen old.faults new.faults
  pub place : IsFrom from fault

-- what one found in bytes that were read is: the bytes' own refusal
pub record IsRefused (from : ℕ) (fault : DeviceReadFault) : Type 0 where
  pub refusal : IsRefusal fault
  pub place : IsFrom from fault

-- the numbers of the file from a place up to another are bytes
abbrev pub AreBytes : List ℕ → ℕ → ℕ → Type 0
AreBytes file from to = (i : ℕ) → from ≤ i → i < to → slice_index file i < 256

abbrev pub version_of_form : SerialForm → SerialVersion
version_of_form WithoutInput = One
version_of_form WithInput = Two

-- the bytes of the file from a place up to another are the device text of this version that tells these devices
pub record StandsAs (file : List ℕ) (from to : ℕ) (version : SerialVersion) (d : DevicesData) : Type 0 where
  pub tells_all : TellsAll version d.serial
  pub bytes : Has file from (devices_text version d)
  pub end : to ≡ from + length (devices_text version d)

-- devices as plain data
abbrev pub told_of : Devices → DevicesData
told_of d = record { vcpus = d.vcpus.items; serial = d.serial; cmp = d.timer; clock = d.clock }

-- the devices are those of which the file has a text, which ends at the place; and a refusal is the file's own
abbrev pub ReadsDevices : Result DevicesRead DeviceReadFault → ℕ → Result Devices DeviceReadFault → Type 0
ReadsDevices wanted end (Ok d) = (version : SerialVersion) × (wanted ≡ Ok (record { devices = told_of d; version = version; end = end }))
ReadsDevices wanted end (Err fault) = IsRefusal fault → wanted ≡ Err fault

-- some device text of these devices stands there
abbrev pub Stands : List ℕ → ℕ → ℕ → DevicesData → Type 0
Stands file from to d = (version : SerialVersion) × StandsAs file from to version d
