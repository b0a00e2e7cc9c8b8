-- A piece of a file, read whole and then checked, or why the file is refused (this project's own, docs/FILE_FORMAT.md).
use Rattle.std.specs.Prelude.{◌≡◌, ⊤, ℕ, List, Result, Ok, Err}
use Rattle.mig_stream.specs.Checks.{cut_at}
use Rattle.mig_stream.specs.Pieces.{text_in}
use Rattle.mig_stream.specs.declared.field_fault.FieldFault.{FieldFault}
use Rattle.mig_stream.specs.declared.field_fault.FieldFault.TheVariants as fields
use Rattle.mig_stream.specs.declared.text_fault.TextFault.{TextFault}
use Rattle.mig_stream.specs.declared.text_fault.TextFault.TheVariants.{Field, Differs}
use Rattle.device_state.specs.declared.fault.DeviceReadFault.{DeviceReadFault}
use Rattle.device_state.specs.declared.fault.DeviceReadFault.TheVariants as devices
use Rattle.loader.specs.declared.refusal.Refusal.{Refusal}
use Rattle.loader.specs.declared.refusal.Refusal.TheVariants.{Truncated, Config, Section, Name, Footer, Device}
use Rattle.loader.specs.declared.refusal.LoadFault.{LoadFault}
use Rattle.loader.specs.declared.refusal.LoadFault.TheVariants.{Refused, ReadFault, NoMemory}
use Rattle.loader.specs.declared.piece.Text.{Text}
use Rattle.loader.specs.declared.piece.Text.TheVariants as texts

-- the fault of a piece that isn't there
abbrev pub cut_fault : FieldFault → LoadFault
cut_fault (fields.Truncated at) = Refused (Truncated at)
cut_fault fields.ReadFault = ReadFault

-- the fault of a device text
abbrev pub devices_fault : DeviceReadFault → LoadFault
devices_fault (devices.Field fault) = cut_fault fault
devices_fault (devices.Section at found) = Refused (Section at found)
devices_fault (devices.Footer at found) = Refused (Footer at found)
devices_fault (devices.Device at fault) = Refused (Device at fault)
devices_fault devices.NoMemory = NoMemory

-- the refusal of a text by its first byte that differs
abbrev pub refusal_of : Text → ℕ → ℕ → Refusal
refusal_of texts.Configuration at found = Config at found
refusal_of texts.SectionHeader at found = Section at found
refusal_of (texts.BlockName block) at found = Name block at found
refusal_of texts.SectionFooter at found = Footer at found

abbrev pub refused_text : Text → Result (Unit {0}) TextFault → Result (Unit {0}) Refusal
refused_text kind (Ok same) = Ok tt
refused_text kind (Err (Field fault)) = Err (Truncated (cut_at fault))
refused_text kind (Err (Differs at found)) = Err (refusal_of kind at found)

-- the piece at the place is this text
abbrev pub expected : Text → List ℕ → ℕ → List ℕ → Result (Unit {0}) Refusal
expected kind file at text = refused_text kind (text_in file at text)

-- a reader's fault is the refusal, unless reading failed or memory was refused
abbrev pub Refuses : {A : Type 0} → Result A Refusal → LoadFault → Type 0
Refuses found (Refused refusal) = found ≡ Err refusal
Refuses found ReadFault = ⊤
Refuses found NoMemory = ⊤

-- a reader's answer, seen as what it says, is what stands in the file
abbrev pub AnswersAs : {T A : Type 0} → (T → A) → Result A Refusal → Result T LoadFault → Type 0
AnswersAs says found (Ok value) = found ≡ Ok (says value)
AnswersAs says found (Err fault) = Refuses found fault

abbrev pub Answers : {A : Type 0} → Result A Refusal → Result A LoadFault → Type 0
Answers found result = AnswersAs (λ value. value) found result
