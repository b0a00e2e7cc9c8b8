-- What a device text tells with which a file ends, and why another is refused.
use Rattle.std.proofs.Common.{◌≡◌, ℕ, ◌+◌, ◌≤◌, ◌<◌, List, Ok, Err, Result, IfOk, length, ◌∙◌, ap}
use Rattle.std.specs.Prelude.{nat_le}
use Rattle.std.proofs.lemmas.Bool.{cond-true, cond-false, le-leb, lt-leb}
use Rattle.device_state.specs.DeviceText.{DevicesData, SerialVersion}
use Rattle.device_state.specs.Reading.{devices_in}
use Rattle.device_state.specs.Reader.{IsRefusal, told_of}
use Rattle.device_state.specs.declared.fault.DeviceReadFault.{DeviceReadFault}
use Rattle.device_state.specs.declared.fault.DeviceReadFault.TheVariants as devices
use Rattle.mig_stream.specs.Checks.{and_then}
use Rattle.mig_stream.specs.declared.field_fault.FieldFault.TheVariants as fields
use Rattle.loader.specs.Frame.{last_of, last_in}
use Rattle.loader.specs.Piece.{Refuses, devices_fault}
use Rattle.device_state.specs.declared.devices.Devices.{Devices}
use Rattle.loader.specs.Stands.{EndsWith, HasLast, HasTail}
use Rattle.loader.specs.declared.refusal.LoadFault.{LoadFault}
use Rattle.loader.specs.declared.refusal.Refusal.{Refusal}
use Rattle.loader.specs.declared.refusal.Refusal.TheVariants.{Trailing}

-- the file ends where the text does
pub reads_last : (file : List ℕ) (at end : ℕ) (d : DevicesData) → ((version : SerialVersion) × (devices_in file at ≡ Ok (record { devices = d; version = version; end = end })))
    → length file ≤ end → last_in file at ≡ Ok d
unfolding last_in
reads_last file at end d found le = ap (last_of (length file)) found.1 ∙ ap (λ (r : Result (Unit {0}) Refusal). and_then r (λ _. Ok d)) (cond-true (nat_le (length file) end) (Ok tt) (Err (Trailing end)) (le-leb _ _ le))

-- it goes on behind the text
pub trails : (file : List ℕ) (at end : ℕ) (d : DevicesData) → ((version : SerialVersion) × (devices_in file at ≡ Ok (record { devices = d; version = version; end = end })))
    → end < length file → last_in file at ≡ Err (Trailing end)
unfolding last_in
trails file at end d found lt = ap (last_of (length file)) found.1 ∙ ap (λ (r : Result (Unit {0}) Refusal). and_then r (λ _. Ok d)) (cond-false (nat_le (length file) end) (Ok tt) (Err (Trailing end)) (lt-leb _ _ lt))

-- the text is refused
pub refuses_last : (file : List ℕ) (at : ℕ) (fault : DeviceReadFault) → (IsRefusal fault → devices_in file at ≡ Err fault) → Refuses (last_in file at) (devices_fault fault)
unfolding last_in
refuses_last file at (devices.Field (fields.Truncated place)) found = ap (last_of (length file)) (found tt)
refuses_last file at (devices.Field fields.ReadFault) found = tt
refuses_last file at (devices.Section place byte) found = ap (last_of (length file)) (found tt)
refuses_last file at (devices.Footer place byte) found = ap (last_of (length file)) (found tt)
refuses_last file at (devices.Device place field) found = ap (last_of (length file)) (found tt)
refuses_last file at devices.NoMemory found = tt

-- the markers of the tail, and what is behind it
pub has_last : (result : Result Devices LoadFault) (file : List ℕ) (at : ℕ) → HasTail file at → IfOk result (λ d. EndsWith file (at + 31) (told_of d))
    → IfOk result (λ d. HasLast file at (told_of d))
has_last (Ok d) file at markers ends = record { tail = markers; devices = ends }
has_last (Err fault) file at markers ends = tt
