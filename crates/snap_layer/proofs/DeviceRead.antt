-- What is read behind the pages, and why there is nothing.
use Rattle.std.proofs.Common.{◌≡◌, ◌≢◌, ℕ, List, Ok, Err, Result, length, refl, sym, subst, ◌∙◌, ap}
use Rattle.device_state.specs.DeviceText.{DevicesData, SerialVersion}
use Rattle.device_state.specs.Reading.{devices_in}
use Rattle.device_state.specs.Reader.{IsRefusal, told_of}
use Rattle.device_state.specs.declared.fault.DeviceReadFault.{DeviceReadFault}
use Rattle.device_state.specs.declared.fault.DeviceReadFault.TheVariants as devices
use Rattle.mig_stream.specs.Checks.{and_then}
use Rattle.mig_stream.specs.declared.field_fault.FieldFault.TheVariants as fields
use Rattle.snap_layer.specs.Reading.{AnswersAs, devices_fault, ends_in, last_in, last_of}
use Rattle.snap_layer.specs.declared.refusal.LayerFault.{LayerFault}
use Rattle.snap_layer.specs.declared.refusal.LayerRefusal.{LayerRefusal}

-- some version of the device text was found
abbrev pub Found : List ℕ → ℕ → ℕ → DevicesData → Type 0
Found layer at end d = (version : SerialVersion) × (devices_in layer at ≡ Ok (record { devices = d; version = version; end = end }))

-- what is said then of the end
ended : (layer : List ℕ) (at end vcpus : ℕ) (d : DevicesData) → Found layer at end d → last_in vcpus layer at ≡ and_then (ends_in vcpus (length layer) (length d.vcpus) end) (λ _. Ok d)
unfolding last_in
ended layer at end vcpus d found = ap (last_of vcpus (length layer)) found.1

pub refused_end : (layer : List ℕ) (at end vcpus : ℕ) (d : DevicesData) (refusal : LayerRefusal) → Found layer at end d → ends_in vcpus (length layer) (length d.vcpus) end ≡ Err refusal
    → last_in vcpus layer at ≡ Err refusal
refused_end layer at end vcpus d refusal found is = ended layer at end vcpus d found ∙ ap (λ (r : Result (Unit {0}) LayerRefusal). and_then r (λ _. Ok d)) is

pub reads_last : (layer : List ℕ) (at end vcpus : ℕ) (d : DevicesData) → Found layer at end d → ends_in vcpus (length layer) (length d.vcpus) end ≡ Ok tt → last_in vcpus layer at ≡ Ok d
reads_last layer at end vcpus d found is = ended layer at end vcpus d found ∙ ap (λ (r : Result (Unit {0}) LayerRefusal). and_then r (λ _. Ok d)) is

-- the text is refused
pub refuses_last : (layer : List ℕ) (at vcpus : ℕ) (fault : DeviceReadFault) → fault ≢ devices.Field fields.ReadFault → (IsRefusal fault → devices_in layer at ≡ Err fault)
    → AnswersAs told_of (last_in vcpus layer at) (Err (devices_fault fault))
unfolding last_in
refuses_last layer at vcpus (devices.Field (fields.Truncated place)) no_read found = ap (last_of vcpus (length layer)) (found tt)
refuses_last layer at vcpus (devices.Field fields.ReadFault) no_read found = absurd (no_read refl)
refuses_last layer at vcpus (devices.Section place byte) no_read found = ap (last_of vcpus (length layer)) (found tt)
refuses_last layer at vcpus (devices.Footer place byte) no_read found = ap (last_of vcpus (length layer)) (found tt)
refuses_last layer at vcpus (devices.Device place field) no_read found = ap (last_of vcpus (length layer)) (found tt)
refuses_last layer at vcpus devices.NoMemory no_read found = tt

-- the bytes that were read are the layer's
pub found_there : (file layer : List ℕ) (there at end : ℕ) (d : DevicesData) → file ≡ layer → there ≡ at → Found file there end d → Found layer at end d
found_there file layer there at end d same place found =
    subst (λ (f : List ℕ). Found f at end d) same (subst (λ (k : ℕ). Found file k end d) place found)

pub refused_there : (file layer : List ℕ) (there at vcpus : ℕ) (fault : DeviceReadFault) (answer : LayerFault) → file ≡ layer → there ≡ at → answer ≡ devices_fault fault → fault ≢ devices.Field fields.ReadFault
    → (IsRefusal fault → devices_in file there ≡ Err fault) → AnswersAs told_of (last_in vcpus layer at) (Err answer)
refused_there file layer there at vcpus fault answer same place is no_read found =
    let here : IsRefusal fault → devices_in layer at ≡ Err fault =
    λ refusal. ap (λ (f : List ℕ). devices_in f at) (sym same) ∙ ap (devices_in file) (sym place) ∙ found refusal in
    subst (λ (f : LayerFault). AnswersAs told_of (last_in vcpus layer at) (Err f)) (sym is) (refuses_last layer at vcpus fault no_read here)
