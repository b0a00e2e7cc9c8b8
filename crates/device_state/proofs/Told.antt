-- What the reader of a piece, or of a text, answers for devices.
use Rattle.std.proofs.Common.{◌≡◌, ℕ, ◌+◌, List, Option, Some, Result, Ok, Err, IfSome, IsErrAnd, length, sym, ap, ◌∙◌, subst, get_or, ◌<◌}
use Rattle.mig_stream.specs.Pieces.{piece_in, text_in, ReadsPiece, ReadsText}
use Rattle.mig_stream.specs.Text.{footer_text}
use Rattle.mig_stream.specs.declared.field_fault.FieldFault.{FieldFault}
use Rattle.mig_stream.specs.declared.field_fault.FieldFault.TheVariants.{Truncated, ReadFault}
use Rattle.mig_stream.specs.declared.text_fault.TextFault.{TextFault}
use Rattle.mig_stream.specs.declared.text_fault.TextFault.TheVariants as text_fault
use Rattle.device_state.specs.Reader.{AreBytes, IsRefusal, Reads, ReadsDevices}
use Rattle.device_state.specs.Reading.{DevicesRead, located, checked, bytes_in, footer_in}
use Rattle.device_state.specs.declared.devices.Devices.{Devices}
use Rattle.device_state.specs.declared.fault.DeviceReadFault.{DeviceReadFault}
use Rattle.device_state.specs.declared.fault.DeviceReadFault.TheVariants.{Field, Footer}
use Rattle.device_state.proofs.Found.{of_told, are_bytes, piece_of, text_has}

piece_refusal : (piece : Result (List ℕ) FieldFault) (end : ℕ) (buf : List ℕ) (fault : FieldFault) → ReadsPiece piece buf (Err fault) → IsRefusal (Field fault) → located end piece ≡ Err (Field fault)
piece_refusal piece end buf (Truncated at) is refusal = ap (located end) is
piece_refusal piece end buf ReadFault is refusal = absurd refusal

-- a piece that was read, and the fault of one
module _ (told : Option (List ℕ)) (file : List ℕ) (at len : ℕ) (buf : List ℕ) (is : told ≡ Some file) where
  pub piece_found : (end : ℕ) → end ≡ at + len → IfSome told (λ file. ReadsPiece (piece_in file at len) buf (Ok tt)) → bytes_in file at len ≡ Ok (buf, end)
  unfolding bytes_in
  piece_found end place answer =
      ap (located (at + len)) (of_told (λ (f : List ℕ). ReadsPiece (piece_in f at len) buf (Ok tt)) told file is answer)
      ∙ ap (λ (e : ℕ). Ok (buf, e)) (sym place)

  pub piece_bytes : (end : ℕ) → end ≡ at + len → ((i : ℕ) → get_or buf i 0 < 256) → IfSome told (λ file. ReadsPiece (piece_in file at len) buf (Ok tt)) → AreBytes file at end
  piece_bytes end place each answer =
      are_bytes file at len end buf each place (piece_of file at len buf (of_told (λ (f : List ℕ). ReadsPiece (piece_in f at len) buf (Ok tt)) told file is answer)).same

  pub piece_fault : (fault : FieldFault) → IfSome told (λ file. ReadsPiece (piece_in file at len) buf (Err fault)) → IsRefusal (Field fault) → bytes_in file at len ≡ Err (Field fault)
  unfolding bytes_in
  piece_fault fault answer refusal =
      piece_refusal (piece_in file at len) (at + len) buf fault (of_told (λ (f : List ℕ). ReadsPiece (piece_in f at len) buf (Err fault)) told file is answer) refusal

text_refusal : (wanted : (ℕ → ℕ → DeviceReadFault)) (end : ℕ) (text : Result (Unit {0}) TextFault) (fault : FieldFault) → ReadsText text (Err (text_fault.Field fault)) → IsRefusal (Field fault) → checked wanted end text ≡ Err (Field fault)
text_refusal wanted end text (Truncated at) is refusal = ap (checked wanted end) is
text_refusal wanted end text ReadFault is refusal = absurd refusal

-- a text that was found, a fault of one, and the first byte that differs
module _ (told : Option (List ℕ)) (file : List ℕ) (at : ℕ) (text : List ℕ) (is : told ≡ Some file) where
  pub text_found : (refusal : ℕ → ℕ → DeviceReadFault) (end : ℕ) → end ≡ at + length text → IfSome told (λ file. ReadsText (text_in file at text) (Ok tt)) → checked refusal (at + length text) (text_in file at text) ≡ Ok end
  text_found refusal end place answer =
      ap (checked refusal (at + length text)) (of_told (λ (f : List ℕ). ReadsText (text_in f at text) (Ok tt)) told file is answer)
      ∙ ap (λ (e : ℕ). Ok e) (sym place)

  pub text_bytes : (end : ℕ) → end ≡ at + length text → ((i : ℕ) → get_or text i 0 < 256) → IfSome told (λ file. ReadsText (text_in file at text) (Ok tt)) → AreBytes file at end
  text_bytes end place each answer =
      are_bytes file at (length text) end text each place (text_has file at text (of_told (λ (f : List ℕ). ReadsText (text_in f at text) (Ok tt)) told file is answer)).same

  failed : (e f : TextFault) → e ≡ f → IfSome told (λ file. ReadsText (text_in file at text) (Err e)) → ReadsText (text_in file at text) (Err f)
  failed e f same answer = subst (λ (t : TextFault). ReadsText (text_in file at text) (Err t)) same (of_told (λ (f : List ℕ). ReadsText (text_in f at text) (Err e)) told file is answer)

  pub text_fails : (refusal : ℕ → ℕ → DeviceReadFault) (end : ℕ) (fault : FieldFault) (e : TextFault) → e ≡ text_fault.Field fault → IfSome told (λ file. ReadsText (text_in file at text) (Err e)) → IsRefusal (Field fault)
      → checked refusal end (text_in file at text) ≡ Err (Field fault)
  text_fails refusal end fault e same answer told_by = text_refusal refusal end (text_in file at text) fault (failed e (text_fault.Field fault) same answer) told_by

  pub text_differs : (refusal : ℕ → ℕ → DeviceReadFault) (end place found : ℕ) (e : TextFault) → e ≡ text_fault.Differs place found → IfSome told (λ file. ReadsText (text_in file at text) (Err e))
      → checked refusal end (text_in file at text) ≡ Err (refusal place found)
  text_differs refusal end place found e same answer = ap (checked refusal end) (failed e (text_fault.Differs place found) same answer)

-- a fault that is handed on
pub refused : {A B : Type 0} (wanted : Result A DeviceReadFault) (tell : B → A) (fault : DeviceReadFault) (result : Result B DeviceReadFault) → IsErrAnd result (λ e. e ≡ fault) → (IsRefusal fault → wanted ≡ Err fault)
    → Reads wanted tell result
refused wanted tell fault (Ok found) is told = absurd is
refused wanted tell fault (Err e) is told = λ r. told (subst IsRefusal is r) ∙ ap (λ (d : DeviceReadFault). Err d) (sym is)

-- the same of the answer of a last call
pub handed_on : {A B C : Type 0} (inner : Result A DeviceReadFault) (tell_inner : B → A) (wanted : Result C DeviceReadFault) (tell : B → C) (result : Result B DeviceReadFault) → Reads inner tell_inner result
    → ((found : B) → inner ≡ Ok (tell_inner found) → wanted ≡ Ok (tell found)) → ((fault : DeviceReadFault) → inner ≡ Err fault → wanted ≡ Err fault) → Reads wanted tell result
handed_on inner tell_inner wanted tell (Ok found) answer ok err = ok found answer
handed_on inner tell_inner wanted tell (Err fault) answer ok err = λ r. err fault (answer r)

-- a footer by its text
pub as_footer : (file : List ℕ) (at id : ℕ) (text : List ℕ) (result : Result ℕ DeviceReadFault) → text ≡ footer_text id → checked Footer (at + length text) (text_in file at text) ≡ result → footer_in file at id ≡ result
unfolding footer_in
as_footer file at id text result same is = subst (λ (t : List ℕ). checked Footer (at + length t) (text_in file at t) ≡ result) same is

-- the same of all devices
pub refused_devices : (wanted : Result DevicesRead DeviceReadFault) (end : ℕ) (fault : DeviceReadFault) (result : Result Devices DeviceReadFault) → IsErrAnd result (λ e. e ≡ fault) → (IsRefusal fault → wanted ≡ Err fault)
    → ReadsDevices wanted end result
refused_devices wanted end fault (Ok found) is told = absurd is
refused_devices wanted end fault (Err e) is told = λ r. told (subst IsRefusal is r) ∙ ap (λ (d : DeviceReadFault). Err d) (sym is)
