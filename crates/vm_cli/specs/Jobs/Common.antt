-- The steps that several jobs have, and what more than one job promises (this project's own, docs/COMMAND_LINE.md).
use Rattle.std.specs.Prelude.{◌≡◌, ◌⊎◌, ◌≤◌, ℕ, Bool, true, false, nat_lt, List, [], ◌∷◌, ◌++◌, length, Option, Some, None, option_map, Result, Ok, Err, IfSome}
use Rattle.image_file.specs.declared.image_refusal.ImageRefusal.{ImageRefusal}
use Rattle.medium.specs.Bytes.{AddsFront, BecomesTold}
use Rattle.medium.specs.Count.{HasRisen}
use Rattle.medium.specs.Crash.{Only}
use Rattle.medium.specs.States.{FileState, SinkState, SourceState}
use Rattle.vm_cli.specs.FaultLine.{fault_line}
use Rattle.vm_cli.specs.Parts.{AddsBehind, AddsFronts}
use Rattle.vm_cli.specs.Steps.{Step, Image, Output, Console}
use Rattle.vm_cli.specs.declared.answer.Fault.{Fault}
use Rattle.vm_cli.specs.declared.answer.Fault.TheVariants as faults

-- ---- Steps

abbrev pub is_image_refusal : Fault → Bool
is_image_refusal (faults.ImageRefused refusal) = true
is_image_refusal _ = false

-- the image is read, to its end or to a limit, and refused as its bytes call for
abbrev pub read_image_step : (List ℕ → Option Fault) → SourceState → Step
read_image_step refusal image = record { calls = Some Image; may_refuse = is_image_refusal; verdict = option_map refusal image.left }

-- the fault of a text that is too long
abbrev pub length_fault : Result (List ℕ) ImageRefusal → Option Fault
length_fault (Err refusal) = Some (faults.ImageRefused refusal)
length_fault (Ok text) = None

abbrev pub is_not_empty : Fault → Bool
is_not_empty (faults.NotEmpty len) = nat_lt 0 len
is_not_empty _ = false

-- the fault that the bytes of an output call for
abbrev pub not_empty_in : List ℕ → Option Fault
not_empty_in [] = None
not_empty_in (b ∷ bytes) = Some (faults.NotEmpty (length (b ∷ bytes)))

-- an output is written, unless it has bytes
abbrev pub write_output_step : FileState → Step
write_output_step output = record { calls = Some Output; may_refuse = is_not_empty; verdict = option_map not_empty_in output.told }

-- a text is printed
abbrev pub print_step : Step
print_step = record { calls = Some Console; may_refuse = λ _. false; verdict = Some None }

-- ---- What was done

-- the input was read to its end, where it tells its bytes
abbrev pub IsReadWhole : SourceState → SourceState → Type 0
IsReadWhole old new = IfSome old.left (λ _. new.left ≡ Some [])

-- the file, which was empty, has these bytes
abbrev pub IsFilledWith : List ℕ → FileState → FileState → Type 0
IsFilledWith bytes old new = IfSome old.told (λ before. (before ≡ []) × (new.told ≡ Some bytes))

-- a crash now leaves the bytes of the file and nothing else
abbrev pub IsDurable : FileState → Type 0
IsDurable file = IfSome file.told (λ bytes. Only bytes file.may_leave)

-- ---- What was printed

-- how the text of a job that ended so stands on the console
abbrev pub Printing : Type 1
Printing = Option Fault → List ℕ → SinkState → SinkState → Type 0

-- the text of a job that ended well; a front of it, and then of the fault's line, where a call on the console failed
abbrev pub Prints : Printing
Prints None text old new = new.taken ≡ option_map (λ before. before ++ text) old.taken
Prints (Some fault) text old new = BecomesTold (AddsFronts text (fault_line fault)) old.taken new.taken

-- the line of a fault, or a front of it where a call on the console failed
abbrev pub PrintsLine : Fault → SinkState → SinkState → Type 0
PrintsLine fault old new =
    (new.taken ≡ option_map (λ before. before ++ fault_line fault) old.taken)
    ⊎ (BecomesTold (AddsFront (fault_line fault)) old.taken new.taken × HasRisen old.faults new.faults)

-- the same before the fault's line
abbrev pub Takes : Printing
Takes None text old new = new.taken ≡ option_map (λ before. before ++ text) old.taken
Takes (Some fault) text old new = BecomesTold (AddsFront text) old.taken new.taken

-- ---- What was printed before a fault

-- how the text of a job that ended with this fault behind it stands on the console
abbrev pub FaultPrinting : Type 1
FaultPrinting = Fault → List ℕ → SinkState → SinkState → Type 0

-- before the fault's line: the text, or a front of it where a call on the console failed
abbrev pub TakesReport : FaultPrinting
TakesReport fault text old new =
    (new.taken ≡ option_map (λ before. before ++ text) old.taken)
    ⊎ (BecomesTold (AddsFront text) old.taken new.taken × HasRisen old.faults new.faults)

-- and with the line: both, or fronts of them where a call on the console failed
abbrev pub PrintsReport : FaultPrinting
PrintsReport fault text old new =
    (new.taken ≡ option_map (λ before. before ++ (text ++ fault_line fault)) old.taken)
    ⊎ (BecomesTold (AddsFronts text (fault_line fault)) old.taken new.taken × HasRisen old.faults new.faults)

-- the same of a text that was written whole
abbrev pub TakesWhole : FaultPrinting
TakesWhole fault text old new = new.taken ≡ option_map (λ before. before ++ text) old.taken

abbrev pub PrintsBehind : FaultPrinting
PrintsBehind fault text old new =
    (new.taken ≡ option_map (λ before. before ++ (text ++ fault_line fault)) old.taken)
    ⊎ (BecomesTold (AddsBehind text (fault_line fault)) old.taken new.taken × HasRisen old.faults new.faults)

-- ---- What is printed behind the work

-- the line of a fault was printed, as far as the console went
pub record AddsLine (fault : Fault) (old new : SinkState) : Type 0 where
  pub printed : PrintsLine fault old new
  pub front : BecomesTold (AddsFront (fault_line fault)) old.taken new.taken
  pub more : old.faults ≤ new.faults

-- behind the work of a job that ended so: nothing, or the line of its fault
abbrev pub EndsLine : (same : Type 0) → Option Fault → SinkState → SinkState → Type 0
EndsLine same None old new = same
EndsLine same (Some fault) old new = AddsLine fault old new
