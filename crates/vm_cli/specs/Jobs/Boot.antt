-- What a job does that boots the machine of an image: its step, and the machine (this project's own,
-- docs/COMMAND_LINE.md).
use Rattle.std.specs.Prelude.{◌≡◌, ℕ, List, Option, Some, None, Result, Ok, Err, IfSome}
use Rattle.flat_machine.specs.Machine.{MachineData, boot}
use Rattle.image_file.specs.Image.{image_of}
use Rattle.image_file.specs.declared.image_refusal.ImageRefusal.{ImageRefusal}
use Rattle.medium.specs.States.{SourceState}
use Rattle.ram_block.specs.Shape.{ShapeData}
use Rattle.vm_cli.specs.Jobs.Common.{IsReadWhole, read_image_step}
use Rattle.vm_cli.specs.Steps.{Step}
use Rattle.vm_cli.specs.declared.answer.Fault.{Fault}
use Rattle.vm_cli.specs.declared.answer.Fault.TheVariants as faults

-- ---- Steps

-- the fault of an image that is refused
abbrev pub image_fault : Result (List ℕ) ImageRefusal → Option Fault
image_fault (Err refusal) = Some (faults.ImageRefused refusal)
image_fault (Ok image) = None

-- the image of a machine of the shape is read, or refused as its bytes call for
abbrev pub boot_step : ShapeData → SourceState → Step
boot_step shape image = read_image_step (λ bytes. image_fault (image_of bytes shape)) image

-- the faults of an image
abbrev pub IsOfImage : Fault → Type 0
IsOfImage (faults.ImageRefused refusal) = Unit {0}
IsOfImage faults.ImageFault = Unit {0}
IsOfImage faults.NoMemory = Unit {0}
IsOfImage _ = ⊥

-- ---- What was done

-- this is the image of a machine of the shape, and it was read to its end
pub record ReadsImage (shape : ShapeData) (image : List ℕ) (old new : SourceState) : Type 0 where
  pub read : IsReadWhole old new
  pub accepted : IfSome old.left (λ bytes. image_of bytes shape ≡ Ok image)

-- the machine b boots with an image that was read
abbrev pub BootsImage : ShapeData → List ℕ → SourceState → SourceState → MachineData → Type 0
BootsImage shape serial old new b = (image : List ℕ) × ReadsImage shape image old new × (b ≡ boot shape image serial)
