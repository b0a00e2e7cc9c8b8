-- The job of `asm`: a text is read from the image, assembled, and written to the output (this project's own,
-- docs/COMMAND_LINE.md).
use Rattle.std.specs.Prelude.{◌≡◌, ℕ, Bool, true, false, List, [], ◌∷◌, length, Option, Some, None, option_map, Result, Ok, Err, IfSome}
use Rattle.guest_asm.specs.Assemble.{IsAssembled, asm_of}
use Rattle.guest_asm.specs.Bytes.{Piece}
use Rattle.guest_asm.specs.declared.assembler.TheConstants.{MAX_TEXT}
use Rattle.guest_asm.specs.declared.fault.AsmKind.{AsmKind}
use Rattle.image_file.specs.Image.{raw_of}
use Rattle.medium.specs.Count.{counted}
use Rattle.medium.specs.States.{FileState, SourceState}
use Rattle.vm_cli.specs.Jobs.Common.{IsDurable, IsFilledWith, IsReadWhole, Printing, length_fault, print_step, read_image_step, write_output_step}
use Rattle.vm_cli.specs.Outside.{End, Outside}
use Rattle.vm_cli.specs.Parts.{assembled_line}
use Rattle.vm_cli.specs.Steps.{Step}
use Rattle.vm_cli.specs.declared.answer.Fault.{Fault}
use Rattle.vm_cli.specs.declared.answer.Fault.TheVariants as faults

-- ---- Steps

-- the fault of a text with a wrong line
abbrev pub wrong_line_fault : Result (List Piece) (ℕ × AsmKind) → Option Fault
wrong_line_fault (Err wrong) = Some (faults.AsmRefused wrong.0 wrong.1)
wrong_line_fault (Ok pieces) = None

abbrev pub is_wrong_line : Fault → Bool
is_wrong_line (faults.AsmRefused line kind) = true
is_wrong_line _ = false

-- the text is assembled, unless a line of it is wrong
abbrev pub assemble_step : SourceState → Step
assemble_step image = record { calls = None; may_refuse = is_wrong_line; verdict = option_map (λ text. wrong_line_fault (asm_of text)) image.left }

abbrev pub assembly_steps : SourceState → FileState → List Step
assembly_steps image output =
    read_image_step (λ text. length_fault (raw_of text MAX_TEXT)) image ∷ assemble_step image ∷ write_output_step output ∷ print_step ∷ []

-- ---- What it did, where its work came to its end

-- the text was read to its end, and the output, which was empty, holds what it assembles to
pub record WritesAssembly (bytes : List ℕ) (image image_after : SourceState) (output output_after : FileState) : Type 0 where
  pub read : IsReadWhole image image_after
  pub assembled : IfSome image.left (λ text. IsAssembled text bytes)
  pub written : IsFilledWith bytes output output_after
  pub synced : output_after.syncs ≡ counted output.syncs
  pub durable : IsDurable output_after

pub record Assembles (prints : Printing) (old new : Outside) (end : End) : Type 0 where
  pub bytes : List ℕ
  pub wrote : WritesAssembly bytes old.image new.image old.output new.output
  pub printed : prints end.fault (assembled_line (length bytes)) old.console new.console
