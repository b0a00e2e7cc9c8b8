-- The exit status of a job, and the fault that each layer's refusal is (this project's own, docs/COMMAND_LINE.md).
use Rattle.std.specs.Prelude.{ℕ, Option, Some, None, Result, Ok, Err}
use Rattle.bg_saver.specs.declared.save_fault.SaveFault.{SaveFault}
use Rattle.bg_saver.specs.declared.save_fault.SaveFault.TheVariants as save_faults
use Rattle.guest_asm.specs.declared.fault.AsmFault.{AsmFault}
use Rattle.guest_asm.specs.declared.fault.AsmFault.TheVariants as asm_faults
use Rattle.image_file.specs.declared.image_fault.ImageFault.{ImageFault}
use Rattle.image_file.specs.declared.image_fault.ImageFault.TheVariants as image_faults
use Rattle.loader.specs.declared.refusal.LoadFault.{LoadFault}
use Rattle.loader.specs.declared.refusal.LoadFault.TheVariants as load_faults
use Rattle.order_log.specs.declared.fault.OrderFault.{OrderFault}
use Rattle.order_log.specs.declared.fault.OrderFault.TheVariants as order_faults
use Rattle.page_peek.specs.declared.fault.PeekFault.{PeekFault}
use Rattle.page_peek.specs.declared.fault.PeekFault.TheVariants as peek_faults
use Rattle.snap_layer.specs.declared.refusal.LayerFault.{LayerFault}
use Rattle.snap_layer.specs.declared.refusal.LayerFault.TheVariants as layer_faults
use Rattle.vm_words.specs.declared.fault.WordsFault.{WordsFault}
use Rattle.vm_words.specs.declared.fault.WordsFault.TheVariants as words_faults
use Rattle.vm_cli.specs.declared.answer.Fault.{Fault}
use Rattle.vm_cli.specs.declared.answer.Fault.TheVariants as faults
use Rattle.vm_cli.specs.declared.write_fault.WriteFault.{WriteFault}
use Rattle.vm_cli.specs.declared.write_fault.WriteFault.TheVariants as write_faults

-- the exit status of a fault
abbrev pub fault_status : Fault → ℕ
fault_status (faults.Usage index kind) = 1
fault_status (faults.ImageRefused refusal) = 2
fault_status (faults.FileRefused refusal) = 3
fault_status faults.FileFault = 4
fault_status faults.ConsoleFault = 5
fault_status faults.ImageFault = 6
fault_status faults.NoMemory = 7
fault_status (faults.NotEmpty len) = 8
fault_status (faults.AsmRefused line kind) = 9
fault_status (faults.PeekRefused refusal) = 10
fault_status (faults.LayerRefused refusal) = 11
fault_status (faults.OrderRefused refusal) = 12

-- the exit status of a job
abbrev pub status_of : Option Fault → ℕ
status_of None = 0
status_of (Some fault) = fault_status fault

abbrev pub fault_of_words : WordsFault → Fault
fault_of_words (words_faults.Usage index kind) = faults.Usage index kind
fault_of_words words_faults.NoMemory = faults.NoMemory

abbrev pub fault_of_image : ImageFault → Fault
fault_of_image (image_faults.Refused refusal) = faults.ImageRefused refusal
fault_of_image image_faults.ReadFault = faults.ImageFault
fault_of_image image_faults.NoMemory = faults.NoMemory

abbrev pub fault_of_load : LoadFault → Fault
fault_of_load (load_faults.Refused refusal) = faults.FileRefused refusal
fault_of_load load_faults.ReadFault = faults.FileFault
fault_of_load load_faults.NoMemory = faults.NoMemory

abbrev pub fault_of_peek : PeekFault → Fault
fault_of_peek (peek_faults.Refused refusal) = faults.PeekRefused refusal
fault_of_peek peek_faults.ReadFault = faults.FileFault
fault_of_peek peek_faults.NoMemory = faults.NoMemory

abbrev pub fault_of_layer : LayerFault → Fault
fault_of_layer (layer_faults.Refused refusal) = faults.LayerRefused refusal
fault_of_layer layer_faults.NoMemory = faults.NoMemory

abbrev pub fault_of_order : OrderFault → Fault
fault_of_order (order_faults.Refused refusal) = faults.OrderRefused refusal
fault_of_order order_faults.ReadFault = faults.FileFault
fault_of_order order_faults.NoMemory = faults.NoMemory

abbrev pub fault_of_text : AsmFault → Fault
fault_of_text (asm_faults.Line line kind) = faults.AsmRefused line kind
fault_of_text asm_faults.NoMemory = faults.NoMemory

abbrev pub fault_of_write : WriteFault → Fault
fault_of_write write_faults.FileFault = faults.FileFault
fault_of_write (write_faults.NotEmpty len) = faults.NotEmpty len
fault_of_write write_faults.NoMemory = faults.NoMemory

abbrev pub fault_of_save : SaveFault → Fault
fault_of_save save_faults.FileFault = faults.FileFault
fault_of_save (save_faults.NotEmpty len) = faults.NotEmpty len
fault_of_save save_faults.NoMemory = faults.NoMemory

-- how a job that may end with a fault ended
abbrev pub fault_in : {X : Type 0} → Result X Fault → Option Fault
fault_in (Ok x) = None
fault_in (Err fault) = Some fault
