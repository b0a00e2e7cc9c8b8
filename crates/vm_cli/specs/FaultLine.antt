-- The line that a fault prints (this project's own, docs/COMMAND_LINE.md, Fault lines).
use Rattle.std.specs.Prelude.{ℕ, List, [], ◌∷◌, ◌++◌, codes}
use Rattle.std.specs.Fmt.{decimal}
use Rattle.guest_asm.specs.declared.fault.AsmKind.{AsmKind}
use Rattle.guest_asm.specs.declared.fault.AsmKind.TheVariants as wrong
use Rattle.image_file.specs.declared.elf_kind.ElfKind.{ElfKind}
use Rattle.image_file.specs.declared.elf_kind.ElfKind.TheVariants.{Short, Class, Encoding, Machine, EntrySize, Table, Sizes, Range, Place}
use Rattle.image_file.specs.declared.image_refusal.ImageRefusal.TheVariants.{Empty, TooLong, Elf}
use Rattle.mapped_ram_header.specs.declared.fault.HeaderFault.TheVariants.{Version, PageSize, BitmapOffset, PagesOffset}
use Rattle.device_state.specs.declared.fault.DeviceFault.TheVariants.{Steps, State, SerialLength, InputLength, Clock}
use Rattle.loader.specs.declared.refusal.Refusal.{Refusal}
use Rattle.loader.specs.declared.refusal.Refusal.TheVariants as file
use Rattle.order_log.specs.declared.fault.OrderRefusal.{OrderRefusal}
use Rattle.order_log.specs.declared.fault.OrderRefusal.TheVariants as order
use Rattle.page_peek.specs.declared.fault.PeekRefusal.{PeekRefusal}
use Rattle.page_peek.specs.declared.fault.PeekRefusal.TheVariants as peek
use Rattle.snap_layer.specs.declared.refusal.LayerRefusal.{LayerRefusal}
use Rattle.snap_layer.specs.declared.refusal.LayerRefusal.TheVariants as layer
use Rattle.vm_words.specs.declared.fault.UsageKind.{UsageKind}
use Rattle.vm_words.specs.declared.fault.UsageKind.TheVariants.{NoCommand, Command, NoEquals, Key, Twice, Value, Missing, NeedsThreads}
use Rattle.vm_cli.specs.declared.answer.Fault.{Fault}
use Rattle.vm_cli.specs.declared.answer.Fault.TheVariants as faults

-- how the kinds are written
abbrev pub usage_text : UsageKind → List ℕ
usage_text NoCommand = codes "no-command"
usage_text Command = codes "command"
usage_text NoEquals = codes "no-equals"
usage_text Key = codes "key"
usage_text Twice = codes "twice"
usage_text Value = codes "value"
usage_text Missing = codes "missing"
usage_text NeedsThreads = codes "needs-threads"

abbrev pub elf_text : ElfKind → List ℕ
elf_text Short = codes "short"
elf_text Class = codes "class"
elf_text Encoding = codes "encoding"
elf_text Machine = codes "machine"
elf_text EntrySize = codes "entry-size"
elf_text Table = codes "table"
elf_text Sizes = codes "sizes"
elf_text Range = codes "range"
elf_text Place = codes "place"

abbrev pub asm_text : AsmKind → List ℕ
asm_text wrong.Twice = codes "twice"
asm_text wrong.Mnemonic = codes "mnemonic"
asm_text wrong.Syntax = codes "syntax"
asm_text wrong.Register = codes "register"
asm_text wrong.Number = codes "number"
asm_text wrong.Label = codes "label"
asm_text wrong.Reach = codes "reach"
asm_text wrong.TooLarge = codes "too-large"

-- a number, a space and a text
abbrev pub number_then : ℕ → List ℕ → List ℕ
number_then n text = decimal n ++ codes " " ++ text

-- a text, a space and a number
abbrev pub then_number : List ℕ → ℕ → List ℕ
then_number text n = text ++ codes " " ++ decimal n

-- two numbers, and three, with a space between
abbrev pub two_numbers : ℕ → ℕ → List ℕ
two_numbers m n = number_then m (decimal n)

abbrev pub three_numbers : ℕ → ℕ → ℕ → List ℕ
three_numbers k m n = number_then k (two_numbers m n)

-- the words of the line of a file that is refused
abbrev pub file_words : Refusal → List ℕ
file_words (file.Truncated at) = codes "fault 3 file truncated " ++ decimal at
file_words (file.Magic v) = codes "fault 3 file magic " ++ decimal v
file_words (file.StreamVersion v) = codes "fault 3 file stream-version " ++ decimal v
file_words (file.Config at found) = codes "fault 3 file config " ++ two_numbers at found
file_words (file.Section at found) = codes "fault 3 file section " ++ two_numbers at found
file_words (file.RamVersion v) = codes "fault 3 file ram-version " ++ decimal v
file_words (file.Flags at v) = codes "fault 3 file flags " ++ two_numbers at v
file_words (file.Total v) = codes "fault 3 file total " ++ decimal v
file_words (file.Name block at found) = codes "fault 3 file name " ++ three_numbers block at found
file_words (file.Length block v) = codes "fault 3 file length " ++ two_numbers block v
file_words (file.Header block (Version v)) = codes "fault 3 file header-version " ++ two_numbers block v
file_words (file.Header block (PageSize v)) = codes "fault 3 file header-page-size " ++ two_numbers block v
file_words (file.Header block (BitmapOffset v)) = codes "fault 3 file header-bitmap-offset " ++ two_numbers block v
file_words (file.Header block (PagesOffset v)) = codes "fault 3 file header-pages-offset " ++ two_numbers block v
file_words (file.Footer at found) = codes "fault 3 file footer " ++ two_numbers at found
file_words (file.Device at (Steps v)) = codes "fault 3 file device-steps " ++ two_numbers at v
file_words (file.Device at (State v)) = codes "fault 3 file device-state " ++ two_numbers at v
file_words (file.Device at (SerialLength v)) = codes "fault 3 file device-serial-length " ++ two_numbers at v
file_words (file.Device at (InputLength v)) = codes "fault 3 file device-input-length " ++ two_numbers at v
file_words (file.Device at (Clock v)) = codes "fault 3 file device-clock " ++ two_numbers at v
file_words (file.Trailing at) = codes "fault 3 file trailing " ++ decimal at

-- the words of the line of a file that isn't looked into
abbrev pub peek_words : PeekRefusal → List ℕ
peek_words (peek.Truncated at) = codes "fault 10 peek truncated " ++ decimal at
peek_words (peek.Differs at found) = codes "fault 10 peek differs " ++ two_numbers at found

-- the words of the line of a layer that is refused, or of which the machine came too late
abbrev pub layer_words : LayerRefusal → List ℕ
layer_words (layer.Truncated at) = codes "fault 11 layer truncated " ++ decimal at
layer_words (layer.Magic v) = codes "fault 11 layer magic " ++ decimal v
layer_words (layer.Version v) = codes "fault 11 layer version " ++ decimal v
layer_words (layer.Shape at v) = codes "fault 11 layer shape " ++ two_numbers at v
layer_words (layer.Base at v) = codes "fault 11 layer base " ++ two_numbers at v
layer_words (layer.Count v) = codes "fault 11 layer count " ++ decimal v
layer_words (layer.Page at v) = codes "fault 11 layer page " ++ two_numbers at v
layer_words (layer.Section at found) = codes "fault 11 layer section " ++ two_numbers at found
layer_words (layer.Footer at found) = codes "fault 11 layer footer " ++ two_numbers at found
layer_words (layer.Device at (Steps v)) = codes "fault 11 layer device-steps " ++ two_numbers at v
layer_words (layer.Device at (State v)) = codes "fault 11 layer device-state " ++ two_numbers at v
layer_words (layer.Device at (SerialLength v)) = codes "fault 11 layer device-serial-length " ++ two_numbers at v
layer_words (layer.Device at (InputLength v)) = codes "fault 11 layer device-input-length " ++ two_numbers at v
layer_words (layer.Device at (Clock v)) = codes "fault 11 layer device-clock " ++ two_numbers at v
layer_words (layer.Vcpus v) = codes "fault 11 layer vcpus " ++ decimal v
layer_words (layer.Trailing at) = codes "fault 11 layer trailing " ++ decimal at
layer_words (layer.Late clock) = codes "fault 11 layer late " ++ decimal clock

-- the words of the line of an order that is refused
abbrev pub order_words : OrderRefusal → List ℕ
order_words (order.Truncated at) = codes "fault 12 order truncated " ++ decimal at
order_words (order.Magic v) = codes "fault 12 order magic " ++ decimal v
order_words (order.Version v) = codes "fault 12 order version " ++ decimal v
order_words (order.Vcpus v) = codes "fault 12 order vcpus " ++ decimal v
order_words (order.Count v) = codes "fault 12 order count " ++ decimal v
order_words (order.Member at v) = codes "fault 12 order member " ++ two_numbers at v
order_words (order.Pad v) = codes "fault 12 order pad " ++ decimal v
order_words (order.Trailing at) = codes "fault 12 order trailing " ++ decimal at
order_words (order.Halted place) = codes "fault 12 order halted " ++ decimal place

-- the words of a fault's line
abbrev pub fault_words : Fault → List ℕ
fault_words (faults.Usage index kind) = codes "fault 1 usage " ++ number_then index (usage_text kind)
fault_words (faults.ImageRefused Empty) = codes "fault 2 image empty"
fault_words (faults.ImageRefused (TooLong len)) = codes "fault 2 image too-long " ++ decimal len
fault_words (faults.ImageRefused (Elf kind at)) = codes "fault 2 image elf " ++ then_number (elf_text kind) at
fault_words (faults.FileRefused refusal) = file_words refusal
fault_words faults.FileFault = codes "fault 4 file-fault"
fault_words faults.ConsoleFault = codes "fault 5 console-fault"
fault_words faults.ImageFault = codes "fault 6 image-fault"
fault_words faults.NoMemory = codes "fault 7 no-memory"
fault_words (faults.NotEmpty len) = codes "fault 8 not-empty " ++ decimal len
fault_words (faults.AsmRefused line kind) = codes "fault 9 assembly " ++ number_then line (asm_text kind)
fault_words (faults.PeekRefused refusal) = peek_words refusal
fault_words (faults.LayerRefused refusal) = layer_words refusal
fault_words (faults.OrderRefused refusal) = order_words refusal

-- the line
unfoldable pub fault_line : Fault → List ℕ
fault_line fault = fault_words fault ++ 10 ∷ []
