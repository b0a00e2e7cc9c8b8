-- What a layer says, piece by piece in their order, each read whole and then checked, and the machine to which it joins
-- a base; or the first refusal (this project's own, docs/FILE_FORMAT.md, Layers).
use Rattle.std.specs.Prelude.{◌≡◌, ⊤, ℕ, zero, suc, ◌+◌, ◌*◌, ◌==◌, ◌&&◌, nat_le, nat_lt, List, length, Option, Some, None, Result, Ok, Err}
use Rattle.ram_block.specs.Shape.{ShapeData, total_pages_of}
use Rattle.ram_block.specs.declared.page_buf.TheConstants.{PAGE}
use Rattle.mig_stream.specs.Pieces.{piece_in}
use Rattle.flat_machine.specs.Machine.{MachineData}
use Rattle.flat_machine.specs.Page.{with_page}
use Rattle.device_state.specs.DeviceText.{DevicesData}
use Rattle.device_state.specs.Reading.{DevicesRead, devices_in}
use Rattle.device_state.specs.declared.fault.DeviceReadFault.{DeviceReadFault}
use Rattle.device_state.specs.declared.fault.DeviceReadFault.TheVariants as devices
use Rattle.mig_stream.specs.Checks.{and_then, check, cut_at, number32_in, number64_in, read_from}
use Rattle.snap_layer.specs.Layer.{Joined}
use Rattle.flat_machine.specs.Sum.{ram_sum}
use Rattle.snap_layer.specs.declared.format.TheConstants.{MAGIC, VERSION, BLOCKS_AT, PAGES_AT, CLOCK_AT, SUM_AT, COUNT_AT, FRONT_LEN, ENTRY_LEN}
use Rattle.snap_layer.specs.declared.refusal.LayerRefusal.{LayerRefusal}
use Rattle.snap_layer.specs.declared.refusal.LayerRefusal.TheVariants.{Truncated, Magic, Version, Shape, Base, Count, Page, Section, Footer, Device, Vcpus, Trailing}
use Rattle.snap_layer.specs.declared.refusal.LayerFault.{LayerFault}
use Rattle.snap_layer.specs.declared.refusal.LayerFault.TheVariants.{Refused, NoMemory}

-- the magic and the version
unfoldable pub format_in : List ℕ → Result (Unit {0}) LayerRefusal
format_in layer =
    and_then (number32_in Truncated layer 0) (λ magic. and_then (check (magic == MAGIC) (Magic magic)) (λ _.
    and_then (number32_in Truncated layer 4) (λ version. check (version == VERSION) (Version version))))

-- the blocks and the pages of each, which are the base's
unfoldable pub shape_in : ShapeData → List ℕ → Result (Unit {0}) LayerRefusal
shape_in shape layer =
    and_then (number32_in Truncated layer BLOCKS_AT) (λ blocks. and_then (check (blocks == shape.blocks) (Shape BLOCKS_AT blocks)) (λ _.
    and_then (number32_in Truncated layer PAGES_AT) (λ pages. check (pages == shape.pages) (Shape PAGES_AT pages))))

-- the clock and the sum of RAM, which are the base's
unfoldable pub base_in : MachineData → List ℕ → Result (Unit {0}) LayerRefusal
base_in base layer =
    and_then (number64_in Truncated layer CLOCK_AT) (λ clock. and_then (check (clock == base.clock) (Base CLOCK_AT clock)) (λ _.
    and_then (number64_in Truncated layer SUM_AT) (λ sum. check (sum == ram_sum base) (Base SUM_AT sum))))

-- how many pages the layer has, which are no more than the total
unfoldable pub count_in : ℕ → List ℕ → Result ℕ LayerRefusal
count_in total layer =
    and_then (number32_in Truncated layer COUNT_AT) (λ count. and_then (check (nat_le count total) (Count count)) (λ _. Ok count))

-- all that stands before the pages
unfoldable pub front_in : MachineData → List ℕ → Result ℕ LayerRefusal
front_in base layer =
    and_then (format_in layer) (λ _.
    and_then (shape_in base.shape layer) (λ _.
    and_then (base_in base layer) (λ _. count_in (total_pages_of base.shape) layer)))

-- a page of a layer
pub record LayerPage : Type 0 where
  pub number : ℕ
  pub bytes : List ℕ

-- the number of the page that begins at the place, which is no less than the least, and below the total
unfoldable pub number_in : List ℕ → ℕ → ℕ → ℕ → Result ℕ LayerRefusal
number_in layer total least at =
    and_then (number32_in Truncated layer at) (λ p. and_then (check (nat_le least p && nat_lt p total) (Page at p)) (λ _. Ok p))

-- the page that begins at the place
unfoldable pub page_in : List ℕ → ℕ → ℕ → ℕ → Result LayerPage LayerRefusal
page_in layer total least at =
    and_then (number_in layer total least at) (λ p.
    read_from Truncated (λ bytes. record { number = p; bytes = bytes }) (piece_in layer (at + 4) PAGE))

-- RAM with so many pages of the layer, which begin at the place: each number is above the one before
unfoldable pub ram_in : List ℕ → ℕ → ℕ → ℕ → ℕ → List ℕ → Result (List ℕ) LayerRefusal
ram_in layer total zero least at ram = Ok ram
ram_in layer total (suc n) least at ram =
    and_then (page_in layer total least at) (λ page. ram_in layer total n (page.number + 1) (at + ENTRY_LEN) (with_page ram page.number page.bytes))

-- why a device text is refused; for what stands in a layer no memory is wanted
abbrev pub refused_devices : DeviceReadFault → LayerRefusal
refused_devices (devices.Field fault) = Truncated (cut_at fault)
refused_devices (devices.Section at found) = Section at found
refused_devices (devices.Footer at found) = Footer at found
refused_devices (devices.Device at fault) = Device at fault
refused_devices devices.NoMemory = Truncated 0

-- the fault of a device text in memory
abbrev pub devices_fault : DeviceReadFault → LayerFault
devices_fault devices.NoMemory = NoMemory
devices_fault (devices.Field fault) = Refused (refused_devices (devices.Field fault))
devices_fault (devices.Section at found) = Refused (refused_devices (devices.Section at found))
devices_fault (devices.Footer at found) = Refused (refused_devices (devices.Footer at found))
devices_fault (devices.Device at fault) = Refused (refused_devices (devices.Device at fault))

-- so many vCPUs as the base has, and no byte of a layer of this length behind the place where its device text ends
abbrev pub ends_in : ℕ → ℕ → ℕ → ℕ → Result (Unit {0}) LayerRefusal
ends_in vcpus len count end = and_then (check (count == vcpus) (Vcpus count)) (λ _. check (nat_le len end) (Trailing end))

-- what a device text tells with which a layer of this length ends
abbrev pub last_of : ℕ → ℕ → Result DevicesRead DeviceReadFault → Result DevicesData LayerRefusal
last_of vcpus len (Ok found) = and_then (ends_in vcpus len (length found.devices.vcpus) found.end) (λ _. Ok found.devices)
last_of vcpus len (Err fault) = Err (refused_devices fault)

unfoldable pub last_in : ℕ → List ℕ → ℕ → Result DevicesData LayerRefusal
last_in vcpus layer at = last_of vcpus (length layer) (devices_in layer at)

-- where the device text begins behind so many pages
abbrev pub devices_at : ℕ → ℕ
devices_at count = FRONT_LEN + ENTRY_LEN * count

-- a machine of this shape and RAM, with these vCPUs and devices
abbrev pub machine_with : ShapeData → List ℕ → DevicesData → MachineData
machine_with shape ram d = record { shape = shape; ram = ram; vcpus = d.vcpus; serial = d.serial; cmp = d.cmp; clock = d.clock }

-- the machine to which base and layer join, or the first piece of the layer that is wrong
unfoldable pub joined_in : MachineData → List ℕ → Result MachineData LayerRefusal
joined_in base layer =
    and_then (front_in base layer) (λ count.
    and_then (ram_in layer (total_pages_of base.shape) count 0 FRONT_LEN base.ram) (λ ram.
    and_then (last_in base.shape.vcpus layer (devices_at count)) (λ d. Ok (machine_with base.shape ram d))))

-- why base and layer join to no machine, where they join to none
abbrev pub refusal_in : Result MachineData LayerRefusal → Option LayerRefusal
refusal_in (Ok machine) = None
refusal_in (Err refusal) = Some refusal

abbrev pub refusal : MachineData → List ℕ → Option LayerRefusal
refusal base layer = refusal_in (joined_in base layer)

-- base and layer join to the machine that is read
pub record IsJoined (base : MachineData) (layer : List ℕ) : Type 0 where
  pub machine : MachineData
  pub joined : Joined base layer machine
  pub reads : joined_in base layer ≡ Ok machine

-- a reader's answer, seen as what it says, is what stands in the layer, unless memory was refused
abbrev pub AnswersAs : {T A : Type 0} → (T → A) → Result A LayerRefusal → Result T LayerFault → Type 0
AnswersAs says found (Ok value) = found ≡ Ok (says value)
AnswersAs says found (Err (Refused refusal)) = found ≡ Err refusal
AnswersAs says found (Err NoMemory) = ⊤

abbrev pub Answers : {A : Type 0} → Result A LayerRefusal → Result A LayerFault → Type 0
Answers found result = AnswersAs (λ value. value) found result
