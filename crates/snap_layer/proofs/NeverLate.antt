-- No layer is refused as late.
use Rattle.std.proofs.Common.{◌≡◌, ◌≢◌, ℕ, zero, suc, ◌+◌, ◌*◌, Bool, true, false, List, Some, Ok, Err, Result, length, ap}
use Rattle.std.specs.Prelude.{◌==◌, ◌&&◌, nat_le, nat_lt}
use Rattle.ram_block.specs.Shape.{ShapeData, total_pages_of}
use Rattle.ram_block.specs.declared.page_buf.TheConstants.{PAGE}
use Rattle.mig_stream.specs.Checks.{and_then, check, number32_in, number64_in, read_from}
use Rattle.mig_stream.specs.Pieces.{piece_in}
use Rattle.mig_stream.specs.Text.{be32_at, be64_at}
use Rattle.mig_stream.specs.declared.field_fault.FieldFault.{FieldFault}
use Rattle.flat_machine.specs.Machine.{MachineData}
use Rattle.flat_machine.specs.Page.{with_page}
use Rattle.flat_machine.specs.Sum.{ram_sum}
use Rattle.device_state.specs.Reading.{DevicesRead, devices_in}
use Rattle.device_state.specs.declared.fault.DeviceReadFault.{DeviceReadFault}
use Rattle.device_state.specs.declared.fault.DeviceReadFault.TheVariants as devices
use Rattle.snap_layer.specs.Reading.{LayerPage, base_in, count_in, ends_in, format_in, front_in, joined_in, last_in, last_of, machine_with, number_in, page_in, ram_in, refusal, refusal_in, refused_devices, shape_in}
use Rattle.snap_layer.specs.declared.format.TheConstants.{MAGIC, VERSION}
use Rattle.snap_layer.specs.declared.refusal.LayerRefusal.{LayerRefusal}
use Rattle.snap_layer.specs.declared.refusal.LayerRefusal.TheVariants.{Base, Count, Late, Magic, Page, Shape, Trailing, Truncated, Vcpus, Version}

-- what was found isn't this refusal
record NoLate {A : Type 0} (found : Result A LayerRefusal) : Type 0 where
  never : (clock : ℕ) → found ≢ Err (Late clock)

then_no : {A B : Type 0} (first : Result A LayerRefusal) (rest : A → Result B LayerRefusal) → NoLate first → ((a : A) → NoLate (rest a)) → NoLate (and_then first rest)
then_no (Ok a) rest one two = two a
then_no {A} (Err refused) rest one two = record {
  never = λ clock is.
      let same : refused ≡ Late clock = cc in
      let here : ◌≡◌ {A = Result A LayerRefusal} (Err refused) (Err (Late clock)) = ap (λ (r : LayerRefusal). Err r) same in
      one.never clock here;
}

ok_no : {A : Type 0} (a : A) → NoLate {A = A} (Ok a)
ok_no a = record { never = λ clock is. absurd (cc) }

check_no : (right : Bool) (refused : LayerRefusal) → ((clock : ℕ) → refused ≢ Late clock) → NoLate (check right refused)
check_no true refused other = record { never = λ clock is. absurd (cc) }
check_no false refused other = record {
  never = λ clock is.
      let same : refused ≡ Late clock = cc in
      other clock same;
}

read_no : {A : Type 0} (read : List ℕ → A) (piece : Result (List ℕ) FieldFault) → NoLate (read_from Truncated read piece)
read_no read (Ok bytes) = record { never = λ clock is. absurd (cc) }
read_no read (Err fault) = record { never = λ clock is. absurd (cc) }

number32_no : (layer : List ℕ) (at : ℕ) → NoLate (number32_in Truncated layer at)
number32_no layer at = read_no (λ (bytes : List ℕ). be32_at bytes 0) (piece_in layer at 4)

number64_no : (layer : List ℕ) (at : ℕ) → NoLate (number64_in Truncated layer at)
number64_no layer at = read_no (λ (bytes : List ℕ). be64_at bytes 0) (piece_in layer at 8)

format_no : (layer : List ℕ) → NoLate (format_in layer)
unfolding format_in
format_no layer =
    then_no (number32_in Truncated layer 0) _ (number32_no layer 0) (λ magic.
    then_no (check (magic == MAGIC) (Magic magic)) _ (check_no (magic == MAGIC) (Magic magic) (λ clock is. absurd (cc))) (λ _.
    then_no (number32_in Truncated layer 4) _ (number32_no layer 4) (λ version. check_no (version == VERSION) (Version version) (λ clock is. absurd (cc)))))

shape_no : (shape : ShapeData) (layer : List ℕ) → NoLate (shape_in shape layer)
unfolding shape_in
shape_no shape layer =
    then_no (number32_in Truncated layer 8) _ (number32_no layer 8) (λ blocks.
    then_no (check (blocks == shape.blocks) (Shape 8 blocks)) _ (check_no (blocks == shape.blocks) (Shape 8 blocks) (λ clock is. absurd (cc))) (λ _.
    then_no (number32_in Truncated layer 12) _ (number32_no layer 12) (λ pages. check_no (pages == shape.pages) (Shape 12 pages) (λ clock is. absurd (cc)))))

base_no : (base : MachineData) (layer : List ℕ) → NoLate (base_in base layer)
unfolding base_in
base_no base layer =
    then_no (number64_in Truncated layer 16) _ (number64_no layer 16) (λ time.
    then_no (check (time == base.clock) (Base 16 time)) _ (check_no (time == base.clock) (Base 16 time) (λ clock is. absurd (cc))) (λ _.
    then_no (number64_in Truncated layer 24) _ (number64_no layer 24) (λ sum. check_no (sum == ram_sum base) (Base 24 sum) (λ clock is. absurd (cc)))))

count_no : (total : ℕ) (layer : List ℕ) → NoLate (count_in total layer)
unfolding count_in
count_no total layer =
    then_no (number32_in Truncated layer 32) _ (number32_no layer 32) (λ count.
    then_no (check (nat_le count total) (Count count)) _ (check_no (nat_le count total) (Count count) (λ clock is. absurd (cc))) (λ _. ok_no count))

front_no : (base : MachineData) (layer : List ℕ) → NoLate (front_in base layer)
unfolding front_in
front_no base layer =
    then_no (format_in layer) _ (format_no layer) (λ _.
    then_no (shape_in base.shape layer) _ (shape_no base.shape layer) (λ _.
    then_no (base_in base layer) _ (base_no base layer) (λ _. count_no (total_pages_of base.shape) layer)))

page_no : (layer : List ℕ) (total least at : ℕ) → NoLate (page_in layer total least at)
unfolding page_in number_in
page_no layer total least at =
    then_no (number_in layer total least at) _
    (then_no (number32_in Truncated layer at) _ (number32_no layer at) (λ p.
    then_no (check (nat_le least p && nat_lt p total) (Page at p)) _ (check_no (nat_le least p && nat_lt p total) (Page at p) (λ clock is. absurd (cc))) (λ _. ok_no p)))
    (λ p. read_no (λ (bytes : List ℕ). record { number = p; bytes = bytes }) (piece_in layer (at + 4) PAGE))

ram_no : (layer : List ℕ) (total n least at : ℕ) (ram : List ℕ) → NoLate (ram_in layer total n least at ram)
unfolding ram_in
ram_no layer total zero least at ram = ok_no ram
ram_no layer total (suc n) least at ram =
    then_no (page_in layer total least at) _ (page_no layer total least at) (λ (page : LayerPage). ram_no layer total n (page.number + 1) (at + 4100) (with_page ram page.number page.bytes))

devices_no : (fault : DeviceReadFault) (clock : ℕ) → refused_devices fault ≢ Late clock
devices_no (devices.Field fault) clock is = absurd (cc)
devices_no (devices.Section at found) clock is = absurd (cc)
devices_no (devices.Footer at found) clock is = absurd (cc)
devices_no (devices.Device at fault) clock is = absurd (cc)
devices_no devices.NoMemory clock is = absurd (cc)

last_by_no : (vcpus len : ℕ) (read : Result DevicesRead DeviceReadFault) → NoLate (last_of vcpus len read)
last_by_no vcpus len (Ok read) =
    then_no (ends_in vcpus len (length read.devices.vcpus) read.end) (λ _. Ok read.devices)
    (then_no (check (length read.devices.vcpus == vcpus) (Vcpus (length read.devices.vcpus))) _ (check_no _ (Vcpus (length read.devices.vcpus)) (λ clock is. absurd (cc))) (λ _.
    check_no (nat_le len read.end) (Trailing read.end) (λ clock is. absurd (cc))))
    (λ _. ok_no read.devices)
last_by_no vcpus len (Err fault) = record {
  never = λ clock is.
      let same : refused_devices fault ≡ Late clock = cc in
      devices_no fault clock same;
}

last_no : (vcpus : ℕ) (layer : List ℕ) (at : ℕ) → NoLate (last_in vcpus layer at)
unfolding last_in
last_no vcpus layer at = last_by_no vcpus (length layer) (devices_in layer at)

joined_no : (base : MachineData) (layer : List ℕ) → NoLate (joined_in base layer)
unfolding joined_in
joined_no base layer =
    then_no (front_in base layer) _ (front_no base layer) (λ count.
    then_no (ram_in layer (total_pages_of base.shape) count 0 36 base.ram) _ (ram_no layer (total_pages_of base.shape) count 0 36 base.ram) (λ ram.
    then_no (last_in base.shape.vcpus layer (36 + 4100 * count)) _ (last_no base.shape.vcpus layer (36 + 4100 * count)) (λ d. ok_no (machine_with base.shape ram d))))

told_no : (found : Result MachineData LayerRefusal) (clock : ℕ) → NoLate found → refusal_in found ≢ Some (Late clock)
told_no (Ok m) clock no_late is = absurd (cc)
told_no (Err refused) clock no_late is =
    let same : refused ≡ Late clock = cc in
    no_late.never clock (ap (λ (r : LayerRefusal). Err r) same)

pub never_late : (base : MachineData) (layer : List ℕ) (clock : ℕ) → refusal base layer ≢ Some (Late clock)
never_late base layer clock = told_no (joined_in base layer) clock (joined_no base layer)
