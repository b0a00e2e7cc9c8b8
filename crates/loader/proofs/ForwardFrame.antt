-- A layout is read as the frame of its machine.
use Rattle.std.proofs.Common.{◌≡◌, ℕ, ◌+◌, ◌*◌, ◌≤◌, List, ◌++◌, Ok, length, take, drop, refl, sym, ◌∙◌, ap, subst, arith, length-append, mul-le-mul_left, ◌%◌}
use Rattle.std.proofs.Math.Nat.{mul-mod_left}
use Rattle.std.proofs.lemmas.List.{drop-drop, drop_at, length-drop, take_all, take_at}
use Rattle.ram_block.specs.Shape.{IsShape, ShapeData, ram_bytes_of}
use Rattle.mig_stream.specs.Text.{be64, footer_text, part_text}
use Rattle.mig_stream.specs.declared.put.TheConstants.{END}
use Rattle.page_bitmap.specs.Bitmap.{BitmapData}
use Rattle.flat_machine.specs.Machine.{IsMachine, MachineData, Rest}
use Rattle.device_state.specs.DeviceText.{AreDevices, device_text, devices_of, devices_text}
use Rattle.device_state.specs.Reader.{StandsAs}
use Rattle.device_state.proofs.Parts.{has_parts}
use Rattle.device_state.proofs.WholeForth.{devices_are_read}
use Rattle.file_plan.specs.Plan.{record_place, tail_place}
use Rattle.file_plan.specs.Layout.{Lay, StandsAt, tail_text}
use Rattle.file_plan.specs.declared.format.TheConstants.{END_FLAG, RAM_SECTION}
use Rattle.loader.specs.Frame.{FrameData, bitmaps_in, devices_behind, frame_in, framed, last_in, ram_in, stream_in, tail_in, total_in}
use Rattle.loader.specs.Stands.{HasBlocks, HasFrame, HasLast, HasTail, IsFrame}
use Rattle.loader.proofs.Forward.{has_front, stream_is, tail_is, then_ok, total_told}
use Rattle.loader.proofs.ForwardRam.{has_record, ram_are}
use Rattle.loader.proofs.Last.{reads_last}
use Rattle.loader.proofs.RamPages.{all_of_pages}
use Rattle.loader.proofs.Whole.{bitmaps_whole}

-- the tail
has_tail : (file : List ℕ) (at : ℕ) → StandsAt file at tail_text → HasTail file at
unfolding tail_text
has_tail file at stands =
    let one = has_parts file at (be64 END_FLAG) _ stands in
    let two = has_parts file (at + 8) (footer_text RAM_SECTION) _ one.1 in
    let three = has_parts file (at + 8 + 5) (part_text END RAM_SECTION) _ two.1 in
    let four = has_parts file (at + 8 + 5 + 5) (be64 END_FLAG) (footer_text RAM_SECTION) three.1 in
    let third : at + 8 + 5 ≡ at + 13 = omega arith in
    let fourth : at + 8 + 5 + 5 ≡ at + 18 = omega arith in
    let fifth : at + 8 + 5 + 5 + 8 ≡ at + 26 = omega arith in
    record {
      first = one.0;
      first_footer = two.0;
      end = subst (λ (k : ℕ). StandsAt file k (part_text END RAM_SECTION)) third three.0;
      second = subst (λ (k : ℕ). StandsAt file k (be64 END_FLAG)) fourth four.0;
      second_footer = subst (λ (k : ℕ). StandsAt file k (footer_text RAM_SECTION)) fifth four.1;
    }

-- the devices of a machine at rest
devices_limits : (m : MachineData) → IsMachine m → Rest m → AreDevices (devices_of m)
devices_limits m machine rest = record {
  some = let count = machine.vcpus in let some = machine.shape.vcpus in omega (arith, count, some);
  count = let count = machine.vcpus in let few = machine.shape.vcpus in omega (arith, count, few);
  each = λ k d h. record { vcpu = machine.each k d h; none_pending = rest.none_pending k d h; steps = rest.steps k d h };
  serial = machine.serial;
  cmp = machine.cmp;
  clock = rest.clock;
}

-- the bytes of RAM are within the limits of the total
whole_pages : (s : ShapeData) → ram_bytes_of s % 4096 ≡ 0
whole_pages s = mul-mod_left (s.blocks * s.pages) 4096

least : (s : ShapeData) → IsShape s → 4096 ≤ ram_bytes_of s
least s limits =
    let some : s.blocks * 1 ≤ s.blocks * s.pages = mul-le-mul_left s.blocks limits.pages.0 in
    omega (arith, some, limits.blocks)

most : (s : ShapeData) → IsShape s → ram_bytes_of s ≤ 67108864
most s limits =
    let few : s.blocks * s.pages ≤ s.blocks * 2048 = mul-le-mul_left s.blocks limits.pages.1 in
    omega (arith, few, limits.blocks)

module _ (file : List ℕ) (m : MachineData) (lay : Lay file m) where
  abbrev pub at : ℕ
  at = tail_place m.shape

  abbrev pub text : List ℕ
  text = devices_text lay.tail.0 (devices_of m)

  behind : drop at file ≡ tail_text ++ text
  unfolding device_text
  behind = lay.tail.2

  tail_count : length tail_text ≡ 31
  unfolding tail_text
  tail_count = refl

  pub size : (at ≤ length file) × (length file ≡ at + 31 + length text)
  size =
      let count : length (drop at file) ≡ 31 + length text = ap length behind ∙ length-append tail_text text ∙ ap (λ (n : ℕ). n + length text) tail_count in
      let rest = length-drop at file in
      (omega (arith, count, rest), omega (arith, count, rest))

  stands_last : StandsAs file (at + 31) (length file) lay.tail.0 (devices_of m)
  stands_last =
      let there : drop (at + 31) file ≡ text = sym (drop-drop 31 at file) ∙ ap (drop 31) behind ∙ drop_at tail_text text 31 tail_count in
      record {
        tells_all = lay.tail.1;
        bytes = ap (take (length text)) there ∙ take_all (length text) text (omega arith);
        end = size.1;
      }

  tail_there : HasTail file at
  tail_there = has_tail file at (ap (take (length tail_text)) behind ∙ take_at tail_text text (length tail_text) refl)

  pub blocks_there : HasBlocks file m.shape.pages m.shape.blocks
  blocks_there = λ block lt. has_record file m.shape block (lay.shape.records block lt)

  last_there : HasLast file at (devices_of m)
  last_there = record { tail = tail_there; devices = record { end = length file; stands = (lay.tail.0, stands_last); last = omega arith } }

  last_told : last_in file (at + 31) ≡ Ok (devices_of m)
  last_told =
      let limits = devices_limits m lay.machine lay.rest in
      reads_last file (at + 31) (length file) (devices_of m) (lay.tail.0, devices_are_read file (at + 31) (length file) lay.tail.0 (devices_of m) limits stands_last) (omega arith)

  devices_told : devices_behind file at ≡ Ok (devices_of m)
  unfolding devices_behind
  devices_told = then_ok (tail_in file at) _ tt (devices_of m) (tail_is file at tail_there) last_told

  abbrev pub ram : (b : List BitmapData) × (ram_in file (ram_bytes_of m.shape) ≡ Ok (record { pages = m.shape.pages; bits = b })) × (bitmaps_in file m.shape.pages m.shape.blocks ≡ Ok b)
  ram = ram_are m.shape lay.machine.shape file blocks_there size.0

  abbrev pub bits : List BitmapData
  bits = ram.0

  counts : length bits ≡ m.shape.blocks
  counts = (bitmaps_whole file m.shape.pages m.shape.blocks bits (omega (arith, lay.machine.shape.blocks)) ram.2).1

  -- the frame
  abbrev pub frame : FrameData
  frame = record { shape = m.shape; bits = bits; devices = devices_of m }

  abbrev made : FrameData
  made = framed (record { pages = m.shape.pages; bits = bits }) (devices_of m)

  same_frame : made ≡ frame
  same_frame =
      let vcpus = lay.machine.vcpus in
      λ i. record { shape = record { vcpus = vcpus i; blocks = counts i; pages = m.shape.pages }; bits = bits; devices = devices_of m }

  pub frame_told : frame_in file ≡ Ok frame
  unfolding frame_in
  frame_told =
      let front = has_front file m.shape lay.shape.front in
      let limits = lay.machine.shape in
      let total = ram_bytes_of m.shape in
      let place : record_place m.shape.pages (length bits) ≡ at = ap (record_place m.shape.pages) counts in
      let last : devices_behind file (record_place m.shape.pages (length bits)) ≡ Ok (devices_of m) = ap (devices_behind file) place ∙ devices_told in
      then_ok (stream_in file) _ tt frame (stream_is file front.0)
      (then_ok (total_in file) _ total frame (total_told file total (least m.shape limits) (most m.shape limits) (whole_pages m.shape) front.1)
      (then_ok (ram_in file total) _ (record { pages = m.shape.pages; bits = bits }) frame ram.1
      (then_ok (devices_behind file (record_place m.shape.pages (length bits))) _ (devices_of m) frame last (ap (λ (f : FrameData). Ok f) same_frame))))

  pub frame_has : HasFrame file frame
  frame_has =
      let front = has_front file m.shape lay.shape.front in
      record { stream = front.0; total = front.1; blocks = blocks_there; last = last_there }

  pub frame_limits : IsFrame frame
  frame_limits = record {
    shape = lay.machine.shape;
    blocks = counts;
    pages = all_of_pages file m.shape.pages 0 bits (bitmaps_whole file m.shape.pages m.shape.blocks bits (omega (arith, lay.machine.shape.blocks)) ram.2).0;
    vcpus = lay.machine.vcpus;
    devices = devices_limits m lay.machine lay.rest;
  }
