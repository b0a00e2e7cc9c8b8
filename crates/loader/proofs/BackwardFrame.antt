-- A file of which a frame was read has all of it, and the frame is within the limits, where the file's numbers are bytes.
use Rattle.std.proofs.Common.{◌≡◌, ℕ, ◌+◌, List, length, Ok, Err, Result, refl, sym, subst}
use Rattle.std.specs.Prelude.{nat_le}
use Rattle.std.proofs.lemmas.Bool.{leb-true}
use Rattle.device_state.specs.DeviceText.{AreDevices, DevicesData}
use Rattle.device_state.specs.Reading.{DevicesRead, devices_in}
use Rattle.device_state.specs.declared.fault.DeviceReadFault.{DeviceReadFault}
use Rattle.device_state.proofs.Bodies.{Bytes}
use Rattle.device_state.proofs.WholeBack.{devices_told}
use Rattle.file_plan.specs.Plan.{record_place}
use Rattle.mig_stream.specs.Checks.{and_then}
use Rattle.loader.specs.Frame.{FrameData, RamData, devices_behind, frame_in, framed, last_in, last_of, ram_in, stream_in, tail_in, total_in}
use Rattle.loader.specs.Stands.{EndsWith, HasFrame, HasLast, HasTotal, IsFrame}
use Rattle.loader.specs.declared.refusal.Refusal.TheVariants.{Trailing}
use Rattle.loader.proofs.Backward.{stream_of, total_told_of}
use Rattle.loader.proofs.BackwardRam.{ram_of, tail_of}
use Rattle.loader.proofs.RamPages.{all_of_pages}
use Rattle.loader.proofs.Whole.{both_ok, passes, ram_whole}

-- the device text with which the file ends
pub record IsLast (file : List ℕ) (at : ℕ) (d : DevicesData) : Type 0 where
  pub ends : EndsWith file at d
  pub limits : AreDevices d

last_read : (file : List ℕ) (at : ℕ) (d : DevicesData) (found : Result DevicesRead DeviceReadFault) → Bytes file → devices_in file at ≡ found → last_of (length file) found ≡ Ok d → IsLast file at d
last_read file at d (Ok read) each is last =
    let end = passes (nat_le (length file) read.end) (Trailing read.end) (Ok read.devices) d last in
    let same : read.devices ≡ d = cc in
    let told = devices_told file at read (λ i from to. each i) is in
    let ends : EndsWith file at read.devices = record { end = read.end; stands = (read.version, told.1); last = leb-true _ _ end.0 } in
    subst (IsLast file at) same (record { ends = ends; limits = told.0 })
last_read file at d (Err fault) each is last = absurd (cc)

last_is : (file : List ℕ) (at : ℕ) (d : DevicesData) → Bytes file → last_in file at ≡ Ok d → IsLast file at d
unfolding last_in
last_is file at d each is = last_read file at d (devices_in file at) each refl is

pub record IsRead (file : List ℕ) (frame : FrameData) : Type 0 where
  pub has : HasFrame file frame
  pub limits : IsFrame frame

behind_is : (file : List ℕ) (at : ℕ) (d : DevicesData) → Bytes file → devices_behind file at ≡ Ok d → HasLast file at d × AreDevices d
unfolding devices_behind
behind_is file at d each is =
    let tail = both_ok (tail_in file at) (λ _. last_in file (at + 31)) d is in
    let last = last_is file (at + 31) d each tail.2 in
    (record { tail = tail_of file at each tail.1; devices = last.ends }, last.limits)

pub frame_of : (file : List ℕ) (frame : FrameData) → Bytes file → frame_in file ≡ Ok frame → IsRead file frame
unfolding frame_in
frame_of file frame each is =
    let stream = both_ok (stream_in file) _ frame is in
    let total = both_ok (total_in file) _ frame stream.2 in
    let ram = both_ok (ram_in file total.0) (λ (r : RamData). and_then (devices_behind file (record_place r.pages (length r.bits))) (λ (d : DevicesData). Ok (framed r d))) frame total.2 in
    let last = both_ok (devices_behind file (record_place ram.0.pages (length ram.0.bits))) (λ (d : DevicesData). Ok (framed ram.0 d)) frame ram.2 in
    let numbers = total_told_of file total.0 each total.1 in
    let blocks = ram_of file total.0 ram.0 each numbers.least ram.1 in
    let whole = ram_whole file total.0 ram.0 numbers.least ram.1 in
    let behind = behind_is file (record_place ram.0.pages (length ram.0.bits)) last.0 each last.1 in
    let same : framed ram.0 last.0 ≡ frame = cc in
    let told : IsRead file (framed ram.0 last.0) = record {
      has = record {
        stream = stream_of file each stream.1;
        total = subst (λ (k : ℕ). HasTotal file k) (sym blocks.sum) numbers.has;
        blocks = blocks.blocks;
        last = behind.0;
      };
      limits = record {
        shape = record { vcpus = (behind.1.some, behind.1.count); blocks = (blocks.some, blocks.few); pages = (blocks.some_page, blocks.few_pages) };
        blocks = refl;
        pages = all_of_pages file ram.0.pages 0 ram.0.bits whole;
        vcpus = refl;
        devices = behind.1;
      };
    } in
    subst (IsRead file) same told
