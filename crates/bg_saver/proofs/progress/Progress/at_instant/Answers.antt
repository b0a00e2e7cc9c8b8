-- The saver of the machine at the instant.
use Rattle.std.proofs.Common.{rules, ◌≡◌, ◌++◌, List, length, drop, replicate, false, None, sym, ap, ◌∙◌, subst, arith, length-append}
use Rattle.std.specs.Prelude.{ℕ}
use Rattle.std.specs.List.{range_with_len}
use Rattle.std.proofs.lemmas.List.{drop_at}
use Rattle.ram_block.specs.Shape.{ShapeData, total_pages_of}
use Rattle.page_sweep.specs.Sweep.{IsSweep, SweepData}
use Rattle.flat_machine.specs.Machine.{MachineData}
use Rattle.device_state.specs.DeviceText.{Two, device_text}
use Rattle.file_plan.specs.Layout.{tail_text}
use Rattle.file_plan.proofs.Heads.{length-tail}
use Rattle.bg_saver.specs.Inside.{joined_bits, progress_of}
use Rattle.bg_saver.specs.Save.{saver_at}
use Rattle.bg_saver.specs.Saver.{IsSaver}
use Rattle.bg_saver.proofs.Begun.{first_limits}
use Rattle.bg_saver.proofs.DeviceText.{device_text_short}
use Rattle.bg_saver.proofs.progress.Progress.at_instant.Goals as goal
use Rattle.bg_saver.proofs.progress.Progress.at_instant.Goals.{In_ok-tail_of}

shape_is : (c : In_ok-tail_of) → c.shape-shape.result ≡ c.args.stopped.now.shape
shape_is c = c.shape-shape.ensures.value ∙ ap (λ (m : MachineData). m.shape) c.machine.ensures.machine

tail_is : (c : In_ok-tail_of) → c.in_ok-tail_of.field-0.items ≡ tail_text ++ device_text Two c.args.stopped.now
tail_is c = c.in_ok-tail_of.ensures ∙ ap (λ (l : List ℕ). tail_text ++ l) c.devices.ensures

devices_are : (c : In_ok-tail_of) → drop 31 c.in_ok-tail_of.field-0.items ≡ device_text Two c.args.stopped.now
devices_are c = ap (drop 31) (tail_is c) ∙ drop_at tail_text (device_text Two c.args.stopped.now) 31 length-tail

begun : (c : In_ok-tail_of) → progress_of (record { shape = c.shape-shape.result; bitmaps = c.in_ok-bitmaps_for.field-0; sweep = c.in_ok-full_sweep.field-0; hand = None; end = None; counts = record { faults = 0; sweep = 0 }; faulted = c.in_ok-vec.field-0; tail = c.in_ok-tail_of.field-0 }) ≡ saver_at c.args.stopped.now
begun c =
    let pages : c.total_pages-pages.result ≡ total_pages_of c.args.stopped.now.shape = c.total_pages-pages.ensures.value ∙ ap (λ (s : ShapeData). total_pages_of s) (shape_is c) in
    let bits : joined_bits c.in_ok-bitmaps_for.field-0.items ≡ replicate (total_pages_of c.args.stopped.now.shape) false =
    c.in_ok-bitmaps_for.ensures.clear ∙ ap (λ (s : ShapeData). replicate (total_pages_of s) false) (shape_is c) in
    let left : c.in_ok-full_sweep.field-0.list ≡ range_with_len 0 (total_pages_of c.args.stopped.now.shape) =
    ap (λ (s : SweepData). s.list) c.in_ok-full_sweep.ensures.all ∙ ap (range_with_len 0) pages in
    let flags : c.in_ok-vec.field-0.items ≡ replicate (total_pages_of c.args.stopped.now.shape) false =
    (let made : c.in_ok-vec.field-0.items ≡ replicate c.total_pages-pages.result false = search rules in made) ∙ ap (λ n. replicate n false) pages in
    λ j. record {
      shape = shape_is c j;
      devices = devices_are c j;
      bits = bits j;
      left = left j;
      hand = None;
      end = None;
      counts = record { faults = 0; sweep = 0 };
      faulted = flags j;
    }

pub returns-clause-begun : goal.returns-clause-begun
returns-clause-begun c = begun c

sweep_is : (c : In_ok-tail_of) → IsSweep (record { pages = total_pages_of c.args.stopped.now.shape; list = range_with_len 0 (total_pages_of c.args.stopped.now.shape) })
sweep_is c =
    let pages : c.total_pages-pages.result ≡ total_pages_of c.args.stopped.now.shape = c.total_pages-pages.ensures.value ∙ ap (λ (s : ShapeData). total_pages_of s) (shape_is c) in
    subst IsSweep (c.in_ok-full_sweep.ensures.all ∙ ap (λ n. record { pages = n; list = range_with_len 0 n }) pages) c.in_ok-full_sweep.ensures.kept

limits : (c : In_ok-tail_of) → IsSaver (saver_at c.args.stopped.now)
limits c = first_limits c.args.stopped.now c.machine.ensures.limits (sweep_is c)

pub returns-clause-limits : goal.returns-clause-limits
returns-clause-limits c = subst IsSaver (sym (begun c)) (limits c)

pub invariant_of-result : goal.invariant_of-result
invariant_of-result c = record {
  saver = subst IsSaver (sym (begun c)) (limits c);
  blocks = c.in_ok-bitmaps_for.ensures.count;
  each = c.in_ok-bitmaps_for.ensures.each;
  pages = ap (λ (s : SweepData). s.pages) c.in_ok-full_sweep.ensures.all ∙ c.total_pages-pages.ensures.value;
  tail = tail_is c ∙ ap (λ (l : List ℕ). tail_text ++ l) (sym (devices_are c));
  short = omega (arith, ap length (tail_is c), length-append tail_text (device_text Two c.args.stopped.now), length-tail, device_text_short c.args.stopped.now c.machine.ensures.limits);
}
