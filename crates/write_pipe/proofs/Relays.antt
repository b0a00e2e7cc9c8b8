-- A relayed phase over a bus: how its two ends begin, what was counted, and a bus that closes before any event.
use Rattle.std.proofs.Common.{◌≡◌, ℕ, zero, suc, ◌+◌, ◌-◌, ◌^◌, ◌<◌, min, Bool, false, List, [], length, map, replicate, Some, refl, sym, ap, ◌∙◌, subst, arith}
use Rattle.std.specs.Prelude.{slice_get}
use Rattle.std.specs.List.{range_with_len, sum_by}
use Rattle.std.proofs.lemmas.List.{get_or-replicate, length-replicate}
use Rattle.std.proofs.lemmas.List.Sums.{sum_by-cons}
use Rattle.std.proofs.lemmas.Option.{none-some, same_Some, slice_get-get_or, slice_get_within}
use Rattle.atomic_table.specs.Seated.{TableId}
use Rattle.ram_block.specs.Shape.{total_pages_of}
use Rattle.flat_machine.specs.Machine.{MachineData, Rest}
use Rattle.flat_machine.specs.Run.{run, run_on}
use Rattle.page_cell.specs.Plant.{pages_of}
use Rattle.bus_rule.specs.Order.{order_of, total_of, trace_of}
use Rattle.bus_rule.specs.Story.{numbers_of}
use Rattle.page_bus.specs.Closing.{AreTracesOf, Closes}
use Rattle.page_bus.specs.Opening.{IsOpened}
use Rattle.page_bus.specs.Passes.{BusData, IsBus, SaverPassData, VcpuPassData, book_of, task_of}
use Rattle.page_bus.specs.Plant.{EndData, IsAtStart, end_state}
use Rattle.page_bus.specs.Saves.{pages_of_book}
use Rattle.bg_saver.specs.Saver.{SaverData}
use Rattle.bg_saver.specs.Save.{IsAtInstant}
use Rattle.bg_saver.specs.declared.counts.Counts.{Counts}
use Rattle.bg_saver.specs.declared.save_end.SaveEnd.{SaveEnd}
use Rattle.bg_saver.specs.declared.save_job.PhaseOut.{PhaseOut}
use Rattle.bg_run.specs.Phase.{RunsPhase}
use Rattle.bg_run.specs.declared.owned_end.OwnedEnd.{OwnedEnd}
use Rattle.bg_run.proofs.Ends.{bounded, starts_at}
use Rattle.write_pipe.specs.CopyEnd.{CopyData}
use Rattle.write_pipe.specs.Opening.{begins_at, comes_to, copies_all, takes_none}
use Rattle.write_pipe.specs.Relayed.{AreCounted, CopiesBus, EndsRelayed, end_fits, end_stands, end_total, end_writable, written}
use Rattle.write_pipe.specs.WriteEnd.{IsWriteEnd, WriteData}

-- ---- The two ends

-- the saver's end is a plant at the instant
pub written_at_instant : (i : MachineData) (end : OwnedEnd) (writer : WriteData OwnedEnd) (queue : TableId) (pages : ℕ) → IsAtStart i (end_state end.bus.now end.pass) → pages ≡ end_total end →
    writer ≡ takes_none (comes_to end queue) pages → IsWriteEnd end_total end_writable end_stands end_fits writer → IsAtInstant i (written writer)
written_at_instant i end writer queue pages start count is limits =
    let from : writer.outlet.from ≡ end = ap (λ (d : WriteData OwnedEnd). d.outlet.from) is in
    record {
      fits = limits;
      total = ap end_total from ∙ start.total;
      protected = ap (λ (d : WriteData OwnedEnd). d.writable) is ∙ ap (λ n. replicate n false) (count ∙ sym (ap end_total from));
      stands = subst (λ (x : OwnedEnd). end_stands x (pages_of i)) (sym from) start.stands;
    }

-- each page was counted, once all went in
pub counted_all : (end : OwnedEnd) (now : BusData) (new : SaverPassData) (copier after : CopyData OwnedEnd) (queue : TableId) (pages : ℕ) → copier ≡ copies_all (begins_at end queue) pages →
    CopiesBus copier (end_state end.bus.now end.pass) after (end_state now new) → AreCounted end.bus.now end.pass now new after.counts
counted_all end now new copier after queue pages is copies =
    let from : after.inlet.from ≡ end = copies.from ∙ ap (λ (d : CopyData OwnedEnd). d.inlet.from) is in
    let none : length after.left ≡ 0 = ap (λ (l : List ℕ). length l) copies.left in
    let total : end_total after.inlet.from ≡ end_total end = ap end_total from in
    let all = copies.limits.all in
    record {
      same_bus = ap (λ (r : EndData). r.bus) copies.rest;
      key = ap (λ (r : EndData). r.key) copies.rest;
      all = omega (arith, all, none, total);
      flags = after.faulted;
      counted = copies.limits.faults;
      picked = copies.of_copy.picked;
    }

-- ---- The end of the phase

pub ends_relayed : (i : MachineData) (n : ℕ) (protect : Bool) (bus : BusData) (old new : List VcpuPassData) (pass other : SaverPassData) (saver : SaverData) (end : SaveEnd) (now : BusData) (counts : Counts) (out : PhaseOut) →
    Rest i → IsOpened i n protect bus old pass → IsBus bus → RunsPhase i n out → AreCounted bus pass now other counts → Closes bus new other out.machine out.order.members → saver.end ≡ Some end →
    out.saved ≡ Some end → out.counts ≡ counts → out.blocked ≡ min (sum_by (λ (p : VcpuPassData). (task_of p.view).blocked) new) (2 ^ 64 - 1) → EndsRelayed i saver out
ends_relayed i n protect bus old new pass other saver end now counts out rest opened is phase counted closes ended saved same blocked =
    let total : pages_of_book (book_of pass.view) ≡ total_pages_of i.shape = ap (λ (m : MachineData). total_pages_of m.shape) (starts_at i n protect bus old pass opened) in
    let all : out.counts.faults + out.counts.sweep ≡ total_pages_of i.shape = ap (λ (c : Counts). c.faults + c.sweep) same ∙ counted.all ∙ total in
    record {
      ended = λ none. none-some end (sym none ∙ saved);
      saved = saved ∙ sym ended;
      all = all;
      bounds = bounded i n protect bus old new pass other counted.flags out rest opened is phase closes (λ complete. all) (omega (arith, all))
          (ap (λ (c : Counts). c.faults) same ∙ counted.counted) counted.picked blocked;
    }

-- ---- A bus without an event

-- traces with no event
abbrev no_events : ℕ → List (List ℕ)
no_events n = replicate n []

none_held : (n : ℕ) → total_of (no_events n) ≡ 0
none_held zero = refl
none_held (suc n) = (let one : total_of (no_events (suc n)) ≡ 0 + total_of (no_events n) = sum_by-cons length [] (no_events n) in omega (arith, one, none_held n))

none_ordered : (n : ℕ) → order_of (no_events n) ≡ []
unfolding order_of
none_ordered n = ap (λ count. map (trace_of (no_events n)) (range_with_len 0 count)) (none_held n)

empty_trace : (n k : ℕ) → k < n → slice_get (no_events n) k ≡ Some []
empty_trace n k below =
    slice_get-get_or (no_events n) k [] (omega (arith, below, length-replicate {A = List ℕ} n [])) ∙ ap Some (get_or-replicate n k [] [] below)

no_event : (m : MachineData) → run m [] ≡ Some m
unfolding run_on
no_event m = refl

-- it gives its machine back
pub closes_unchanged : (i : MachineData) (n : ℕ) (protect : Bool) (bus : BusData) (passes : List VcpuPassData) (saver : SaverPassData) (machine : MachineData) (order : List ℕ) →
    IsOpened i n protect bus passes saver → Closes bus passes saver machine order → machine ≡ i
closes_unchanged i n protect bus passes saver machine order opened closes =
    let started : bus.instant ≡ i = ap (λ (b : BusData). b.instant) opened.bus_from in
    let traces : AreTracesOf bus passes (no_events (length i.vcpus)) = record {
      count = length-replicate {A = List ℕ} (length i.vcpus) [] ∙ ap (λ (m : MachineData). length m.vcpus) (sym started);
      each = λ j p there.
          (let made = opened.passes_from.each j p there in
          let below : j < length i.vcpus = slice_get_within i.vcpus j made.0 made.1 in
          ap (λ (d : VcpuPassData). slice_get (no_events (length i.vcpus)) (task_of d.view).who) made.2 ∙ empty_trace (length i.vcpus) j below
          ∙ ap (λ (d : VcpuPassData). Some (numbers_of (task_of d.view).trace)) (sym made.2));
    } in
    let none : order ≡ [] = closes.order_is (no_events (length i.vcpus)) traces ∙ none_ordered (length i.vcpus) in
    same_Some machine i (sym closes.ran ∙ ap (run bus.instant) none ∙ no_event bus.instant ∙ ap Some started)
