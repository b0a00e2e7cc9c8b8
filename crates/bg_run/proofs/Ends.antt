-- The phase that a bus leaves when its workers have come to their end.
use Rattle.std.proofs.Common.{◌≡◌, ◌≤◌, ℕ, suc, Bool, true, ◌+◌, ◌-◌, ◌^◌, min, List, [], ◌∷◌, length, Some, refl, sym, ◌∙◌, ap, subst, arith}
use Rattle.std.specs.List.{count_by, slice_get, sum_by}
use Rattle.std.proofs.lemmas.List.Sums.{sum_by-cons}
use Rattle.std.proofs.lemmas.Option.{none-some, same_Some}
use Rattle.ram_block.specs.Shape.{total_pages_of}
use Rattle.flat_machine.specs.Machine.{IsMachine, MachineData, Rest}
use Rattle.flat_machine.specs.Run.{Phase, run}
use Rattle.flat_machine.proofs.PhaseEnds.{phase_pending}
use Rattle.bus_rule.specs.Faults.{IsWritten}
use Rattle.page_bus.specs.Closing.{AreAllOf, Closes, NoneWritten}
use Rattle.page_bus.specs.Opening.{IsOpened}
use Rattle.page_bus.specs.Passes.{BusData, IsBus, SaverKey, SaverPassData, VcpuPassData, book_of, task_of}
use Rattle.page_bus.specs.Plant.{IsAtStart, end_state}
use Rattle.bg_saver.specs.Saver.{SaverData, total_of}
use Rattle.bg_saver.specs.Save.{IsAtInstant}
use Rattle.bg_saver.specs.declared.counts.Counts.{Counts}
use Rattle.bg_saver.specs.declared.save_end.SaveEnd.{SaveEnd}
use Rattle.bg_saver.specs.declared.save_end.SaveEnd.TheVariants.{Complete, Failed}
use Rattle.bg_saver.specs.declared.save_job.PhaseOut.{PhaseOut}
use Rattle.bg_run.specs.Phase.{EndsSaved, IsBounded, RunsPhase}
use Rattle.bg_run.specs.Workers.{AreStepped, EndsSave, instant_of}
use Rattle.bg_run.proofs.Steps.{all_over}

-- the machine at the start is the instant in the saver's pass
pub starts_at : (i : MachineData) (n : ℕ) (protect : Bool) (bus : BusData) (passes : List VcpuPassData) (pass : SaverPassData) → IsOpened i n protect bus passes pass → instant_of pass ≡ i
starts_at i n protect bus passes pass opened = ap instant_of opened.saver_from

-- a closed bus whose workers have ended leaves the phase
pub runs_phase : (i : MachineData) (n : ℕ) (protect : Bool) (bus : BusData) (old new : List VcpuPassData) (saver other : SaverPassData) (out : PhaseOut) →
    IsOpened i n protect bus old saver → IsBus bus → AreAllOf bus new other → AreStepped old new → Closes bus new other out.machine out.order.members → IsMachine out.machine → RunsPhase i n out
runs_phase i n protect bus old new saver other out opened is all stepped closes limits =
    let started : bus.instant ≡ i = ap (λ (b : BusData). b.instant) opened.bus_from in
    let long : bus.run ≡ n = ap (λ (b : BusData). b.run) opened.bus_from in
    let over = all_over bus old new other out.machine out.order.members all stepped closes is.machine.vcpus in
    record {
      phase = subst (λ r. Phase i r out.order.members) long (subst (λ (m : MachineData). Phase m bus.run out.order.members) started (closes.phase over));
      ran = subst (λ (m : MachineData). run m out.order.members ≡ Some out.machine) started closes.ran;
      limits = limits;
    }

-- where no vCPU was stopped, none is counted
none_summed : (passes : List VcpuPassData) → ((j : ℕ) (p : VcpuPassData) → slice_get passes j ≡ Some p → (task_of p.view).blocked ≡ 0) → sum_by (λ (p : VcpuPassData). (task_of p.view).blocked) passes ≡ 0
none_summed [] each = refl
none_summed (p ∷ passes) each =
    let here = each 0 p refl in
    let rest = none_summed passes (λ j q there. each (suc j) q there) in
    sum_by-cons (λ (q : VcpuPassData). (task_of q.view).blocked) p passes ∙ (let a : (task_of p.view).blocked ≡ 0 = here in omega (arith, a, rest))

-- What was counted is bounded, where each page that counts as a fault was picked.
pub bounded : (i : MachineData) (n : ℕ) (protect : Bool) (bus : BusData) (old new : List VcpuPassData) (pass other : SaverPassData) (flags : List Bool) (out : PhaseOut) →
    Rest i → IsOpened i n protect bus old pass → IsBus bus → RunsPhase i n out → Closes bus new other out.machine out.order.members →
    (out.saved ≡ Some Complete → out.counts.faults + out.counts.sweep ≡ total_pages_of i.shape) → out.counts.faults + out.counts.sweep ≤ total_pages_of i.shape →
    out.counts.faults ≡ count_by (λ (flag : Bool). flag) flags → ((p : ℕ) → slice_get flags p ≡ Some true → slice_get (book_of other.view).picked p ≡ Some true) →
    out.blocked ≡ min (sum_by (λ (p : VcpuPassData). (task_of p.view).blocked) new) (2 ^ 64 - 1) → IsBounded i out
bounded i n protect bus old new pass other flags out rest opened is phase closes all most counted picked blocked =
    let started : bus.instant ≡ i = ap (λ (b : BusData). b.instant) opened.bus_from in
    let pending = phase_pending i n out.order.members out.machine rest (subst (λ (m : MachineData). length m.vcpus ≡ m.shape.vcpus) started is.machine.vcpus) phase.phase phase.ran in
    record {
      all = all;
      most = most;
      faults = record {
        flags = flags;
        counted = counted;
        each = λ p set. subst (λ (m : MachineData). IsWritten m out.order.members p) started (closes.picked pending p (picked p set));
      };
      calm = λ none. blocked ∙ ap (λ s. min s (2 ^ 64 - 1)) (none_summed new (closes.calm pending (subst (λ (m : MachineData). NoneWritten m out.order.members) (sym started) none)));
    }

other_end : Complete ≡ Failed → ⊥
other_end same = cc same

-- and of a save beside it what its saver counted
pub ends_saved : (i : MachineData) (n : ℕ) (protect : Bool) (bus : BusData) (old new : List VcpuPassData) (pass other : SaverPassData) (saver : SaverData) (end : SaveEnd) (now : BusData) (out : PhaseOut) →
    Rest i → IsOpened i n protect bus old pass → IsBus bus → RunsPhase i n out → EndsSave bus pass end now other saver → Closes bus new other out.machine out.order.members →
    out.saved ≡ Some end → out.counts ≡ saver.counts → out.blocked ≡ min (sum_by (λ (p : VcpuPassData). (task_of p.view).blocked) new) (2 ^ 64 - 1) → EndsSaved i saver out
ends_saved i n protect bus old new pass other saver end now out rest opened is phase ends closes saved counts blocked =
    let total : total_of saver ≡ total_pages_of i.shape =
    sym ends.keeps.save.total ∙ ap (λ (y : SaverKey). total_pages_of y.instant.shape) ends.keeps.key
    ∙ ap (λ (m : MachineData). total_pages_of m.shape) (starts_at i n protect bus old pass opened) in
    let most : out.counts.faults + out.counts.sweep ≤ total_pages_of i.shape =
    (let m = ends.limits.most in
    let c = ap (λ (c : Counts). c.faults + c.sweep) counts in
    omega (arith, m, c, total)) in
    record {
      ended = λ none. none-some end (sym none ∙ saved);
      saved = saved ∙ sym ends.ended;
      counts = counts;
      bounds = bounded i n protect bus old new pass other saver.faulted out rest opened is phase closes
          (λ complete. ap (λ (c : Counts). c.faults + c.sweep) counts ∙ all_counted total (sym saved ∙ complete)) most
          (ap (λ (c : Counts). c.faults) counts ∙ ends.limits.faults) ends.keeps.save.picked blocked;
    }
  where
    all_counted : total_of saver ≡ total_pages_of i.shape → Some end ≡ Some Complete → saver.counts.faults + saver.counts.sweep ≡ total_pages_of i.shape
    all_counted total complete =
        let none : length saver.left ≡ 0 = ap (λ (l : List ℕ). length l) ends.left in
        let all = ends.limits.all (λ failed. other_end (same_Some Complete Failed (sym complete ∙ sym ends.ended ∙ failed))) in
        omega (arith, all, none, total)

-- ---- The start

pub at_instant : (i : MachineData) (bus : BusData) (pass : SaverPassData) → IsAtStart i (end_state bus pass) → IsAtInstant i (end_state bus pass)
at_instant i bus pass start = record { fits = start.fits; total = start.total; protected = start.protected; stands = start.stands }
