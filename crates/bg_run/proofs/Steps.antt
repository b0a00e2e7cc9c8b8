-- The passes behind their workers are all of the bus, and the phase of each vCPU has ended.
use Rattle.std.proofs.Common.{◌≡◌, ℕ, ◌+◌, ◌<◌, true, List, get_or, length, Option, sym, ◌∙◌, ap, subst, arith}
use Rattle.std.specs.Option.{option_map_or}
use Rattle.std.proofs.lemmas.Option.{get_or_from_slice_get, slice_get-get_or, slice_get_within}
use Rattle.rv64i_step.specs.Vcpu.{VcpuData}
use Rattle.flat_machine.specs.Machine.{MachineData}
use Rattle.flat_machine.specs.Run.{has_ended, steps_of, vcpu_ended}
use Rattle.bus_rule.specs.Story.{IsTold}
use Rattle.bus_rule.specs.Views.{Task}
use Rattle.page_bus.proofs.Keys.{all_saved}
use Rattle.page_bus.specs.Closing.{AreAllOf, Closes}
use Rattle.page_bus.specs.Passes.{BusData, SaverPassData, VcpuKey, VcpuPassData, saver_key, task_of}
use Rattle.bg_run.specs.Workers.{AreStepped, IsOver}

pub stepped_all : (bus : BusData) (old new : List VcpuPassData) (saver other : SaverPassData) → AreAllOf bus old saver → AreStepped old new → saver_key other ≡ saver_key saver →
    AreAllOf bus new other
stepped_all bus old new saver other all stepped same =
    let kept = all_saved bus old saver other all same in
    let count = stepped.count in
    record {
      tables = λ k d below.
          (let within : k < length old = omega (arith, below, count) in
          ap (λ (y : VcpuKey). y.table) (stepped.each k d within).key ∙ kept.tables k d within);
      saver_table = kept.saver_table;
      instant = kept.instant;
      count = count ∙ kept.count;
      each = λ k below.
          (let a = kept.each k below in
          let within : a.0 < length old = slice_get_within old a.0 a.1 a.2 in
          let inside : a.0 < length new = omega (arith, within, count) in (
            a.0,
            get_or new a.0 a.1,
            slice_get-get_or new a.0 a.1 inside,
            ap (λ (y : VcpuKey). y.who) (stepped.each a.0 a.1 within).key
                ∙ ap (λ (p : VcpuPassData). (task_of p.view).who) (get_or_from_slice_get old a.0 a.1 a.1 a.2)
                ∙ a.3,
          ));
    }

-- what a pass tells of a vCPU whose phase has ended is so of the machine
told_over : (i : MachineData) (n : ℕ) (o : List ℕ) (m : MachineData) (t : Task) → IsTold i n o m t → vcpu_ended t.until t.vcpu ≡ true → has_ended i n m t.who ≡ true
unfolding has_ended
told_over i n o m t told over =
    ap (λ (v : Option VcpuData). option_map_or (vcpu_ended (steps_of i t.who + n)) v true) told.vcpu
    ∙ ap (λ u. vcpu_ended u t.vcpu) (sym told.until)
    ∙ over

pub all_over : (bus : BusData) (old new : List VcpuPassData) (saver : SaverPassData) (machine : MachineData) (order : List ℕ) → AreAllOf bus new saver → AreStepped old new →
    Closes bus new saver machine order → length bus.instant.vcpus ≡ bus.instant.shape.vcpus → (k : ℕ) → k < bus.instant.shape.vcpus → has_ended bus.instant bus.run machine k ≡ true
all_over bus old new saver machine order all stepped closes vcpus k below =
    let a = all.each k (omega (arith, below, vcpus)) in
    let inside : a.0 < length new = slice_get_within new a.0 a.1 a.2 in
    let within : a.0 < length old = (let count = stepped.count in omega (arith, inside, count)) in
    let over : IsOver a.1 = subst IsOver (get_or_from_slice_get new a.0 a.1 a.1 a.2) (stepped.each a.0 a.1 within).over in
    subst (λ w. has_ended bus.instant bus.run machine w ≡ true) a.3
    (told_over bus.instant bus.run order machine (task_of a.1.view) (closes.told a.0 a.1 a.2) over)
