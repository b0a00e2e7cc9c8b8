-- How a save ends a job, from the calls that it is made of.
use Rattle.std.proofs.Common.{◌≡◌, Option, Some, None, refl, sym, ap, subst}
use Rattle.bg_saver.specs.declared.save_end.SaveEnd.{SaveEnd}
use Rattle.bg_saver.specs.declared.save_end.SaveEnd.TheVariants.{Complete, Failed}
use Rattle.bg_saver.specs.declared.save_job.PhaseOut.{PhaseOut}
use Rattle.flat_machine.specs.Machine.{MachineData}
use Rattle.flat_machine.specs.Order.{OrderData}
use Rattle.medium.specs.States.{FileState, SinkState}
use Rattle.vm_cli.specs.Jobs.Common.{Takes, TakesReport}
use Rattle.vm_cli.specs.Jobs.Save.{EndsReported, IsInstant, KeepsImages, LeavesSaved, ReportsFailed, RunsBy, SavesMachine, WritesInstant, report_of}
use Rattle.vm_cli.specs.Outside.{End, end_of}
use Rattle.vm_cli.specs.Served.{SavePhases}
use Rattle.vm_cli.specs.Work.{IsNotConsole, IsWorkDone}
use Rattle.vm_cli.specs.declared.answer.Fault.{Fault}
use Rattle.vm_cli.specs.declared.orders.Orders.{Orders}
use Rattle.vm_cli.specs.declared.answer.Fault.TheVariants as faults

-- ---- A save that ran its second phase

-- what stands of it before the report
pub record HasSaved (b : MachineData) (phases : SavePhases) (i : MachineData) (out : PhaseOut) (old new : FileState) (end : End) : Type 0 where
  pub first : IsInstant phases.way b phases.stop end.first i
  pub phase : RunsBy phases.way i phases.run out
  pub order : end.second ≡ out.order.members
  pub file : LeavesSaved i out.saved old new
  pub crash : KeepsImages i old new

-- from the calls: the orders before the end of the job, and behind it
pub has_saved : (b : MachineData) (phases : SavePhases) (i : MachineData) (out : PhaseOut) (old new : FileState) (before after : Orders) (end : Option Fault) → IsInstant phases.way b phases.stop before.first.members i
    → RunsBy phases.way i phases.run out → LeavesSaved i out.saved old new → KeepsImages i old new → after.first ≡ before.first → after.second ≡ out.order
    → HasSaved b phases i out old new (end_of end after)
has_saved b phases i out old new before after end first phase file crash same_first second = record {
  first = subst (λ (o : OrderData). IsInstant phases.way b phases.stop o.members i) (sym same_first) first;
  phase = phase;
  order = ap (λ (o : OrderData). o.members) second;
  file = file;
  crash = crash;
}

abbrev pub saves : (b : MachineData) (phases : SavePhases) (i : MachineData) (out : PhaseOut) (old new : FileState) (end : End) → HasSaved b phases i out old new end → out.saved ≡ Some Complete
    → WritesInstant i old new → SavesMachine b phases old new end
saves b phases i out old new end has ended file = record {
  instant = i;
  out = out;
  first = has.first;
  second = record { phase = has.phase; saved = ended; order = has.order };
  file = file;
  crash = has.crash;
}

pub done_by : (b : MachineData) (phases : SavePhases) (i : MachineData) (out : PhaseOut) (old new : FileState) (console console_now : SinkState) (end : End)
    → HasSaved b phases i out old new end → EndsReported out.saved out end.fault console console_now → IsWorkDone end.fault
    → (done : SavesMachine b phases old new end) × Takes end.fault (report_of Complete done.out) console console_now
done_by b phases i out old new console console_now end has reported done = by_end out.saved end.fault refl refl has.file reported done
  where
    by_end : (s : Option SaveEnd) (f : Option Fault) → out.saved ≡ s → end.fault ≡ f → LeavesSaved i s old new → EndsReported s out f console console_now → IsWorkDone f
        → (done : SavesMachine b phases old new end) × Takes end.fault (report_of Complete done.out) console console_now
    by_end None f ended is file reported done = absurd file
    by_end (Some Complete) None ended is file reported done =
        (saves b phases i out old new end has ended file, subst (λ f. Takes f (report_of Complete out) console console_now) (sym is) reported)
    by_end (Some Complete) (Some faults.ConsoleFault) ended is file reported done =
        (saves b phases i out old new end has ended file, subst (λ f. Takes f (report_of Complete out) console console_now) (sym is) reported.0)
    by_end (Some Failed) None ended is file reported done = absurd reported
    by_end (Some Failed) (Some faults.ConsoleFault) ended is file reported done = absurd reported
    by_end (Some Complete) (Some _) ended is file reported done = absurd reported
    by_end (Some Failed) (Some _) ended is file reported done = absurd done

pub failed_by : (b : MachineData) (phases : SavePhases) (i : MachineData) (out : PhaseOut) (old new : FileState) (console console_now : SinkState) (end : End)
    → HasSaved b phases i out old new end → EndsReported out.saved out end.fault console console_now → (fault : Fault) → end.fault ≡ Some fault → IsNotConsole fault
    → ReportsFailed TakesReport b phases old new console console_now end
failed_by b phases i out old new console console_now end has reported fault is other =
    by_end out.saved fault refl is other has.file (subst (λ f. EndsReported out.saved out f console console_now) is reported)
  where
    by_end : (s : Option SaveEnd) (f : Fault) → out.saved ≡ s → end.fault ≡ Some f → IsNotConsole f → LeavesSaved i s old new → EndsReported s out (Some f) console console_now
        → ReportsFailed TakesReport b phases old new console console_now end
    by_end None f ended is other file reported = absurd file
    by_end (Some Failed) faults.FileFault ended is other file reported = record {
      failed = record {
        fault = is;
        instant = i;
        out = out;
        first = has.first;
        second = record { phase = has.phase; saved = ended; order = has.order };
        rose = file.0;
        synced = file.1;
        crash = has.crash;
      };
      printed = reported;
    }
    by_end (Some Complete) faults.ConsoleFault ended is other file reported = absurd other
    by_end (Some Complete) _ ended is other file reported = absurd reported
    by_end (Some Failed) _ ended is other file reported = absurd reported
