-- The turn of a vCPU leaves what the copier's end knows of the bus.
use Rattle.std.proofs.Common.{◌≡◌, ℕ, Bool, true, false, List, Option, Some, None, refl, sym, ap, ◌∙◌, subst}
use Rattle.std.specs.Prelude.{IfSome, if◌then◌else◌, slice_get}
use Rattle.ram_block.specs.Shape.{total_pages_of}
use Rattle.flat_machine.specs.Machine.{MachineData}
use Rattle.flat_machine.specs.Next.{next}
use Rattle.page_cell.specs.Core.{stopped_page}
use Rattle.plain_bus.specs.Bus.{BusData, LeavesTry, after_try, phase_ended, with_event, with_turn}
use Rattle.plain_bus.specs.declared.answer.StepAnswer.{StepAnswer}
use Rattle.write_pipe.specs.CopyEnd.{CopyData}
use Rattle.relay_tests.specs.Ends.{IsOfBus}

record StepKeeps (d new : BusData) : Type 0 where
  instant : new.instant ≡ d.instant
  writable : new.writable ≡ d.writable
  picked : new.picked ≡ d.picked

all_kept : (d : BusData) → StepKeeps d d
all_kept d = record { instant = refl; writable = refl; picked = refl }

event_keeps : (d : BusData) (k : ℕ) (m : Option MachineData) → StepKeeps d (with_event d k m)
event_keeps d k None = all_kept d
event_keeps d k (Some m) = record { instant = refl; writable = refl; picked = refl }

turn_keeps : (d : BusData) (k : ℕ) (page : Option ℕ) → StepKeeps d (with_turn d k page)
turn_keeps d k None = event_keeps d k (next d.machine k)
turn_keeps d k (Some p) = record { instant = refl; writable = refl; picked = refl }

try_by : (d : BusData) (k : ℕ) (ended : Bool) → StepKeeps d (if ended then d else with_turn d k (stopped_page d.machine d.writable k))
try_by d k true = all_kept d
try_by d k false = turn_keeps d k (stopped_page d.machine d.writable k)

try_keeps : (d new : BusData) (k : ℕ) (answer : StepAnswer) → LeavesTry d k answer new → StepKeeps d new
unfolding after_try
try_keeps d new k answer leaves = subst (StepKeeps d) (sym leaves.after) (try_by d k (phase_ended d k))

-- the bus stays that of the copier's end
pub stepped : (d new : BusData) (k : ℕ) (answer : StepAnswer) (copier : CopyData BusData) → IsOfBus copier d → LeavesTry d k answer new → IsOfBus copier new
stepped d new k answer copier is leaves =
    let keeps = try_keeps d new k answer leaves in
    let shape : new.machine.shape ≡ d.machine.shape = leaves.limits.shape ∙ ap (λ (m : MachineData). m.shape) keeps.instant ∙ sym is.fits.shape in
    record {
      fits = leaves.limits;
      total = ap total_pages_of shape ∙ is.total;
      stands = λ pages stood. leaves.stands pages (is.stands pages stood);
      writable = λ p below. ap (λ (l : List Bool). slice_get l p) keeps.writable ∙ is.writable p below;
      picked = λ p set. ap (λ (l : List Bool). slice_get l p) keeps.picked ∙ is.picked p set;
      wanted = subst (λ (l : List Bool). IfSome copier.wanted (λ w. w.picked ≡ true → slice_get l w.page ≡ Some true)) (sym keeps.picked) is.wanted;
    }
