-- The whole phase, from the calls that it is made of.
use Rattle.std.proofs.Common.{◌≡◌, ℕ, ◌<◌, true, None, refl, sym, ◌∙◌, ap, subst}
use Rattle.medium.specs.Members.{file_state}
use Rattle.flat_machine.specs.Machine.{MachineData}
use Rattle.flat_machine.specs.Order.{OrderData}
use Rattle.flat_machine.specs.Run.{Phase, has_ended}
use Rattle.plain_bus.specs.Bus.{BusData}
use Rattle.sliced_run.specs.Phase.{LeavesFile}
use Rattle.sliced_run.specs.Sliced.{SlicedData}
use Rattle.sliced_run.proofs.Ends.{begins_here, file_out, under_way_here, whole_out, whole_phase}
use Rattle.sliced_run.proofs.running.run_turns.Goals as goal

pub take_turns-requires-clause-phase : goal.take_turns-requires-clause-phase
take_turns-requires-clause-phase g c =
    begins_here c.args.machine c.args.run c.in_ok-bus.bus c.args.job.saver (file_state g.M.Readable c.args.job.medium.now)
    c.in_ok-bus.ensures.bus c.in_ok-bus.ensures.limits c.in_ok-bus.ensures.stands c.requires.begun

pub take_turns-requires-clause-file : goal.take_turns-requires-clause-file
take_turns-requires-clause-file g c = λ _.
    under_way_here c.args.machine c.args.run c.in_ok-bus.bus c.args.job.saver (file_state g.M.Readable c.args.job.medium.now)
    c.in_ok-bus.ensures.bus c.in_ok-bus.ensures.limits c.in_ok-bus.ensures.stands c.requires.begun

pub returns-clause-phase : goal.returns-clause-phase
returns-clause-phase g c =
    let x : SlicedData = record { bus = c.in_ok-bus.bus; saver = c.args.job.saver; saved = None } in
    let w = c.end_rounds.new.self in
    let a = c.args.job.medium.now in
    let instant = ap (λ (b : BusData). b.instant) c.in_ok-bus.ensures.bus in
    let run = ap (λ (b : BusData). b.run) c.in_ok-bus.ensures.bus in
    let whole = whole_phase g.M.Readable c.args.machine c.args.run c.args.turns.now x c.take_turns.new.self c.end_save.new.self w a c.take_turns.new.medium c.end_save.new.medium instant run
    c.take_turns.ensures c.end_save.ensures.turns c.end_save.ensures.ended c.end_rounds.ensures.rounds c.end_rounds.ensures.over in
    let order = c.close-machine.result.order.members in
    let phase = subst (λ (d : SlicedData). ((k : ℕ) → k < d.bus.instant.shape.vcpus → has_ended d.bus.instant d.bus.run d.bus.machine k ≡ true) → Phase d.bus.instant d.bus.run order)
    c.phase.view_is
    (subst (λ (m : MachineData). ((k : ℕ) → k < c.phase.inside.bus.instant.shape.vcpus → has_ended c.phase.inside.bus.instant c.phase.inside.bus.run m k ≡ true) → Phase c.phase.inside.bus.instant c.phase.inside.bus.run order)
    c.close-machine.ensures.machine c.close-machine.ensures.phase) in
    whole_out g.M.Readable c.args.machine c.args.run c.args.turns.now x w a c.end_save.new.medium (file_state g.M.Readable a) _ refl c.in_ok-bus.ensures.bus c.requires.begun whole phase
    c.close-machine.ensures.limits
    (record {
      machine = c.close-machine.ensures.machine ∙ ap (λ (d : SlicedData). d.bus.machine) c.phase.view_is;
      order = ap (λ (o : OrderData). o.members) c.close-machine.ensures.order ∙ ap (λ (d : SlicedData). d.bus.order.members) c.phase.view_is;
      saved = ap (λ (d : SlicedData). d.saved) c.phase.view_is;
      blocked = c.blocked-blocked.ensures.value ∙ ap (λ (d : SlicedData). d.bus.blocked) c.phase.view_is;
      counts = c.counts.ensures.counts ∙ ap (λ (d : SlicedData). d.saver.counts) c.phase.view_is;
    })

pub returns-clause-file : goal.returns-clause-file
returns-clause-file g c =
    let x : SlicedData = record { bus = c.in_ok-bus.bus; saver = c.args.job.saver; saved = None } in
    let w = c.end_rounds.new.self in
    let a = c.args.job.medium.now in
    let instant = ap (λ (b : BusData). b.instant) c.in_ok-bus.ensures.bus in
    let run = ap (λ (b : BusData). b.run) c.in_ok-bus.ensures.bus in
    let whole = whole_phase g.M.Readable c.args.machine c.args.run c.args.turns.now x c.take_turns.new.self c.end_save.new.self w a c.take_turns.new.medium c.end_save.new.medium instant run
    c.take_turns.ensures c.end_save.ensures.turns c.end_save.ensures.ended c.end_rounds.ensures.rounds c.end_rounds.ensures.over in
    subst (λ o. LeavesFile c.args.machine o (file_state g.M.Readable a) (file_state g.M.Readable c.end_save.new.medium)) (sym (ap (λ (d : SlicedData). d.saved) c.phase.view_is))
    (file_out g.M.Readable c.args.machine x w a c.end_save.new.medium refl whole.taken.file)
