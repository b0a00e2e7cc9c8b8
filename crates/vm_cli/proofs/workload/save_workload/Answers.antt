-- The guest of the workload is saved, and its file loaded.
use Rattle.std.proofs.Common.{[], ◌∷◌, refl, ap}
use Rattle.medium.specs.Members.{file_state, sink_state}
use Rattle.vm_cli.specs.Answer.{fault_in}
use Rattle.vm_cli.specs.Jobs.Common.{print_step}
use Rattle.vm_cli.specs.Jobs.Save.{save_machine_steps}
use Rattle.vm_cli.specs.Jobs.Workload.{load_saved_step, workload_steps}
use Rattle.vm_cli.proofs.Boots.{workload_room, workload_turns}
use Rattle.vm_cli.proofs.Causes.{ended_cause}
use Rattle.vm_cli.proofs.Jobs.{before_console, failed_with}
use Rattle.vm_cli.proofs.SavedLoads.{cause_behind, cut_done, fails_later, never_full, whole_cause, whole_done}
use Rattle.vm_cli.proofs.workload.save_workload.Goals as goal

pub save_machine-requires-clause-room : goal.save_machine-requires-clause-room
save_machine-requires-clause-room g c = workload_room c.args.seed c.in_ok-machine.machine c.in_ok-machine.ensures.booted

pub save_machine-requires-clause-turns : goal.save_machine-requires-clause-turns
save_machine-requires-clause-turns g c = workload_turns c.args.seed c.in_ok-machine.machine c.in_ok-turns.turns c.in_ok-machine.ensures.booted c.in_ok-turns.ensures.there

pub returns-in_err-save_machine-clause-cause : goal.returns-in_err-save_machine-clause-cause
returns-in_err-save_machine-clause-cause g c = λ old new.
    ended_cause
    (record old { output = g.M.Readable.faults c.args.output.now; console = g.K.Sink.faults c.args.console.now })
    (record new { output = g.M.Readable.faults c.save_machine.new.output; console = g.K.Sink.faults c.save_machine.new.console })
    (workload_steps (file_state g.M.Readable c.args.output.now)) (fault_in c.from_residual-in_err-save_machine.result) c.in_err-save_machine.field-0.0 (failed_with _ _ c.from_residual-in_err-save_machine.ensures)
    (cause_behind
    (record old { output = g.M.Readable.faults c.args.output.now; console = g.K.Sink.faults c.args.console.now })
    (record new { output = g.M.Readable.faults c.save_machine.new.output; console = g.K.Sink.faults c.save_machine.new.console })
    (save_machine_steps (file_state g.M.Readable c.args.output.now)) (load_saved_step (file_state g.M.Readable c.args.output.now) ∷ print_step ∷ []) c.in_err-save_machine.field-0.0 (c.in_err-save_machine.ensures.cause old new))

pub returns-in_err-save_machine-clause-done : goal.returns-in_err-save_machine-clause-done
returns-in_err-save_machine-clause-done g c =
    cut_done c.args.seed c.in_ok-machine.machine c.in_ok-turns.turns (file_state g.M.Readable c.args.output.now) (file_state g.M.Readable c.save_machine.new.output) (sink_state g.K.Sink c.args.console.now) (sink_state g.K.Sink c.save_machine.new.console) c.save_machine.new.orders (fault_in c.from_residual-in_err-save_machine.result) c.in_err-save_machine.field-0.0
    c.in_ok-machine.ensures.booted c.in_ok-turns.ensures.drawn (failed_with _ _ c.from_residual-in_err-save_machine.ensures) c.in_err-save_machine.ensures.done

pub returns-clause-cause : goal.returns-clause-cause
returns-clause-cause g c = λ old new.
    whole_cause c.args.seed c.in_ok-machine.machine c.in_ok-turns.turns (file_state g.M.Readable c.args.output.now) (file_state g.M.Readable c.save_machine.new.output) (file_state g.M.Readable c.check_input.new.input) (sink_state g.K.Sink c.args.console.now) (sink_state g.K.Sink c.save_machine.new.console) c.save_machine.new.orders
    (record old { output = g.M.Readable.faults c.args.output.now; console = g.K.Sink.faults c.args.console.now })
    (record new { output = g.M.Readable.faults c.check_input.new.input; console = g.K.Sink.faults c.check_input.new.console })
    (record old { input = g.M.Readable.faults c.save_machine.new.output; console = g.K.Sink.faults c.save_machine.new.console })
    (record new { input = g.M.Readable.faults c.check_input.new.input; console = g.K.Sink.faults c.check_input.new.console })
    (fault_in c.check_input.result) c.in_ok-machine.ensures.booted c.in_ok-turns.ensures.drawn (c.in_ok-save_machine.ensures.done tt) refl refl refl refl c.in_ok-save_machine.ensures.count refl
    (c.in_ok-save_machine.ensures.cause old new) (c.check_input.ensures.cause old new)

pub returns-clause-done : goal.returns-clause-done
returns-clause-done g c = λ done.
    whole_done c.args.seed c.in_ok-machine.machine c.in_ok-turns.turns (file_state g.M.Readable c.args.output.now) (file_state g.M.Readable c.save_machine.new.output) (file_state g.M.Readable c.check_input.new.input) (sink_state g.K.Sink c.args.console.now) (sink_state g.K.Sink c.save_machine.new.console) (sink_state g.K.Sink c.check_input.new.console) c.save_machine.new.orders (fault_in c.check_input.result)
    c.in_ok-machine.ensures.booted c.in_ok-turns.ensures.drawn (c.in_ok-save_machine.ensures.done tt) (g.met.M.Readable.now_counts _) c.a_file_is_loaded_or_refused.ensures.layout c.check_input.ensures.leaves
    (c.check_input.ensures.done done)

pub returns-clause-failed : goal.returns-clause-failed
returns-clause-failed g c = λ fault is other.
    fails_later c.args.seed c.in_ok-machine.machine c.in_ok-turns.turns (file_state g.M.Readable c.args.output.now) (file_state g.M.Readable c.save_machine.new.output) (file_state g.M.Readable c.check_input.new.input) (sink_state g.K.Sink c.args.console.now) (sink_state g.K.Sink c.save_machine.new.console) (sink_state g.K.Sink c.check_input.new.console) c.save_machine.new.orders (fault_in c.check_input.result) fault
    (record { image = 0; output = 0; input = g.M.Readable.faults c.save_machine.new.output; console = g.K.Sink.faults c.save_machine.new.console })
    (record { image = 0; output = 0; input = g.M.Readable.faults c.check_input.new.input; console = g.K.Sink.faults c.check_input.new.console })
    c.in_ok-machine.ensures.booted c.in_ok-turns.ensures.drawn (c.in_ok-save_machine.ensures.done tt) (g.met.M.Readable.now_counts _) c.check_input.ensures.leaves is other refl refl
    (c.check_input.ensures.cause (record { image = 0; input = 0; output = 0; console = 0 }) (record { image = 0; input = 0; output = 0; console = 0 }))
    (ap (λ k. sink_state g.K.Sink k) (c.check_input.ensures.silent (before_console _ fault is other)))

pub returns-clause-not_empty : goal.returns-clause-not_empty
returns-clause-not_empty g c =
    never_full
    (record { image = 0; output = 0; input = g.M.Readable.faults c.save_machine.new.output; console = g.K.Sink.faults c.save_machine.new.console })
    (record { image = 0; output = 0; input = g.M.Readable.faults c.check_input.new.input; console = g.K.Sink.faults c.check_input.new.console })
    (file_state g.M.Readable c.save_machine.new.output) (fault_in c.check_input.result) _
    (c.check_input.ensures.cause (record { image = 0; input = 0; output = 0; console = 0 }) (record { image = 0; input = 0; output = 0; console = 0 }))
