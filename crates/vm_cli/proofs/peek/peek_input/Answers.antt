-- The heads, and then the pages of the range.
use Rattle.std.proofs.Common.{rules, ◌/◌, ◌%◌, [], ◌∷◌, refl, arith}
use Rattle.medium.specs.Members.{file_state}
use Rattle.vm_cli.specs.Answer.{fault_in}
use Rattle.vm_cli.specs.Jobs.Common.{print_step}
use Rattle.vm_cli.specs.Jobs.Peek.{peek_steps}
use Rattle.vm_cli.specs.Steps.{HasCause}
use Rattle.vm_cli.proofs.Causes.{ended_cause}
use Rattle.vm_cli.proofs.Jobs.{failed_with}
use Rattle.vm_cli.proofs.PeekEnds.{range_read, range_unread}
use Rattle.vm_cli.proofs.peek.peek_input.Goals as goal

pub returns-in_err-bytes-clause-cause : goal.returns-in_err-bytes-clause-cause
returns-in_err-bytes-clause-cause g c = λ old new.
    ended_cause (record old { input = g.M.Readable.faults c.args.input.now; console = g.K.Sink.faults c.args.console.now }) (record new { input = g.M.Readable.faults c.read_pages.new.input; console = g.K.Sink.faults c.args.console.now })
    (peek_steps c.args.shape.now c.args.at c.args.len (file_state g.M.Readable c.args.input.now)) (fault_in c.from_residual-in_err-bytes.result) c.in_err-bytes.field-0.0 (failed_with _ _ c.from_residual-in_err-bytes.ensures)
    (range_unread (record old { input = g.M.Readable.faults c.args.input.now; console = g.K.Sink.faults c.args.console.now }) (record new { input = g.M.Readable.faults c.read_pages.new.input; console = g.K.Sink.faults c.args.console.now })
    c.args.shape.now c.args.at c.args.len (file_state g.M.Readable c.args.input.now) (file_state g.M.Readable c.open.new.medium) (file_state g.M.Readable c.read_pages.new.input) c.in_ok-peek.peek (c.args.at / 4096) (c.args.at % 4096) c.div_ceil-count.result c.in_err-bytes.field-0.0
    c.requires.is_shape c.in_ok-peek.ensures.shape (record { page = refl; begin = refl; count = omega (arith, c.div_ceil-count.ensures) }) c.in_ok-peek.ensures.answer c.in_ok-peek.ensures.leaves.told c.in_ok-peek.ensures.leaves.never_falls refl c.in_err-bytes.ensures.unread)

pub returns-clause-cause : goal.returns-clause-cause
returns-clause-cause g c = λ old new.
    let printed : HasCause (record old { input = g.M.Readable.faults c.args.input.now; console = g.K.Sink.faults c.args.console.now }) (record new { input = g.M.Readable.faults c.read_pages.new.input; console = g.K.Sink.faults c.put_rows.new.sink }) (print_step ∷ []) (fault_in c.map_err.result) = search rules in
    range_read (record old { input = g.M.Readable.faults c.args.input.now; console = g.K.Sink.faults c.args.console.now }) (record new { input = g.M.Readable.faults c.read_pages.new.input; console = g.K.Sink.faults c.put_rows.new.sink })
    c.args.shape.now c.args.at c.args.len (file_state g.M.Readable c.args.input.now) (file_state g.M.Readable c.open.new.medium) c.in_ok-peek.peek (c.args.at / 4096) (c.args.at % 4096) c.div_ceil-count.result c.in_ok-bytes.bytes.items
    (fault_in c.map_err.result) c.requires.is_shape c.in_ok-peek.ensures.shape (record { page = refl; begin = refl; count = omega (arith, c.div_ceil-count.ensures) }) c.in_ok-peek.ensures.answer c.in_ok-peek.ensures.leaves.told c.in_ok-bytes.ensures.pages printed
