use Rattle.medium.specs.Members.{file_state}
use Rattle.vm_cli.specs.Outside.{outside_of}
use Rattle.vm_cli.proofs.Replays.{replayed_end, replayed_order, replayed_report}
use Rattle.vm_cli.proofs.laws.a_replay_of_a_record_prints_its_report.Goals as goal

pub returns-clause-same_order : goal.returns-clause-same_order
returns-clause-same_order g c = λ shape n serial image image_now other other_now console console_now printed printed_now end replayed left well.
    replayed_order shape n serial
    (outside_of image (file_state g.M.Readable c.args._input.now) (file_state g.M.Readable c.args._before.now) console)
    (outside_of image_now (file_state g.M.Readable c.args._input.now) (file_state g.M.Readable c.args._after.now) console_now)
    (outside_of other (file_state g.M.Readable c.args._order.now) (file_state g.M.Readable c.args._output.now) printed)
    (outside_of other_now (file_state g.M.Readable c.args._order_after.now) (file_state g.M.Readable c.args._output.now) printed_now) end replayed left well

pub returns-clause-same_report : goal.returns-clause-same_report
returns-clause-same_report g c = λ shape n serial image image_now other other_now console console_now printed printed_now end replayed left well.
    replayed_report shape n serial
    (outside_of image (file_state g.M.Readable c.args._input.now) (file_state g.M.Readable c.args._before.now) console)
    (outside_of image_now (file_state g.M.Readable c.args._input.now) (file_state g.M.Readable c.args._after.now) console_now)
    (outside_of other (file_state g.M.Readable c.args._order.now) (file_state g.M.Readable c.args._output.now) printed)
    (outside_of other_now (file_state g.M.Readable c.args._order_after.now) (file_state g.M.Readable c.args._output.now) printed_now) end replayed left well

pub returns-clause-no_other_end : goal.returns-clause-no_other_end
returns-clause-no_other_end g c = λ shape n serial image image_now other console console_now printed end left.
    replayed_end shape n serial
    (outside_of image (file_state g.M.Readable c.args._input.now) (file_state g.M.Readable c.args._before.now) console)
    (outside_of image_now (file_state g.M.Readable c.args._input.now) (file_state g.M.Readable c.args._after.now) console_now)
    (outside_of other (file_state g.M.Readable c.args._order.now) (file_state g.M.Readable c.args._output.now) printed) end left
