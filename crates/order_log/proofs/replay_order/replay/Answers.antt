use Rattle.std.proofs.Common.{Some}
use Rattle.order_log.proofs.Runs.{halts_nowhere}
use Rattle.order_log.proofs.replay_order.replay.Goals as goal

pub returns-in-None-clause-all_made : goal.returns-in-None-clause-all_made
returns-in-None-clause-all_made c = halts_nowhere 0 (Some c.args.machine) c.args.order.now.members c.run_order.new.machine c.in-None.ensures.ran
