use Rattle.std.proofs.Common.{arith}
use Rattle.sliced_run.proofs.Taken.{step_next}
use Rattle.sliced_run.proofs.sliced.Sliced.round.Goals as goal

pub loop-k-preserved : goal.loop-k-preserved
loop-k-preserved c =
    let x = c.args.self.now in
    record {
      round = step_next x.bus.instant x.bus.run x c.loop-k.self c.step-events.new.self c.loop-k.k c.loop-k.events c.step-events.result c.loop-k.invariant.round c.requires.ended
          c.step-events.ensures.turn;
      few = omega (arith, c.loop-k.invariant.few, c.step-events.ensures.most);
    }
