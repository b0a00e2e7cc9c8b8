use Rattle.std.proofs.Common.{inl, inr, ◌+◌, arith}
use Rattle.sliced_run.proofs.Taken.{round_call}
use Rattle.sliced_run.proofs.sliced.Sliced.step.Goals as goal

pub returns-in-Idle-clause-turn : goal.returns-in-Idle-clause-turn
returns-in-Idle-clause-turn c start events over so_far =
    let x = c.args.self.now in
    round_call x.bus.instant x.bus.run start _ x c.try_step.new.self c.args.k events (events + 0) c.try_step.result c.self.view_is so_far over c.try_step.ensures c.requires.vcpu (inl (c.in-Idle.is, omega arith))

pub returns : goal.returns
returns c = record {
  most = omega arith;
  turn = λ start events over so_far.
      (let x = c.args.self.now in
      round_call x.bus.instant x.bus.run start _ x c.try_step.new.self c.args.k events (events + 1) c.try_step.result c.self.view_is so_far over c.try_step.ensures c.requires.vcpu (inr (omega arith)));
}
