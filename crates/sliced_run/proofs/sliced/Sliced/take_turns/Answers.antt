use Rattle.std.proofs.Common.{◌<◌, ◌∷◌, [], length, take, subst, arith}
use Rattle.sliced_run.specs.Sliced.{TurnsTaken}
use Rattle.sliced_run.proofs.Taken.{take_next, taken_next, there}
use Rattle.sliced_run.proofs.sliced.Sliced.take_turns.Goals as goal

pub loop-i-preserved : goal.loop-i-preserved
loop-i-preserved g c =
    let x = c.args.self.now in
    let z = c.take_turn_at.new.self in
    let turns = c.args.turns.now in
    let within : c.loop-i.i < length turns = omega (arith, c.loop-i-test.true, c.count-i-end.ensures) in
    let t = there turns c.loop-i.i within in
    subst (λ l. TurnsTaken g.M.Readable x.bus.instant x.bus.run l x z c.args.medium.now c.take_turn_at.new.medium) (take_next turns c.loop-i.i t.0 t.1)
    (taken_next g.M.Readable (take c.loop-i.i turns) (t.0 ∷ []) x.bus.instant x.bus.run x c.loop-i.self z c.args.medium.now c.loop-i.medium c.take_turn_at.new.medium
    c.loop-i.invariant (c.take_turn_at.ensures t.0 t.1))
