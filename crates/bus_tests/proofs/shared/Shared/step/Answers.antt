use Rattle.std.proofs.Common.{◌<◌, length, arith}
use Rattle.page_bus.proofs.Keys.{all_stepped_at}
use Rattle.bus_tests.proofs.shared.Shared.step.Goals as goal

pub returns : goal.returns
returns c =
    let s = c.args.self.now in
    let below : c.args.k < length s.passes.items = grind arith in
    all_stepped_at s.bus s.passes.items s.saver c.args.k c.index_mut.result.now c.try_step.new.pass c.requires below c.index_mut.ensures.value c.try_step.ensures.key
