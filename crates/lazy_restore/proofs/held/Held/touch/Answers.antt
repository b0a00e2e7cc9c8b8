use Rattle.std.proofs.Common.{arith}
use Rattle.lazy_restore.specs.Lazy.{machine_in}
use Rattle.lazy_restore.proofs.Asked.{few_touched}
use Rattle.lazy_restore.proofs.held.Held.touch.Goals as goal

pub overflow_add-self : goal.overflow_add-self
overflow_add-self g c =
    let few = few_touched (record { machine = machine_in c.self.inside.machine; peek = c.self.inside.peek; touched = c.self.inside.touched.list }) c.self.invariant.lazy in
    omega (arith, few, c.self.invariant.count)
