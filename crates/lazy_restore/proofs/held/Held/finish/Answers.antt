use Rattle.std.proofs.Common.{◌≡◌, ◌∙◌, ap, sym, subst, length, arith}
use Rattle.ram_block.specs.Shape.{total_pages_of}
use Rattle.flat_machine.specs.Machine.{MachineData}
use Rattle.flat_machine.specs.Page.{joined}
use Rattle.lazy_restore.specs.Answers.{Finishes}
use Rattle.lazy_restore.specs.Lazy.{IsLazy, LazyData, machine_in}
use Rattle.lazy_restore.proofs.Finished.{finished}
use Rattle.lazy_restore.proofs.held.Held.finish.Goals as goal

pub returns-clause-finish : goal.returns-clause-finish
returns-clause-finish g c =
    let parts = c.into_parts-shape.ensures in
    let old = c.into_parts-shape.result.ram.items in
    let new = c.read_untouched.new.ram.items in
    let old_count : length old ≡ total_pages_of c.in-Some.machine.shape = grind arith in
    let new_count : length new ≡ total_pages_of c.in-Some.machine.shape = grind arith in
    let d : LazyData = record { machine = c.in-Some.machine; peek = c.self.inside.peek; touched = c.self.inside.touched.list } in
    let held = ap (λ (m : MachineData). record { machine = m; peek = c.self.inside.peek; touched = c.self.inside.touched.list }) (ap machine_in c.in-Some.is) in
    let is : d ≡ c.args.self = sym held ∙ c.self.view_is in
    let same : c.of.result ≡ record c.in-Some.machine { ram = joined new } =
    c.of.ensures.parts ∙ (λ i. record { shape = parts.shape i; ram = joined new; vcpus = parts.vcpus i; serial = parts.serial i; cmp = parts.timer i; clock = parts.clock i }) in
    subst (λ (x : LazyData). Finishes (g.M.Readable.told c.args.medium.now) x c.of.result) is
    (finished d (subst IsLazy held c.self.invariant.lazy) old new parts.ram parts.whole old_count new_count (g.M.Readable.told c.args.medium.now) c.of.result same
    c.in_default-read_untouched.ensures.rest c.of.ensures.limits)
