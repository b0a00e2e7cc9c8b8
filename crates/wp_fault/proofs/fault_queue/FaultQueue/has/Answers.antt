use Rattle.std.proofs.Common.{◌≡◌, ℕ, ◌<◌, ap, ◌∙◌, not, eqb}
use Rattle.ram_block.specs.PageLinks.{is_listed}
use Rattle.wp_fault.specs.Queue.{QueueData}
use Rattle.wp_fault.proofs.Linked.{tells}
use Rattle.std.proofs.lemmas.Grind.{get_or_default_zero}
use Rattle.wp_fault.proofs.fault_queue.FaultQueue.has.Goals as goal

pub returns-clause-queued : goal.returns-clause-queued
returns-clause-queued c =
    let f = c.self.inside in
    let n : f.pages ≡ c.args.self.now.pages = ap (λ (d : QueueData). d.pages) c.self.view_is in
    let below : c.args.p < f.pages = rw n c.requires in
    let k = c.self.invariant in
    let link = c.index.ensures ∙ get_or_default_zero f.next.items c.args.p c.index.result.now (rw k.same_length below) in
    ap (λ (x : ℕ). not (eqb x f.pages)) link ∙ tells f.pages f.next.items f.front f.last _ c.args.p k below
    ∙ ap (λ (d : QueueData). is_listed d.list c.args.p) c.self.view_is
