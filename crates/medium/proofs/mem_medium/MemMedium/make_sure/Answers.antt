use Rattle.std.proofs.Common.{◌≡◌, List, [], length, ap, ◌∙◌, arith}
use Rattle.medium.specs.declared.write_log.Write.{Write}
use Rattle.medium.specs.Log.{events_of}
use Rattle.medium.specs.Memory.{made_sure}
use Rattle.medium.proofs.Data.{same_data}
use Rattle.medium.proofs.Log.{record_mark, length-marked, events_marked}
use Rattle.medium.proofs.mem_medium.MemMedium.make_sure.Goals as goal

pub invariant_of-self : goal.invariant_of-self
invariant_of-self c =
    let m = c.self.inside in
    let kept = c.self.invariant in
    let long = ap length c.mark.ensures.marked ∙ length-marked m.log.items in
    let all : c.len-self-inside.result ≡ length m.log.items = omega (arith, c.mark.new.log.ok) in (
      rw (c.mark.ensures.marked, all) (record_mark m.first.items m.bytes.items m.log.items m.joined.items m.durable kept.0),
      kept.1,
      kept.2,
      record { within = omega (arith, kept.3.within); reserved = omega (arith, kept.3.reserved, c.mark.ensures.capacity) },
    )

pub returns : goal.returns
returns c =
    let m = c.self.inside in
    same_data m.first.items m.room m.writes _ _ _ _ _ _ (ap (λ (l : List Write). events_of l m.joined.items []) c.mark.ensures.marked ∙ events_marked m.log.items m.joined.items) c.pass.ensures c.saturating_add-self-inside.ensures
    ∙ ap made_sure c.self.view_is
