use Rattle.std.proofs.Common.{◌<◌, ◌+◌, ◌∷◌, [], length, sym, ◌∙◌, ap, subst, arith, length-append}
use Rattle.page_bus.specs.Room.{AreTracedFrom}
use Rattle.page_bus.proofs.Opened.{traced_more}
use Rattle.page_bus.proofs.room.traced_vcpus.Goals as goal

pub loop-k-preserved : goal.loop-k-preserved
loop-k-preserved c =
    let was = c.loop-k.invariant in
    let below : c.loop-k.k < length c.args.machine.now.vcpus = grind arith in
    let items = c.in_ok-push.ensures.items in
    record {
      traced = subst (AreTracedFrom c.args.machine.now c.args.run) (sym items)
          (traced_more c.args.machine.now c.args.run c.loop-k.traced.items c.loop-k.k c.in_ok-first.field-0 was.traced was.count below c.in_ok-first.ensures);
      count = ap length items ∙ (length-append c.loop-k.traced.items (c.in_ok-first.field-0 ∷ []) ∙ ap (λ n. n + 1) was.count);
    }
