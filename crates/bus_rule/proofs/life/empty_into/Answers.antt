use Rattle.std.proofs.Common.{◌≡◌, suc, ◌+◌, ◌<◌, false, [], ◌∷◌, ◌++◌, get_or, take, sym, ◌∙◌, ap, arith}
use Rattle.std.proofs.lemmas.List.{get_or-set_other}
use Rattle.bus_rule.proofs.Lists.{take_place, flag_out}
use Rattle.bus_rule.proofs.life.empty_into.Goals as goal

pub loop-i-preserved : goal.loop-i-preserved
loop-i-preserved c =
    let i = c.loop-i.i in
    let was = c.loop-i.invariant in
    let taken = c.take.ensures.others in
    let end : c.slot_count-i-end.result ≡ c.args.closed.slots.len = c.slot_count-i-end.ensures in
    let flags = c.loop-i.closed.slots.filled in
    let inside : i < c.loop-i.closed.slots.len = (let t = c.loop-i-test.true in let n = was.count in omega (arith, t, n, end)) in
    let e : suc i ≡ i + 1 = omega arith in
    record {
      items = taken.0 ∙ was.items;
      count = taken.2 ∙ was.count;
      moved =
          c.push_reserved.ensures.items
          ∙ ap (λ xs. xs ++ c.take.result ∷ []) (was.moved ∙ ap (take i) (sym was.items))
          ∙ sym (take_place c.loop-i.closed.slots.items i c.take.result c.take.ensures.value)
          ∙ ap (λ n. take n c.loop-i.closed.slots.items) e
          ∙ ap (take (i + 1)) was.items;
      full = λ k from below.
          ap (λ fs. get_or fs k false) taken.1
          ∙ get_or-set_other flags i k false false (λ same. omega (arith, from, same))
          ∙ was.full k (omega (arith, from)) (let n = taken.2 in omega (arith, below, n));
      emptied = λ k below.
          ap (λ fs. get_or fs k false) taken.1
          ∙ flag_out flags i k (let n = c.loop-i.closed.slots.ok.1 in omega (arith, inside, n)) (was.emptied k) below;
      room = (let n = c.push_reserved.ensures.capacity in let r = was.room in omega (arith, n, r));
    }
