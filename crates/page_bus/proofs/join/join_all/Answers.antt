use Rattle.std.proofs.Common.{◌≡◌, ◌<◌, ◌+◌, suc, All, ◌++◌, ◌∷◌, [], drop, length, map, take, sym, ◌∙◌, ap, subst, arith, length-append}
use Rattle.std.proofs.lemmas.List.{map-append}
use Rattle.std.proofs.lemmas.List.Elements.{All-append, All-cons, All-nil}
use Rattle.ram_block.specs.declared.shape.TheConstants.{MAX_VCPUS}
use Rattle.page_bus.specs.Joining.{joined_with, task_of_pass, traced_of_pass}
use Rattle.page_bus.specs.Passes.{VcpuPassData, task_of}
use Rattle.page_bus.specs.Traced.{TracedData, traced_of}
use Rattle.page_bus.proofs.JoinedAll.{can_join, join_more, next_left, take_more}
use Rattle.page_bus.proofs.Lists.{all_front}
use Rattle.page_bus.proofs.join.join_all.Goals as goal

pub join-requires-clause-can : goal.join-requires-clause-can
join-requires-clause-can c =
    let own = c.pass.invariant.pass in
    can_join c.loop-pass.seat.me c.pass.inside.seat.me c.args.seat.now.me.0 _ _ c.loop-pass.invariant.joined own.role own.none_held

pub loop-pass-preserved : goal.loop-pass-preserved
loop-pass-preserved c =
    let was = c.loop-pass.invariant in
    let all = c.args.passes.items in
    let n = length c.loop-pass.traced.items in
    let p = c.in-Some.pass in
    let own = c.pass.inside.seat.me in
    let next = next_left n c.loop-pass.passes.items c.pop.new.self.items all p c.in-Some.ensures.items was.left in
    let task : task_of own.0 ≡ task_of_pass p = ap task_of_pass c.pass.view_is in
    let one = c.pass.inside.traced in
    let items = c.push_reserved.ensures.items in
    let more : length c.push_reserved.new.self.items ≡ suc n = ap length items ∙ (let e = length-append c.loop-pass.traced.items (one ∷ []) in omega (arith, e)) in
    let its : one ≡ traced_of_pass p = c.pass.invariant.traced ∙ ap traced_of task in
    let below : one.who < MAX_VCPUS = (let h = c.number-limits.ensures.limits in let a = h.who in let b = h.shape.vcpus in grind (arith, a, b)) in
    record {
      table = c.join.ensures.table ∙ was.table;
      tables = all_front (λ (q : VcpuPassData). q.table ≡ c.args.bus.now.table.shared.table_id) c.pop.new.self.items (p ∷ [])
          (subst (All (λ (q : VcpuPassData). q.table ≡ c.args.bus.now.table.shared.table_id)) c.in-Some.ensures.items was.tables);
      left = sym (ap (λ k. drop k all) more ∙ next.1);
      joined = join_more c.loop-pass.seat.me own c.join.new.seat.me c.args.seat.now.me.0 c.args.seat.now.me.1 n all p was.joined c.pass.invariant.pass.role task next.0 c.join.ensures.joined
          ∙ ap (λ k. (joined_with c.args.seat.now.me.0 (map task_of_pass (take k all)), c.args.seat.now.me.1)) (sym more);
      traced = items
          ∙ ap (λ ts. ts ++ one ∷ []) was.traced
          ∙ ap (λ (d : TracedData). map traced_of_pass (take n all) ++ d ∷ []) its
          ∙ sym (map-append traced_of_pass (take n all) (p ∷ []))
          ∙ ap (map traced_of_pass) (sym (take_more n all p next.0))
          ∙ ap (λ k. map traced_of_pass (take k all)) (sym more);
      count =
          (let h = was.count in
          let less : length c.loop-pass.passes.items ≡ length c.pop.new.self.items + 1 = ap length c.in-Some.ensures.items ∙ length-append c.pop.new.self.items (p ∷ []) in
          grind (arith, h, less, more));
      room = (let k = c.push_reserved.ensures.capacity in let r = was.room in omega (arith, k, r));
      below = subst (All (λ (d : TracedData). d.who < MAX_VCPUS)) (sym items)
          (All-append (λ (d : TracedData). d.who < MAX_VCPUS) c.loop-pass.traced.items (one ∷ []) was.below (All-cons (λ (d : TracedData). d.who < MAX_VCPUS) one [] below (All-nil (λ (d : TracedData). d.who < MAX_VCPUS))));
    }
