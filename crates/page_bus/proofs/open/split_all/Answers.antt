use Rattle.std.proofs.Common.{◌≡◌, ◌+◌, ◌++◌, ◌∷◌, [], length, map, reverse, sym, ◌∙◌, ap, subst, arith, length-append}
use Rattle.std.proofs.lemmas.Option.{slice_get_within}
use Rattle.atomic_table.specs.Seated.{TableId}
use Rattle.bus_rule.specs.Tells.{PassMe}
use Rattle.page_bus.specs.Joining.{traced_of_pass}
use Rattle.page_bus.specs.Opening.{ArePassesFrom}
use Rattle.page_bus.specs.Passes.{VcpuPassData, task_of}
use Rattle.page_bus.specs.Traced.{traced_of}
use Rattle.page_bus.proofs.Opened.{can_split, is_first_pass, moved_more, next_is, next_of, passes_more, seat_from, split_more}
use Rattle.page_bus.proofs.open.split_all.Goals as goal

pub split-seat-requires-clause-can : goal.split-seat-requires-clause-can
split-seat-requires-clause-can c =
    let key = c.args.rule.now.table.shared.key in
    let i = key.instant.value in
    let passes = c.loop-traced.passes.items in
    let was = c.loop-traced.invariant in
    let d = c.in-Some.traced in
    let there = next_of traced_of_pass passes c.loop-traced.traced.items c.pop.new.self.items d c.args.traced.now.items c.in-Some.ensures.items was.moved in
    let at = c.requires.traced.each (length passes) d there in
    can_split c.args.seat.now.table_id i key.run key.protect c.loop-traced.seat.me (length passes) was.saver (slice_get_within i.vcpus (length passes) at.0 at.1)

pub invariant_of-push_reserved : goal.invariant_of-push_reserved
invariant_of-push_reserved c =
    let key = c.args.rule.now.table.shared.key in
    let i = key.instant.value in
    let passes = c.loop-traced.passes.items in
    let was = c.loop-traced.invariant in
    let d = c.in-Some.traced in
    let there = next_of traced_of_pass passes c.loop-traced.traced.items c.pop.new.self.items d c.args.traced.now.items c.in-Some.ensures.items was.moved in
    let at = c.requires.traced.each (length passes) d there in
    let table = c.args.seat.now.table_id in
    let me = c.split-seat.result.me in
    let is = next_is table i key.run key.protect c.loop-traced.seat.me me (length passes) at.0 was.saver c.split-seat.ensures.split at.1 in
    let same = c.split-seat.ensures.tables.1 ∙ was.table in
    record {
      pass = is_first_pass c.split-seat.result.table_id i key.run key.protect (length passes) at.0 me d is at.2 c.pages-limits.ensures.limits
          (ap (λ (id : TableId). id.slots) (same ∙ c.requires.table) ∙ c.args.rule.now.cells);
      out = ap (λ (m : PassMe). m.1) is;
      traced = at.2 ∙ sym (ap (λ (m : PassMe). traced_of (task_of m.0)) is);
      busy = sym (ap (λ (m : PassMe). m.0.busy) is);
    }

pub loop-traced-preserved : goal.loop-traced-preserved
loop-traced-preserved c =
    let key = c.args.rule.now.table.shared.key in
    let i = key.instant.value in
    let passes = c.loop-traced.passes.items in
    let was = c.loop-traced.invariant in
    let d = c.in-Some.traced in
    let there = next_of traced_of_pass passes c.loop-traced.traced.items c.pop.new.self.items d c.args.traced.now.items c.in-Some.ensures.items was.moved in
    let at = c.requires.traced.each (length passes) d there in
    let table = c.args.seat.now.table_id in
    let me = c.split-seat.result.me in
    let is = next_is table i key.run key.protect c.loop-traced.seat.me me (length passes) at.0 was.saver c.split-seat.ensures.split at.1 in
    let same = c.split-seat.ensures.tables.1 ∙ was.table in
    let p : VcpuPassData = record { table = c.split-seat.result.table_id; view = me.0 } in
    let items = c.push_reserved.ensures.items in
    let more : length c.push_reserved.new.self.items ≡ length passes + 1 = ap length items ∙ length-append passes (p ∷ []) in
    record {
      moved = ap (λ ps. map traced_of_pass ps ++ reverse c.pop.new.self.items) items
          ∙ moved_more traced_of_pass passes p c.loop-traced.traced.items c.pop.new.self.items d c.args.traced.now.items c.in-Some.ensures.items was.moved
          (ap (λ (m : PassMe). traced_of (task_of m.0)) is ∙ sym at.2);
      table = c.split-seat.ensures.tables.0 ∙ was.table;
      saver = split_more table i key.run key.protect c.loop-traced.seat.me c.split-seat.new.seat.me (length passes) was.saver c.split-seat.ensures.left
          ∙ ap (seat_from table i key.run key.protect) (sym more);
      passes = subst (λ ps. ArePassesFrom table i key.run key.protect (length ps) ps) (sym items)
          (passes_more table i key.run key.protect passes at.0 p was.passes at.1
          (ap (λ (id : TableId). record { table = id; view = me.0 }) same ∙ ap (λ (m : PassMe). record { table = table; view = m.0 }) is));
      room = (let n = c.push_reserved.ensures.capacity in let r = was.room in omega (arith, n, r));
      kept = (let n = c.pop.ensures.capacity in let r = was.kept in omega (arith, n, r));
    }
