use Rattle.std.proofs.Common.{◌≡◌, ◌+◌, ◌*◌, ◌≤◌, length, vec_capacity, sym, ◌∙◌, ap, subst, arith}
use Rattle.ram_block.specs.Shape.{ShapeData, total_pages_of}
use Rattle.page_bus.specs.Closing.{AreAllOf, Closes}
use Rattle.page_bus.specs.Inside.{bus_of, saver_pass_of}
use Rattle.page_bus.specs.Merge.{FitsOrder, FitsVcpus}
use Rattle.page_bus.specs.Moves.{IsBareOf}
use Rattle.page_bus.proofs.Closed.{book, clock_is, fits_order, fits_vcpus, has_joined, it_closes, order_few, order_short, same_shape, vcpu_count, whole_now}
use Rattle.page_bus.proofs.bus.Bus.close.Goals as goal

pub close-requires-clause-joined : goal.close-requires-clause-joined
close-requires-clause-joined c =
    let bus = bus_of c.self.inside in
    let saver = saver_pass_of c.saver.inside in
    let passes = c.args.passes.items in
    let all = subst (AreAllOf bus passes) (sym c.saver.view_is) (subst (λ b. AreAllOf b passes c.args.saver) (sym c.self.view_is) c.requires) in
    let is = c.self.invariant.bus in
    let saving = c.saver.invariant.pass in
    let joined = has_joined bus passes saver is all saving c.join_all.new.seat.me _ c.join_all.ensures.joined in
    (book bus passes saver is all saving, joined)

pub merge-requires-clause-fits : goal.merge-requires-clause-fits
merge-requires-clause-fits c =
    let bus = bus_of c.self.inside in
    let saver = saver_pass_of c.saver.inside in
    let passes = c.args.passes.items in
    let all = subst (AreAllOf bus passes) (sym c.saver.view_is) (subst (λ b. AreAllOf b passes c.args.saver) (sym c.self.view_is) c.requires) in
    let is = c.self.invariant.bus in
    let saving = c.saver.invariant.pass in
    let joined = has_joined bus passes saver is all saving c.join_all.new.seat.me _ c.join_all.ensures.joined in
    let end = c.close.ensures (book bus passes saver is all saving) joined in
    let same : length bus.instant.vcpus ≡ c.self.inside.shape.vcpus = is.machine.vcpus ∙ ap (λ (s : ShapeData). s.vcpus) (sym c.self.invariant.shape) in (
      end.order,
      subst (FitsOrder end.order) (sym c.join_all.ensures.traced) (fits_order bus passes saver is all saving c.close.new.cells.items end),
      subst (λ n. length end.order ≤ n) (ap (λ v. 2 * bus.run * v) same ∙ sym c.self.invariant.order_room) (order_short bus passes saver is all saving c.close.new.cells.items end),
    )

pub place_vcpus-requires : goal.place_vcpus-requires
place_vcpus-requires c =
    let bus = bus_of c.self.inside in
    let saver = saver_pass_of c.saver.inside in
    let passes = c.args.passes.items in
    let all = subst (AreAllOf bus passes) (sym c.saver.view_is) (subst (λ b. AreAllOf b passes c.args.saver) (sym c.self.view_is) c.requires) in
    let is = c.self.invariant.bus in
    let saving = c.saver.invariant.pass in
    let joined = has_joined bus passes saver is all saving c.join_all.new.seat.me _ c.join_all.ensures.joined in
    let end = c.close.ensures (book bus passes saver is all saving) joined in
    let count = vcpu_count bus passes saver is all saving c.close.new.cells.items end in
    let were = ap length c.self.invariant.vcpus in
    (end.now.vcpus, grind (arith, count, were), subst (FitsVcpus end.now.vcpus) (sym c.join_all.ensures.traced) (fits_vcpus bus passes saver is all saving c.close.new.cells.items end))

pub overflow_add-clock : goal.overflow_add-clock
overflow_add-clock c =
    let bus = bus_of c.self.inside in
    let saver = saver_pass_of c.saver.inside in
    let passes = c.args.passes.items in
    let all = subst (AreAllOf bus passes) (sym c.saver.view_is) (subst (λ b. AreAllOf b passes c.args.saver) (sym c.self.view_is) c.requires) in
    let is = c.self.invariant.bus in
    let saving = c.saver.invariant.pass in
    let joined = has_joined bus passes saver is all saving c.join_all.new.seat.me _ c.join_all.ensures.joined in
    let end = c.close.ensures (book bus passes saver is all saving) joined in
    let fits = subst (FitsOrder end.order) (sym c.join_all.ensures.traced) (fits_order bus passes saver is all saving c.close.new.cells.items end) in
    let order = c.merge.ensures end.order fits in
    let short = order_few bus passes saver is all saving c.close.new.cells.items end in
    let members = c.count.ensures ∙ ap length order in
    let clock = c.self.invariant.clock in
    let most = is.rest.clock in
    grind (arith, short, members, clock, most)

pub out_of_cells-requires : goal.out_of_cells-requires
out_of_cells-requires c =
    let bus = bus_of c.self.inside in
    let saver = saver_pass_of c.saver.inside in
    let passes = c.args.passes.items in
    let all = subst (AreAllOf bus passes) (sym c.saver.view_is) (subst (λ b. AreAllOf b passes c.args.saver) (sym c.self.view_is) c.requires) in
    let is = c.self.invariant.bus in
    let saving = c.saver.invariant.pass in
    let joined = has_joined bus passes saver is all saving c.join_all.new.seat.me _ c.join_all.ensures.joined in
    let end = c.close.ensures (book bus passes saver is all saving) joined in
    let fits = subst (FitsOrder end.order) (sym c.join_all.ensures.traced) (fits_order bus passes saver is all saving c.close.new.cells.items end) in
    let order = c.merge.ensures end.order fits in
    let short = order_few bus passes saver is all saving c.close.new.cells.items end in
    let members = c.count.ensures ∙ ap length order in
    let clock = c.self.invariant.clock in
    let most = is.rest.clock in
    let now = clock_is bus passes saver is all saving c.close.new.cells.items end in
    let were = ap length c.self.invariant.vcpus in
    let count = vcpu_count bus passes saver is all saving c.close.new.cells.items end in
    let vcpus = c.place_vcpus.ensures end.now.vcpus (grind (arith, count, were)) (subst (FitsVcpus end.now.vcpus) (sym c.join_all.ensures.traced) (fits_vcpus bus passes saver is all saving c.close.new.cells.items end)) in
    let shape = c.self.invariant.shape ∙ sym (same_shape bus passes saver is all saving c.close.new.cells.items end) in
    let bare_of : IsBareOf end.now (record { shape = c.self.inside.shape; vcpus = c.place_vcpus.new.vcpus; clock = c.self.inside.clock + c.count.result; ram = c.self.inside.ram }) = record {
      shape = shape;
      vcpus = vcpus;
      clock = omega (arith, clock, members, now);
      ram = c.self.invariant.ram;
      room = subst (λ (s : ShapeData). total_pages_of s ≤ vec_capacity c.self.inside.ram) shape c.self.invariant.ram_room;
    } in
    let whole = whole_now bus passes saver is all saving c.close.new.cells.items end _ (omega (arith, now, short, most)) bare_of in
    whole

pub returns-clause-closes : goal.returns-clause-closes
returns-clause-closes c =
    let bus = bus_of c.self.inside in
    let saver = saver_pass_of c.saver.inside in
    let passes = c.args.passes.items in
    let all = subst (AreAllOf bus passes) (sym c.saver.view_is) (subst (λ b. AreAllOf b passes c.args.saver) (sym c.self.view_is) c.requires) in
    let is = c.self.invariant.bus in
    let saving = c.saver.invariant.pass in
    let joined = has_joined bus passes saver is all saving c.join_all.new.seat.me _ c.join_all.ensures.joined in
    let end = c.close.ensures (book bus passes saver is all saving) joined in
    let fits = subst (FitsOrder end.order) (sym c.join_all.ensures.traced) (fits_order bus passes saver is all saving c.close.new.cells.items end) in
    let order = c.merge.ensures end.order fits in
    let short = order_few bus passes saver is all saving c.close.new.cells.items end in
    let members = c.count.ensures ∙ ap length order in
    let clock = c.self.invariant.clock in
    let most = is.rest.clock in
    let now = clock_is bus passes saver is all saving c.close.new.cells.items end in
    let were = ap length c.self.invariant.vcpus in
    let count = vcpu_count bus passes saver is all saving c.close.new.cells.items end in
    let vcpus = c.place_vcpus.ensures end.now.vcpus (grind (arith, count, were)) (subst (FitsVcpus end.now.vcpus) (sym c.join_all.ensures.traced) (fits_vcpus bus passes saver is all saving c.close.new.cells.items end)) in
    let shape = c.self.invariant.shape ∙ sym (same_shape bus passes saver is all saving c.close.new.cells.items end) in
    let bare_of : IsBareOf end.now (record { shape = c.self.inside.shape; vcpus = c.place_vcpus.new.vcpus; clock = c.self.inside.clock + c.count.result; ram = c.self.inside.ram }) = record {
      shape = shape;
      vcpus = vcpus;
      clock = omega (arith, clock, members, now);
      ram = c.self.invariant.ram;
      room = subst (λ (s : ShapeData). total_pages_of s ≤ vec_capacity c.self.inside.ram) shape c.self.invariant.ram_room;
    } in
    let whole = whole_now bus passes saver is all saving c.close.new.cells.items end _ (omega (arith, now, short, most)) bare_of in
    let machine = c.out_of_cells.ensures.machine whole in
    subst (λ b. Closes b passes c.args.saver c.out_of_cells.result c.merge.new.order.members) c.self.view_is
    (subst (λ s. Closes bus passes s c.out_of_cells.result c.merge.new.order.members) c.saver.view_is
    (it_closes bus passes saver is all saving c.close.new.cells.items end c.out_of_cells.result c.merge.new.order.members machine order))
