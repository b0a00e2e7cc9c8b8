use Rattle.std.proofs.Common.{◌≡◌, ◌<◌, ◌≤◌, ◌+◌, All, ◌∷◌, [], length, get_or, set, sym, ◌∙◌, ap, subst, arith, length-append}
use Rattle.std.proofs.lemmas.List.{length-set}
use Rattle.flat_machine.specs.Order.{OrderData}
use Rattle.page_bus.specs.Merge.{IsNext}
use Rattle.page_bus.proofs.Merged.{IsMerged, all_placed, few, merges, more}
use Rattle.page_bus.proofs.merge.merge.Goals as goal

pub overflow_add-placed : goal.overflow_add-placed
overflow_add-placed c =
    let members = c.loop-who.order.members in
    let placed = c.loop-who.placed in
    let who = c.in-Some.who in
    let traced = c.args.traced.now.items in
    let found = c.in-Some.ensures.found in
    let next = subst (λ ts. IsNext ts placed who (length members)) c.deref.ensures.value (subst (λ n. IsNext c.deref.result.now placed who n) c.count.ensures found) in
    let f = c.requires.fits in
    let was = c.loop-who.invariant.merged f.0 f.1 in
    let least : get_or placed who 0 ≤ length members = few f.0 members placed traced f.1 was who next c.in-Some.ensures.some in
    let less : length members < length f.0 = more f.0 members placed traced f.1 was who next c.in-Some.ensures.some in
    let most = c.requires.most in
    let room = f.2 in
    grind (arith, least, less, most, room)

pub push-requires-clause-room : goal.push-requires-clause-room
push-requires-clause-room c =
    let members = c.loop-who.order.members in
    let placed = c.loop-who.placed in
    let who = c.in-Some.who in
    let traced = c.args.traced.now.items in
    let found = c.in-Some.ensures.found in
    let next = subst (λ ts. IsNext ts placed who (length members)) c.deref.ensures.value (subst (λ n. IsNext c.deref.result.now placed who n) c.count.ensures found) in
    let f = c.requires.fits in
    let was = c.loop-who.invariant.merged f.0 f.1 in
    let less : length members < length f.0 = more f.0 members placed traced f.1 was who next c.in-Some.ensures.some in
    let room = f.2 in
    let same = c.loop-who.invariant.room in
    omega (arith, less, room, same)

pub loop-who-smaller : goal.loop-who-smaller
loop-who-smaller c =
    let members = c.loop-who.order.members in
    let placed = c.loop-who.placed in
    let who = c.in-Some.who in
    let traced = c.args.traced.now.items in
    let found = c.in-Some.ensures.found in
    let next = subst (λ ts. IsNext ts placed who (length members)) c.deref.ensures.value (subst (λ n. IsNext c.deref.result.now placed who n) c.count.ensures found) in
    let f = c.requires.fits in
    let was = c.loop-who.invariant.merged f.0 f.1 in
    let less : length members < length f.0 = more f.0 members placed traced f.1 was who next c.in-Some.ensures.some in
    let room = f.2 in
    let longer : length c.push.new.self.members ≡ length members + 1 = ap (λ (o : OrderData). length o.members) c.push.ensures ∙ length-append members (who ∷ []) in
    omega (arith, less, room, longer)

pub loop-who-preserved : goal.loop-who-preserved
loop-who-preserved c =
    let members = c.loop-who.order.members in
    let placed = c.loop-who.placed in
    let who = c.in-Some.who in
    let traced = c.args.traced.now.items in
    let found = c.in-Some.ensures.found in
    let next = subst (λ ts. IsNext ts placed who (length members)) c.deref.ensures.value (subst (λ n. IsNext c.deref.result.now placed who n) c.count.ensures found) in
    record {
      room = ap (λ (o : OrderData). o.room) c.push.ensures ∙ c.loop-who.invariant.room;
      count = length-set placed who (get_or placed who 0 + 1) ∙ c.loop-who.invariant.count;
      merged = λ o fits.
          subst (λ ms. IsMerged o ms (set placed who (get_or placed who 0 + 1))) (sym (ap (λ (q : OrderData). q.members) c.push.ensures))
          (merges o members placed traced fits (c.loop-who.invariant.merged o fits) who next c.in-Some.ensures.some);
    }

pub returns : goal.returns
returns c = λ o fits.
    (let members = c.loop-who.order.members in
    let placed = c.loop-who.placed in
    let traced = c.args.traced.now.items in
    all_placed o members placed traced fits (c.loop-who.invariant.merged o fits)
    (subst (λ n. All (λ d. d.who < n) traced) (sym c.loop-who.invariant.count) c.requires.below)
    (λ who next.
    c.drew.ensures.none c.in_default.is who
    (subst (λ ts. IsNext ts placed who c.count.result) (sym c.deref.ensures.value) (subst (λ n. IsNext traced placed who n) (sym c.count.ensures) next))))
