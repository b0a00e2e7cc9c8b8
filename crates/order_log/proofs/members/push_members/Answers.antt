use Rattle.std.proofs.Common.{rules, ◌<◌, ◌≤◌, ◌∷◌, [], length, All, sym, ◌∙◌, arith, subst, ap}
use Rattle.std.proofs.lemmas.List.Elements.{All-nil, All-cons, All-append}
use Rattle.std.proofs.lemmas.List.{length-take}
use Rattle.flat_machine.specs.Order.{OrderData}
use Rattle.order_log.specs.Reading.{halves}
use Rattle.order_log.proofs.Halves.{halves_more, length-halves}
use Rattle.order_log.proofs.Named.{name_fails, name_goes_on, name_none}
use Rattle.order_log.proofs.members.push_members.Goals as goal

pub returns-in_err-expect_member-clause-answer : goal.returns-in_err-expect_member-clause-answer
returns-in_err-expect_member-clause-answer c =
    let few : c.args.count ≤ length (halves c.args.bytes.now) = omega (arith, c.requires.bytes, length-halves c.args.bytes.now) in
    let failed = name_fails c.args.vcpus c.loop-place.place c.args.count c.half-k.result (halves c.args.bytes.now) c.expect_member.result c.in_err-expect_member.field-0.0
    c.loop-place-test.true few c.half-k.ensures c.loop-place.invariant.answer c.expect_member.ensures.answer c.in_err-expect_member.was in
    search rules

pub loop-place-preserved : goal.loop-place-preserved
loop-place-preserved c =
    let so_far = c.loop-place.invariant in
    let few : c.args.count ≤ length (halves c.args.bytes.now) = omega (arith, c.requires.bytes, length-halves c.args.bytes.now) in
    let one = ap (λ (o : OrderData). o.members) c.push.ensures in
    record {
      members = one ∙ halves_more c.args.bytes.now c.loop-place.order.members c.loop-place.place c.half-k.result (omega (arith, c.loop-place-test.true, c.requires.bytes)) so_far.members c.half-k.ensures;
      room = ap (λ (o : OrderData). o.room) c.push.ensures ∙ so_far.room;
      named = subst (All (λ k. k < c.args.vcpus)) (sym one) (All-append (λ k. k < c.args.vcpus) c.loop-place.order.members (c.half-k.result ∷ []) so_far.named (All-cons (λ k. k < c.args.vcpus) c.half-k.result [] c.in_ok-expect_member.ensures.named (All-nil (λ k. k < c.args.vcpus))));
      answer = name_goes_on c.args.vcpus c.loop-place.place c.args.count c.half-k.result (halves c.args.bytes.now) c.expect_member.result c.loop-place-test.true few c.half-k.ensures so_far.answer c.expect_member.ensures.answer c.in_ok-expect_member.was;
    }

pub returns-clause-answer : goal.returns-clause-answer
returns-clause-answer c =
    sym (c.loop-place.invariant.answer ∙ name_none c.args.vcpus c.loop-place.place _ (omega (arith, c.loop-place-test.false, length-take c.args.count (halves c.args.bytes.now))))
