-- The words before the first wrong one pass, and are few.
use Rattle.std.proofs.Common.{◌≡◌, ◌<◌, ◌≤◌, length, map, take, string_bytes, sym, ap, ◌∙◌, arith, below_more, slice_get, Some}
use Rattle.std.proofs.lemmas.List.{length-map}
use Rattle.vm_words.specs.Line.{kind_at, word_kind}
use Rattle.vm_words.proofs.Faults.{first_wrong, none_wrong, kind_at-map}
use Rattle.vm_words.proofs.FewWords.{few_words}
use Rattle.vm_words.proofs.line.first_wrong_word.Goals as goal

pub overflow_cast-result : goal.overflow_cast-result
overflow_cast-result c =
    let few : c.loop-i.i ≤ 12 = few_words c.args.command (map string_bytes c.args.rest.now) c.loop-i.i (rw length-map c.loop-i.auto.i-end) c.loop-i.invariant in
    omega arith

pub overflow_add-result : goal.overflow_add-result
overflow_add-result c =
    let few : c.loop-i.i ≤ 12 = few_words c.args.command (map string_bytes c.args.rest.now) c.loop-i.i (rw length-map c.loop-i.auto.i-end) c.loop-i.invariant in
    omega arith

pub returns-in-Some-clause-fault : goal.returns-in-Some-clause-fault
returns-in-Some-clause-fault c =
    let wrong : kind_at c.args.command (map string_bytes c.args.rest.now) c.loop-i.i ≡ Some c.in-Some.kind =
    kind_at-map string_bytes c.args.rest.now c.index-rest-i.result c.loop-i.i c.args.command c.loop-i-test.true c.index-rest-i.is
    ∙ ap (word_kind c.args.command (map string_bytes (take c.loop-i.i c.args.rest.now))) (sym c.as_str.ensures.value) ∙ sym c.in-Some.ensures.value in
    sym (first_wrong (kind_at c.args.command (map string_bytes c.args.rest.now)) c.loop-i.i _ c.in-Some.kind c.loop-i.invariant wrong (rw length-map c.loop-i-test.true))

pub returns-in-Some-clause-index : goal.returns-in-Some-clause-index
returns-in-Some-clause-index c =
    let few : c.loop-i.i ≤ 12 = few_words c.args.command (map string_bytes c.args.rest.now) c.loop-i.i (rw length-map c.loop-i.auto.i-end) c.loop-i.invariant in
    omega arith

pub loop-i-preserved : goal.loop-i-preserved
loop-i-preserved c =
    below_more _ _ c.loop-i.invariant
    (kind_at-map string_bytes c.args.rest.now c.index-rest-i.result c.loop-i.i c.args.command c.loop-i-test.true c.index-rest-i.is
    ∙ ap (word_kind c.args.command (map string_bytes (take c.loop-i.i c.args.rest.now))) (sym c.as_str.ensures.value) ∙ sym c.word_kind.ensures.value ∙ c.in_default.is)

pub returns-clause-fault : goal.returns-clause-fault
returns-clause-fault c =
    sym (ap (λ faults. slice_get faults 0) (none_wrong (kind_at c.args.command (map string_bytes c.args.rest.now)) (length (map string_bytes c.args.rest.now))
    (λ k within. c.loop-i.invariant k (let below : k < length c.args.rest.now = rw length-map at within in omega arith))))

pub returns-clause-few : goal.returns-clause-few
returns-clause-few c =
    let few : c.loop-i.i ≤ 12 = few_words c.args.command (map string_bytes c.args.rest.now) c.loop-i.i (rw length-map c.loop-i.auto.i-end) c.loop-i.invariant in
    omega arith
