-- The words before the first clash go together with the others.
use Rattle.std.proofs.Common.{◌≡◌, ◌<◌, length, map, string_bytes, sym, ap, ◌∙◌, arith, below_more, slice_get, Some, true, false}
use Rattle.std.proofs.lemmas.List.{length-map}
use Rattle.vm_words.specs.declared.fault.UsageKind.TheVariants.{Value}
use Rattle.vm_words.specs.Line.{clash_at, is_clash}
use Rattle.vm_words.proofs.Faults.{first_wrong, none_wrong, clash_at-map}
use Rattle.vm_words.proofs.clash.first_clash.Goals as goal

pub returns-then-is_clash-clause-fault : goal.returns-then-is_clash-clause-fault
returns-then-is_clash-clause-fault c =
    let clash : is_clash c.args.command (map string_bytes c.args.rest.now) (string_bytes c.index-rest-i.result) ≡ true =
    ap (is_clash c.args.command (map string_bytes c.args.rest.now)) (sym c.as_str.ensures.value) ∙ sym c.if-is_clash.ensures in
    let wrong : clash_at c.args.command (map string_bytes c.args.rest.now) c.loop-i.i ≡ Some Value =
    clash_at-map string_bytes c.args.rest.now c.index-rest-i.result c.loop-i.i c.args.command true c.loop-i-test.true c.index-rest-i.is clash in
    sym (first_wrong (clash_at c.args.command (map string_bytes c.args.rest.now)) c.loop-i.i _ Value c.loop-i.invariant wrong (rw length-map c.loop-i-test.true))

pub loop-i-preserved : goal.loop-i-preserved
loop-i-preserved c =
    let clash : is_clash c.args.command (map string_bytes c.args.rest.now) (string_bytes c.index-rest-i.result) ≡ false =
    ap (is_clash c.args.command (map string_bytes c.args.rest.now)) (sym c.as_str.ensures.value) ∙ sym c.if-is_clash.ensures in
    below_more _ _ c.loop-i.invariant
    (clash_at-map string_bytes c.args.rest.now c.index-rest-i.result c.loop-i.i c.args.command false c.loop-i-test.true c.index-rest-i.is clash)

pub returns-clause-fault : goal.returns-clause-fault
returns-clause-fault c =
    sym (ap (λ faults. slice_get faults 0) (none_wrong (clash_at c.args.command (map string_bytes c.args.rest.now)) (length (map string_bytes c.args.rest.now))
    (λ k within. c.loop-i.invariant k (let below : k < length c.args.rest.now = rw length-map at within in omega arith))))
