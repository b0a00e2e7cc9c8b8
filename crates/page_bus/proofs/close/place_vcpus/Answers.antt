use Rattle.std.proofs.Common.{◌≡◌, ◌<◌, length, sym, ◌∙◌, ap, arith}
use Rattle.std.specs.List.{slice_get}
use Rattle.std.proofs.lemmas.Option.{slice_get_within}
use Rattle.page_bus.specs.PlantLaws.{same_lists}
use Rattle.page_bus.proofs.close.place_vcpus.Goals as goal

pub returns : goal.returns
returns c = λ fitting count fits.
    (let end = c.loop-one.invariant in
    let same : length c.loop-one.vcpus.items ≡ length fitting = (let e = end.count in grind (arith, e, count)) in
    same_lists c.loop-one.vcpus.items fitting same
    (λ k below.
    (let its = fits.each k (let h = same in omega (arith, below, h)) in
    let within = slice_get_within c.args.traced.now.items its.place its.one its.stands in
    let before : its.place < c.loop-one.one-index = grind (arith, within) in
    ap (slice_get c.loop-one.vcpus.items) (sym its.who) ∙ end.placed fitting fits its.place its.one before its.stands ∙ ap (slice_get fitting) its.who)))
