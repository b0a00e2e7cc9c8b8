use Rattle.std.proofs.Common.{◌≡◌, ℕ, ◌+◌, ◌*◌, ◌∙◌, sym, subst, length, get_or, Bool, false, true, arith}
use Rattle.loader.specs.Frame.{is_cut}
use Rattle.loader.proofs.CutPages.{cut_here}
use Rattle.loader.proofs.pages.read_pages.Goals as goal

pub returns-in-Err-clause-whole : goal.returns-in-Err-clause-whole
returns-in-Err-clause-whole g c = λ file refusal told none is.
    let raw = c.in-Err.ensures.refused file refusal (c.loop-p.invariant.leaves.told ∙ told) is in
    let at = subst (λ (k : ℕ). is_cut (length file) (c.args.first + 4096 * k) c.test.result ≡ true) c.from.ensures raw in
    let cut : is_cut (length file) (c.args.first + 4096 * c.loop-p.p) (get_or c.args.bits.now.bits c.loop-p.p false) ≡ true =
    subst (λ (b : Bool). is_cut (length file) (c.args.first + 4096 * c.loop-p.p) b ≡ true) c.test.ensures.bit at in
    let within = c.loop-p.invariant.bits in
    let here = cut_here (length file) c.args.first c.loop-p.p c.args.bits.now.bits (omega (arith, within)) cut in
    let both = sym none ∙ c.loop-p.invariant.cut file told ∙ here in
    (cc)
