use Rattle.std.proofs.Common.{◌<◌, ap, get_or, ◌∙◌, false}
use Rattle.page_bitmap.specs.Bitmap.{BitmapData}
use Rattle.page_bitmap.proofs.Packed.{one_each, tests_bit}
use Rattle.page_bitmap.proofs.bitmap.Bitmap.test.Goals as goal

pub returns-clause-bit : goal.returns-clause-bit
returns-clause-bit c =
    let below : c.args.p < c.self.inside.pages = rw (ap (λ (d : BitmapData). d.pages) c.self.view_is) c.requires in
    tests_bit _ _ _ _ c.self.invariant below c.index.ensures ∙ ap (λ (d : BitmapData). get_or d.bits c.args.p false) c.self.view_is

pub returns-clause-kept : goal.returns-clause-kept
returns-clause-kept c = one_each _ _ _ c.self.view_is
