use Rattle.std.proofs.Common.{◌<◌, ap, refl}
use Rattle.page_bitmap.specs.Bitmap.{BitmapData}
use Rattle.page_bitmap.proofs.Bits.{length-bits_of}
use Rattle.page_bitmap.proofs.Packed.{set_packed, set_bits}
use Rattle.page_bitmap.proofs.bitmap.Bitmap.set.Goals as goal

pub invariant_of-self : goal.invariant_of-self
invariant_of-self c =
    let below : c.args.p < c.self.inside.pages = rw (ap (λ (d : BitmapData). d.pages) c.self.view_is) c.requires in
    set_packed _ _ _ _ c.self.invariant below c.index_mut.ensures.value

pub returns-clause-bits : goal.returns-clause-bits
returns-clause-bits c =
    let below : c.args.p < c.self.inside.pages = rw (ap (λ (d : BitmapData). d.pages) c.self.view_is) c.requires in
    rw (← c.self.view_is, set_bits _ _ _ _ c.self.invariant below c.index_mut.ensures.value) refl

pub returns-clause-kept : goal.returns-clause-kept
returns-clause-kept c = length-bits_of _ _
