-- The bytes are those of the bits, since the bits past the last page are 0.
use Rattle.std.proofs.Common.{ap, ◌∙◌}
use Rattle.page_bitmap.specs.Bitmap.{BitmapData, bytes_of}
use Rattle.page_bitmap.proofs.Packed.{one_each, packed_bytes}
use Rattle.page_bitmap.proofs.bitmap.Bitmap.put_bytes.Goals as goal

pub returns-clause-bytes : goal.returns-clause-bytes
returns-clause-bytes c = c.copy_from_slice.ensures.after ∙ c.deref.ensures.value ∙ packed_bytes _ _ c.self.invariant ∙ ap (λ (d : BitmapData). bytes_of d.pages d.bits) c.self.view_is

pub returns-clause-kept : goal.returns-clause-kept
returns-clause-kept c = one_each _ _ _ c.self.view_is
