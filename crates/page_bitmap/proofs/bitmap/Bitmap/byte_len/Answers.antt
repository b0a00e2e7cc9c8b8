use Rattle.page_bitmap.proofs.Packed.{one_each}
use Rattle.page_bitmap.proofs.bitmap.Bitmap.byte_len.Goals as goal

pub returns-clause-kept : goal.returns-clause-kept
returns-clause-kept c = one_each _ _ _ c.self.view_is
