-- The bits of a block are those of its bitmap.
use Rattle.std.proofs.Common.{◌*◌, ◌<◌, length, sym, ap, ◌∙◌, refl, arith}
use Rattle.ram_block.specs.Shape.{ShapeData}
use Rattle.page_bitmap.specs.Bitmap.{BitmapData}
use Rattle.file_plan.specs.Layout.{head_text}
use Rattle.bg_saver.specs.Saver.{SaverData, block_bits}
use Rattle.bg_saver.proofs.JoinedBits.{block_joined}
use Rattle.bg_saver.proofs.progress.Progress.put_head.Goals as goal

pub returns-clause-text : goal.returns-clause-text
returns-clause-text c =
    let s = c.self.inside in
    let within : c.args.block < length s.bitmaps.items = omega (arith, c.requires.block, c.self.invariant.blocks, ap (λ (d : SaverData). d.shape.blocks) c.self.view_is) in
    let bits = block_joined s.shape.pages s.bitmaps.items c.args.block (s.shape.pages * c.args.block) c.index.result.now c.self.invariant.each within refl in
    c.put_head.ensures
    ∙ ap (λ (shape : ShapeData). head_text shape c.args.block c.index.result.now.bits) c.of.ensures
    ∙ ap (head_text s.shape c.args.block) (ap (λ (b : BitmapData). b.bits) c.index.ensures ∙ sym bits)
    ∙ ap (λ (d : SaverData). head_text d.shape c.args.block (block_bits d c.args.block)) c.self.view_is
