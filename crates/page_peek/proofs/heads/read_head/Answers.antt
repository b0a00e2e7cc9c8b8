use Rattle.std.proofs.Common.{◌≡◌, ◌∙◌, ◌-◌, ◌+◌, ap, length, refl, arith}
use Rattle.ram_block.specs.Shape.{ShapeData}
use Rattle.page_bitmap.specs.Bitmap.{BitmapData, byte_len_of}
use Rattle.file_plan.specs.Plan.{head_len_of}
use Rattle.page_peek.proofs.HeadPieces.{bits_read}
use Rattle.page_peek.proofs.heads.read_head.Goals as goal

pub returns-clause-head : goal.returns-clause-head
returns-clause-head g c = λ file told.
    let piece = c.in_default-read_piece.ensures.piece file told in
    let pages : c.in-Ok.bits.pages ≡ c.args.shape.now.pages = ap (λ (b : BitmapData). b.pages) c.in-Ok.ensures ∙ c.pages.ensures.value in
    let n = c.head_len-len.result - c.byte_len.result in
    let ends : n + byte_len_of c.args.shape.now.pages ≡ head_len_of c.args.shape.now.pages c.args.block =
    omega (arith, c.head_len-len.ensures.len, c.byte_len.ensures.len, pages, ap (λ (t : ShapeData). t.pages) c.of-plan.ensures) in
    bits_read file c.read_piece.new.piece c.args.shape.now c.of-plan.result c.args.block n (length c.read_piece.new.piece - n) c.in-Ok.bits.pages c.get_bytes.new.self c.of-plan.ensures pages ends piece
    refl c.get_bytes.ensures.bits
