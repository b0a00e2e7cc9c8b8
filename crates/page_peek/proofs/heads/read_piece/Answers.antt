use Rattle.std.proofs.Common.{◌≡◌, ◌∙◌, ◌-◌, ap, List, ℕ, length, take, sym, arith}
use Rattle.mig_stream.specs.Pieces.{text_in}
use Rattle.page_peek.specs.Heads.{fixed_text, refused_text}
use Rattle.page_peek.proofs.HeadPieces.{fixed_front, head_by_text, piece_bytes}
use Rattle.page_peek.proofs.heads.read_piece.Goals as goal

pub returns-in-Err-expect-clause-refused : goal.returns-in-Err-expect-clause-refused
returns-in-Err-expect-clause-refused g c = λ file refusal told is.
    let here = c.in_default.ensures.piece file told in
    let text = c.in-Err-expect.ensures.refused file refusal (c.in_default.ensures.leaves.told ∙ told) is in
    let n = c.head_len-len.result - c.byte_len.result in
    let same : take n c.put_head.new.out ≡ fixed_text c.args.plan.now c.args.block =
    ap (take n) c.put_head.ensures ∙ fixed_front c.args.plan.now c.args.block n c.args.bits.now.bits (omega (arith, c.head_len-len.ensures.len, c.byte_len.ensures.len, c.requires.bits)) in
    head_by_text file c.take.new.piece c.args.plan.now c.args.block c.head_at-at.result (length c.args.piece.now) c.head_at-at.ensures.place c.requires.piece here
    ∙ ap (λ (t : List ℕ). refused_text c.head_at-at.result (text_in file c.head_at-at.result t)) (sym same) ∙ text

pub returns-clause-piece : goal.returns-clause-piece
returns-clause-piece g c = λ file told.
    let here = c.in_default.ensures.piece file told in
    let text = c.in_default-expect.ensures.found file (c.in_default.ensures.leaves.told ∙ told) in
    let n = c.head_len-len.result - c.byte_len.result in
    let same : take n c.put_head.new.out ≡ fixed_text c.args.plan.now c.args.block =
    ap (take n) c.put_head.ensures ∙ fixed_front c.args.plan.now c.args.block n c.args.bits.now.bits (omega (arith, c.head_len-len.ensures.len, c.byte_len.ensures.len, c.requires.bits)) in (
      head_by_text file c.take.new.piece c.args.plan.now c.args.block c.head_at-at.result (length c.args.piece.now) c.head_at-at.ensures.place c.requires.piece here
          ∙ ap (λ (t : List ℕ). refused_text c.head_at-at.result (text_in file c.head_at-at.result t)) (sym same)
          ∙ ap (refused_text c.head_at-at.result) text,
      piece_bytes file c.take.new.piece c.args.plan.now c.args.block c.head_at-at.result (length c.args.piece.now) c.head_at-at.ensures.place c.requires.piece here,
    )
