-- The memory, piece after piece.
use Rattle.std.proofs.Common.{◌+◌, ◌++◌, ◌≤◌, vec_len, length, take, sym, ap, ◌∙◌, arith}
use Rattle.std.proofs.lemmas.List.{length-take}
use Rattle.image_file.specs.Elf.{memory}
use Rattle.image_file.proofs.Segments.{memory-none, memory-append}
use Rattle.image_file.proofs.overlay.place_segments.Goals as goal

pub loop-image-init : goal.loop-image-init
loop-image-init c = record {
  piece = c.in_ok-piece.ensures;
  within = omega (arith, c.in_ok-image.ensures.len);
  bytes = c.in_ok-image.ensures.items ∙ memory-none c.args.file.now 0x80000000 (vec_len c.in_ok-image.image) c.in_ok-image.ensures.len;
}

pub loop-image-preserved : goal.loop-image-preserved
loop-image-preserved c =
    let file = c.args.file.now in
    let had = vec_len c.loop-image.image in
    let slice = take c.min-n.result c.deref_mut.result.now in
    let few : length slice ≤ c.min-n.result = omega (arith, length-take c.min-n.result c.deref_mut.result.now) in
    record {
      piece = omega (arith, c.loop-image.invariant.piece);
      within = omega (arith, few, c.in_ok-push_piece.ensures.len, c.min-n.ensures);
      bytes = c.in_ok-push_piece.ensures.bytes ∙ ap (λ l. l ++ memory file (0x80000000 + had) (length slice)) c.loop-image.invariant.bytes
          ∙ memory-append file 0x80000000 had (length slice) ∙ ap (memory file 0x80000000) (sym c.in_ok-push_piece.ensures.len);
    }
