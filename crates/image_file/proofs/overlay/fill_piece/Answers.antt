-- The segments in their order, from the last that has the whole piece.
use Rattle.std.proofs.Common.{◌≡◌, ◌+◌, ◌<◌, length, slice_index, sym, ap, subst, ◌∙◌, arith, rules, if◌then◌else◌}
use Rattle.std.specs.Prelude.{replicate}
use Rattle.std.proofs.lemmas.List.{get_or-replicate}
use Rattle.image_file.specs.declared.program_header.ProgramHeader.{ProgramHeader}
use Rattle.image_file.specs.Elf.{covers, segment_byte, memory_byte, memory, e_phnum}
use Rattle.image_file.proofs.Segments.{first_none, first_within, memory_byte-none, placed_more, memory-from}
use Rattle.image_file.proofs.overlay.fill_piece.Goals as goal

pub loop-j-init : goal.loop-j-init
loop-j-init c = λ k within later.
    let zeros : c.fill.new.self ≡ replicate (length c.args.piece.now) 0 = search rules in
    let none : c.last_over-first.result ≡ 0 = first_none _ later in
    let inside : k < length c.args.piece.now = omega (arith, c.fill.ensures.len) in
    ap (λ l. slice_index l k) zeros ∙ get_or-replicate (length c.args.piece.now) k 0 0 inside ∙ sym (memory_byte-none c.args.file.now (c.args.from + k))
    ∙ ap (λ j. memory_byte c.args.file.now j (c.args.from + k)) (sym none)

pub loop-j-preserved : goal.loop-j-preserved
loop-j-preserved c = λ k within later.
    let file = c.args.file.now in
    let address = c.args.from + k in
    let inside : k < length c.loop-j.piece = omega (arith, c.put_segment.auto.piece) in
    let new = slice_index c.put_segment.new.piece k in
    let old = slice_index c.loop-j.piece k in
    let put = subst (λ (h : ProgramHeader). new ≡ (if covers h address then segment_byte file h address else old)) c.of.ensures (c.put_segment.ensures k inside) in
    placed_more file c.last_over-first.result c.loop-j.j address old new put
    (λ some. c.last_over-first.ensures.over some address (omega arith) (omega (arith, inside, c.loop-j.auto.piece, c.fill.ensures.len)))
    (c.loop-j.invariant k inside) later

pub returns : goal.returns
returns c =
    let file = c.args.file.now in
    let all : c.loop-j.j ≡ e_phnum file = omega (arith, first_within c.last_over-first.result (e_phnum file) c.last_over-first.ensures.within, c.header_count-count.ensures, c.loop-j.auto.j, c.loop-j.auto.j-end, c.loop-j-test.false) in
    memory-from file c.loop-j.piece c.args.from
    (λ k within. c.loop-j.invariant k within (λ some. omega (arith, c.last_over-first.ensures.within some)) ∙ ap (λ j. memory_byte file j (c.args.from + k)) all)
    ∙ ap (memory file c.args.from) (c.loop-j.auto.piece ∙ c.fill.ensures.len)
