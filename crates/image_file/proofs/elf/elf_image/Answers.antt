-- The first fault of the file, or its image.
use Rattle.std.proofs.Common.{List, ℕ, Ok, sym, ap, ◌∙◌}
use Rattle.std.proofs.lemmas.Result.{err_from_is_err_and}
use Rattle.ram_block.specs.Shape.{ram_bytes_of}
use Rattle.image_file.specs.Elf.{memory}
use Rattle.image_file.proofs.Headers.{elf_of-header, elf_of-table, elf_of-ok}
use Rattle.image_file.proofs.elf.elf_image.Goals as goal

pub returns-in_err-check_file_header-clause-answer : goal.returns-in_err-check_file_header-clause-answer
returns-in_err-check_file_header-clause-answer c =
    let p = err_from_is_err_and c.from_residual.result c.from_residual.ensures.1 in
    rw (p.1, p.2) (elf_of-header c.args.file.now (ram_bytes_of c.args.shape.now) _ c.in_err-check_file_header.ensures.fault)

pub returns-in_err-len-clause-answer : goal.returns-in_err-len-clause-answer
returns-in_err-len-clause-answer c =
    let p = err_from_is_err_and c.from_residual-in_err-len.result c.from_residual-in_err-len.ensures.1 in
    rw (p.1, p.2) (elf_of-table c.args.file.now (ram_bytes_of c.args.shape.now) _ c.in_ok-check_file_header.ensures.fault c.in_err-len.ensures.fault)

pub returns-clause-answer : goal.returns-clause-answer
returns-clause-answer c =
    elf_of-ok c.args.file.now (ram_bytes_of c.args.shape.now) c.in_ok-check_file_header.ensures.fault c.in_ok-len.ensures.fault
    ∙ ap (λ (l : List ℕ). Ok l) (sym (c.in_ok-place_segments.ensures.bytes ∙ ap (memory c.args.file.now 0x80000000) c.in_ok-len.ensures.len))
