use Rattle.std.proofs.Common.{not, ap, ◌∙◌}
use Rattle.std.specs.List.{list_all}
use Rattle.vm_report.specs.Ram.{is_zero_word}
use Rattle.vm_report.proofs.Zeros.{nonzero_words}
use Rattle.vm_report.proofs.ram.is_nonzero.Goals as goal

pub returns : goal.returns
returns c =
    ap not (c.are_zero.ensures ∙ ap (list_all is_zero_word) c.as_chunks.ensures.front) ∙ nonzero_words c.args.page.now c.requires
