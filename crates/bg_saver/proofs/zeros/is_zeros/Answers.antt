-- A page is as many words of eight bytes.
use Rattle.std.proofs.Common.{◌∙◌, ap}
use Rattle.std.specs.List.{list_all}
use Rattle.bg_saver.specs.Writes.{is_zero_word}
use Rattle.bg_saver.proofs.ZeroWords.{zero_page_words}
use Rattle.bg_saver.proofs.zeros.is_zeros.Goals as goal

pub returns : goal.returns
returns c = c.are_zero.ensures ∙ ap (list_all is_zero_word) c.as_chunks.ensures.front ∙ zero_page_words c.args.page.now c.requires
