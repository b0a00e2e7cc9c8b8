use Rattle.std.proofs.Common.{ap, ◌∙◌, ◌%◌, ◌^◌}
use Rattle.std.specs.Int.{from_le_bytes, w64}
use Rattle.std.specs.List.{sum_by}
use Rattle.flat_machine.specs.Sum.{sum_of_words}
use Rattle.flat_machine.proofs.sum.sum_bytes.Goals as goal

pub returns : goal.returns
unfolding sum_of_words
returns c = c.sum_words.ensures ∙ ap (λ words. sum_by (from_le_bytes w64) words % 2 ^ 64) c.as_chunks.ensures.front
