use Rattle.page_peek.proofs.Refusals.{heads_or_refusal}
use Rattle.page_peek.proofs.laws.a_file_has_its_heads_or_a_refusal.Goals as goal

pub returns : goal.returns
returns c = heads_or_refusal
