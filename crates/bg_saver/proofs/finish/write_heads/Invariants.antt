use Rattle.bg_saver.specs.Steps.{AllGoWell, head_calls}
use Rattle.bg_saver.proofs.finish.write_heads.Given as goal

abbrev pub invariant-loop-block : goal.invariant-loop-block
invariant-loop-block g l = AllGoWell g.M.Readable (head_calls l.progress l.block) l.initial.medium l.medium
