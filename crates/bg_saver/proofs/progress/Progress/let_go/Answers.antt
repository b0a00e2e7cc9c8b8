-- A page less is left.
use Rattle.std.proofs.Common.{refl, ap, ◌∙◌}
use Rattle.page_sweep.specs.Sweep.{SweepData, without}
use Rattle.bg_saver.specs.Saver.{SaverData, IsSaver, total_of}
use Rattle.bg_saver.specs.Inside.{progress_of}
use Rattle.bg_saver.proofs.Limits.{let_go_limits, same_limits, swept}
use Rattle.bg_saver.proofs.progress.Progress.let_go.Goals as goal
use Rattle.bg_saver.proofs.progress.Progress.let_go.Goals.{After-remove}

limits : (c : After-remove) → IsSaver (record (progress_of c.self.inside) { left = c.remove.new.self.list })
limits c =
    let d = progress_of c.self.inside in
    let sweep = swept (total_of d) c.self.inside.sweep c.remove.new.self c.args.page c.self.invariant.pages c.remove.ensures.sweep c.remove.ensures.kept in
    same_limits (record d { left = without d.left c.args.page }) _ _ _ _ (let_go_limits d c.args.page c.self.invariant.saver (ap (λ (x : SaverData). x.end) c.self.view_is ∙ c.requires.failed) sweep)
    refl (ap (λ (s : SweepData). s.list) c.remove.ensures.sweep) refl refl

pub invariant_of-self : goal.invariant_of-self
invariant_of-self c = record {
  saver = limits c;
  blocks = c.self.invariant.blocks;
  each = c.self.invariant.each;
  pages = ap (λ (s : SweepData). s.pages) c.remove.ensures.sweep ∙ c.self.invariant.pages;
  tail = c.self.invariant.tail;
  short = c.self.invariant.short;
}

pub returns-clause-limits : goal.returns-clause-limits
returns-clause-limits c = limits c
