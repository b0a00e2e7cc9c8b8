-- A page less is left, and its bit is set.
use Rattle.std.proofs.Common.{All, refl, ap, subst, ◌∙◌}
use Rattle.page_sweep.specs.Sweep.{SweepData}
use Rattle.bg_saver.specs.Saver.{total_of}
use Rattle.bg_saver.specs.Inside.{IsOfBlock, progress_of}
use Rattle.bg_saver.specs.Turn.{after_fault}
use Rattle.bg_saver.proofs.Limits.{fault_limits, same_limits, swept}
use Rattle.bg_saver.proofs.progress.Progress.failed_at.Goals as goal

pub invariant_of-self : goal.invariant_of-self
invariant_of-self c = record {
  saver =
      let d = progress_of c.self.inside in
      let sweep = swept (total_of d) c.self.inside.sweep c.remove.new.self c.args.page c.self.invariant.pages c.remove.ensures.sweep c.remove.ensures.kept in
      same_limits (after_fault d c.args.page) _ _ _ _ (fault_limits d c.args.page c.self.invariant.saver sweep) c.set_bit.ensures.bits (ap (λ (s : SweepData). s.list) c.remove.ensures.sweep) refl refl;
  blocks = c.set_bit.ensures.count ∙ c.self.invariant.blocks;
  each = subst (λ n. All (IsOfBlock n) c.set_bit.new.bitmaps.items) c.pages.ensures.value c.set_bit.ensures.each;
  pages = ap (λ (s : SweepData). s.pages) c.remove.ensures.sweep ∙ c.self.invariant.pages;
  tail = c.self.invariant.tail;
  short = c.self.invariant.short;
}

pub returns-clause-limits : goal.returns-clause-limits
returns-clause-limits c =
    let d = progress_of c.self.inside in
    let sweep = swept (total_of d) c.self.inside.sweep c.remove.new.self c.args.page c.self.invariant.pages c.remove.ensures.sweep c.remove.ensures.kept in
    same_limits (after_fault d c.args.page) _ _ _ _ (fault_limits d c.args.page c.self.invariant.saver sweep) c.set_bit.ensures.bits (ap (λ (s : SweepData). s.list) c.remove.ensures.sweep) refl refl
