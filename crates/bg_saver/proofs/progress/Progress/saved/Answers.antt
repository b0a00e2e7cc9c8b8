-- A page less is left, and one more is counted.
use Rattle.std.proofs.Common.{◌≡◌, ◌<◌, All, true, sym, ap, subst, ◌∙◌}
use Rattle.ram_block.specs.PageLinks.{is_listed}
use Rattle.page_sweep.specs.Sweep.{SweepData}
use Rattle.bg_saver.specs.Saver.{SaverData, total_of}
use Rattle.bg_saver.specs.Inside.{IsOfBlock, progress_of}
use Rattle.bg_saver.specs.Turn.{after_save}
use Rattle.bg_saver.proofs.Limits.{saved_limits, same_limits, swept}
use Rattle.bg_saver.proofs.progress.Progress.saved.Goals as goal
use Rattle.bg_saver.proofs.progress.Progress.saved.Goals.{After-count}

page_within : (c : After-count) → c.args.taken.page < total_of (progress_of c.self.inside)
page_within c = subst (λ (d : SaverData). c.args.taken.page < total_of d) (sym c.self.view_is) c.requires.page

here : (c : After-count) → is_listed c.self.inside.sweep.list c.args.taken.page ≡ true
here c = ap (λ (d : SaverData). is_listed d.left c.args.taken.page) c.self.view_is ∙ c.requires.left

pub invariant_of-self : goal.invariant_of-self
invariant_of-self c = record {
  saver =
      let d = progress_of c.self.inside in
      let sweep = swept (total_of d) c.self.inside.sweep c.remove.new.self c.args.taken.page c.self.invariant.pages c.remove.ensures.sweep c.remove.ensures.kept in
      same_limits (after_save d c.args.taken c.args.zeros) _ _ _ _ (saved_limits d c.args.taken.page c.self.invariant.saver (ap (λ (x : SaverData). x.end) c.self.view_is ∙ c.requires.runs) (page_within c) (here c) sweep c.args.taken.picked c.args.zeros) c.set_bit.ensures.bits (ap (λ (s : SweepData). s.list) c.remove.ensures.sweep) c.count.ensures.counts c.count.ensures.faulted;
  blocks = c.set_bit.ensures.count ∙ c.self.invariant.blocks;
  each = subst (λ n. All (IsOfBlock n) c.set_bit.new.bitmaps.items) c.pages.ensures.value c.set_bit.ensures.each;
  pages = ap (λ (s : SweepData). s.pages) c.remove.ensures.sweep ∙ c.self.invariant.pages;
  tail = c.self.invariant.tail;
  short = c.self.invariant.short;
}

pub returns-clause-limits : goal.returns-clause-limits
returns-clause-limits c =
    let d = progress_of c.self.inside in
    let sweep = swept (total_of d) c.self.inside.sweep c.remove.new.self c.args.taken.page c.self.invariant.pages c.remove.ensures.sweep c.remove.ensures.kept in
    same_limits (after_save d c.args.taken c.args.zeros) _ _ _ _ (saved_limits d c.args.taken.page c.self.invariant.saver (ap (λ (x : SaverData). x.end) c.self.view_is ∙ c.requires.runs) (page_within c) (here c) sweep c.args.taken.picked c.args.zeros) c.set_bit.ensures.bits (ap (λ (s : SweepData). s.list) c.remove.ensures.sweep) c.count.ensures.counts c.count.ensures.faulted
