-- The links of all pages, of which there may be none.
use Rattle.page_sweep.proofs.Full.{full_empty, full_some}
use Rattle.page_sweep.proofs.sweep.Sweep.full.Goals as goal
use Rattle.page_sweep.proofs.sweep.Sweep.full.Goals.{then-pages-eq0, else-pages-eq0}

pub invariant_of-result : goal.invariant_of-result
invariant_of-result c = elim c.if-pages-eq0.branch [
  | then-pages-eq0 w ↦ rw w.first-is (full_empty _ _ _ c.in_ok-links_up.ensures c.in_ok-links_down.ensures w.if-pages-eq0.true).linked
  | else-pages-eq0 w ↦ rw w.first-is (full_some _ _ _ c.in_ok-links_up.ensures c.in_ok-links_down.ensures w.if-pages-eq0.false).linked
]

pub returns : goal.returns
returns c = elim c.if-pages-eq0.branch [
  | then-pages-eq0 w ↦ rw w.first-is (full_empty _ _ _ c.in_ok-links_up.ensures c.in_ok-links_down.ensures w.if-pages-eq0.true).view
  | else-pages-eq0 w ↦ rw w.first-is (full_some _ _ _ c.in_ok-links_up.ensures c.in_ok-links_down.ensures w.if-pages-eq0.false).view
]
