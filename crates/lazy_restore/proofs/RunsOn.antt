-- Steps that were events are a run of the machine shown.
use Rattle.std.proofs.Common.{◌≡◌, ℕ, List, [], ◌∷◌, Some, Option, refl, sym, ◌∙◌, ap}
use Rattle.flat_machine.specs.Laws.{event_cell}
use Rattle.flat_machine.specs.Machine.{MachineData}
use Rattle.flat_machine.specs.Run.{run, run_on}
use Rattle.flat_machine.specs.Touched.{touched, touched_after, with_cell}
use Rattle.lazy_restore.specs.Answers.{Steps}
use Rattle.lazy_restore.specs.Lazy.{IsWhole, LazyData, shown}
use Rattle.lazy_restore.specs.Runs.{StepsBy}
use Rattle.lazy_restore.proofs.Stepped.{same_cell, whole_on}

-- what a step leaves whole
whole_step : (file : List ℕ) (d e : LazyData) (k : ℕ) → Steps (Some file) d k e → IsWhole file d → IsWhole file e
whole_step file d e k step whole = whole_on file d e step.shape step.peek whole

pub runs : (file : List ℕ) (d e : LazyData) (o : List ℕ) → IsWhole file d → StepsBy file d o e → run (shown file d) o ≡ Some (shown file e)
unfolding run_on
runs file d e [] whole same = ap (λ (x : LazyData). Some (shown file x)) (sym same)
runs file d e (k ∷ o) whole by =
    ap (λ (m : Option MachineData). run_on m o) (by.1.shown whole) ∙ runs file by.0 e o (whole_step file d by.0 k by.1 whole) by.2

-- the page of an event of the machine shown is that of the machine held
cell_shown : (file : List ℕ) (d : LazyData) (k : ℕ) → event_cell (shown file d) k ≡ event_cell d.machine k
unfolding shown
cell_shown file d k = same_cell d.machine (shown file d) k refl refl

touches_on : (file : List ℕ) (d e : LazyData) (o : List ℕ) → IsWhole file d → StepsBy file d o e → e.touched ≡ touched_after d.touched (Some (shown file d)) o
unfolding touched_after
touches_on file d e [] whole same = ap (λ (x : LazyData). x.touched) same
touches_on file d e (k ∷ o) whole by =
    touches_on file by.0 e o (whole_step file d by.0 k by.1 whole) by.2
    ∙ ap (λ (l : List ℕ). touched_after l (Some (shown file by.0)) o) (by.1.touched ∙ ap (with_cell d.touched) (sym (cell_shown file d k)))
    ∙ ap (λ (m : Option MachineData). touched_after (with_cell d.touched (event_cell (shown file d) k)) m o) (sym (by.1.shown whole))

pub touches : (file : List ℕ) (d e : LazyData) (o : List ℕ) → IsWhole file d → d.touched ≡ [] → StepsBy file d o e → e.touched ≡ touched (shown file d) o
touches file d e o whole none by = touches_on file d e o whole by ∙ ap (λ (l : List ℕ). touched_after l (Some (shown file d)) o) none
