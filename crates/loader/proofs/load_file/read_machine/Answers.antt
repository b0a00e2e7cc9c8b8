use Rattle.std.proofs.Common.{◌≡◌, List, ℕ, ◌∙◌, ap, sym, subst, Err}
use Rattle.flat_machine.specs.Machine.{IsMachine, Rest}
use Rattle.flat_machine.specs.Page.{joined}
use Rattle.file_plan.specs.Layout.{Lay}
use Rattle.page_bitmap.specs.Bitmap.{BitmapData}
use Rattle.loader.specs.Loaded.{loaded, machine_of, pages_from}
use Rattle.loader.specs.Whole.{AreWhole}
use Rattle.loader.specs.Stands.{says_frame}
use Rattle.loader.specs.declared.refusal.LoadFault.{LoadFault}
use Rattle.loader.proofs.Lays.{lays}
use Rattle.loader.proofs.Whole.{frame_whole, never_refused}
use Rattle.loader.proofs.load_file.read_machine.Goals as goal

pub returns-in-Ok-clause-layout : goal.returns-in-Ok-clause-layout
returns-in-Ok-clause-layout g c = λ file told.
    let frame = says_frame c.in_ok-frame.frame in
    let whole = frame_whole file frame (c.in_ok-frame.ensures.answer file told) in
    let ram = c.in-Ok.ensures.ram file (c.in_ok-frame.ensures.leaves.told ∙ told) ∙ ap (λ (b : List BitmapData). pages_from file frame.shape.pages 0 b) c.deref.ensures.value in
    let is : c.put_together.result ≡ machine_of file frame = c.put_together.ensures.machine ∙ ap (λ (pages : List (List ℕ)). record (machine_of file frame) { ram = joined pages }) ram in
    subst (Lay file) (sym is)
    (lays file frame (c.in_ok-frame.ensures.stands file told) c.in_ok-frame.ensures.limits whole (subst IsMachine is c.put_together.ensures.limits) (subst Rest is c.put_together.ensures.rest))

pub returns-in-Err-clause-answer : goal.returns-in-Err-clause-answer
returns-in-Err-clause-answer g c = λ file told.
    let frame = says_frame c.in_ok-frame.frame in
    let whole = frame_whole file frame (c.in_ok-frame.ensures.answer file told) in
    let read : AreWhole file frame.shape.pages 0 c.deref.result.now = subst (AreWhole file frame.shape.pages 0) (sym c.deref.ensures.value) whole in
    never_refused (loaded file) c.in-Err.fault (λ refusal is. c.in-Err.ensures.whole file refusal (c.in_ok-frame.ensures.leaves.told ∙ told) read (ap (λ (f : LoadFault). Err f) is))
