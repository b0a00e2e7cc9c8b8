-- A turn in which a page is left, and one that finishes the file.
use Rattle.std.proofs.Common.{◌≡◌, List, [], ◌∷◌, None, refl, sym, ◌∙◌, subst}
use Rattle.std.specs.Prelude.{ℕ, IfSome, slice_get}
use Rattle.medium.specs.Members.{file_state}
use Rattle.bg_saver.specs.Members.{plant_state}
use Rattle.bg_saver.specs.Save.{IsOfSave, IsUnderWay, Saves}
use Rattle.bg_saver.specs.Saver.{SaverData}
use Rattle.bg_saver.specs.Turn.{MayBeLeft}
use Rattle.bg_saver.specs.Writes.{LeavesSince}
use Rattle.bg_saver.proofs.Faults.{finish_faults, finish_rose, finish_tells}
use Rattle.bg_saver.proofs.Finished.{finish_complete, finish_crash}
use Rattle.bg_saver.proofs.Taken.{left_crash, left_kept, left_may_release, left_of_save, left_saves}
use Rattle.bg_saver.proofs.saver.Saver.turn.Goals as goal
use Rattle.bg_saver.proofs.saver.Saver.turn.Goals.{After-finish, After-save_next}

none_left : (left : List ℕ) → None ≡ slice_get left 0 → left ≡ []
none_left [] is = refl
none_left (p ∷ left) is = absurd (cc is)

of_save : (g : _) (c : After-save_next g) → IsOfSave c.self.inside.progress (plant_state g.P.Plant c.args.plant.now)
of_save g c = subst (λ (d : SaverData). IsOfSave d (plant_state g.P.Plant c.args.plant.now)) (sym c.self.view_is) c.requires

pub returns-in-Some-first-clause-of_save : goal.returns-in-Some-first-clause-of_save
returns-in-Some-first-clause-of_save g c =
    left_of_save g.M.Readable c.self.inside.progress _ _ _ c.args.medium.now c.save_next.new.medium _ _ c.in-Some-first.first c.first.ensures.limits (sym c.in-None.ensures.end)
    (of_save g c) (g.met.P.Plant.flags _ c.requires.fits) (sym c.in-Some-first.ensures.first) c.save_next.ensures.leaves

pub returns-in-Some-first-clause-saves : goal.returns-in-Some-first-clause-saves
returns-in-Some-first-clause-saves g c i saves stands =
    left_saves g.M.Readable c.self.inside.progress _ _ _ c.args.medium.now c.save_next.new.medium _ _ c.in-Some-first.first c.first.ensures.limits (sym c.in-None.ensures.end)
    (of_save g c) (g.met.P.Plant.flags _ c.requires.fits) (sym c.in-Some-first.ensures.first) i (subst (λ (d : SaverData). Saves d i) (sym c.self.view_is) saves) stands c.save_next.ensures.leaves

pub returns-in-Some-first-clause-kept : goal.returns-in-Some-first-clause-kept
returns-in-Some-first-clause-kept g c i way goes =
    left_kept g.M.Readable c.self.inside.progress _ _ _ c.args.medium.now c.save_next.new.medium _ _ c.in-Some-first.first c.first.ensures.limits (sym c.in-None.ensures.end)
    (of_save g c) (g.met.P.Plant.flags _ c.requires.fits) (sym c.in-Some-first.ensures.first) i
    (subst (λ (d : SaverData). IsUnderWay d i (plant_state g.P.Plant c.args.plant.now) (file_state g.M.Readable c.args.medium.now)) (sym c.self.view_is) way)
    (c.file_laws.ensures.pieces i way.saves.machine) c.save_next.ensures.leaves goes

pub returns-in-Some-first-clause-crash : goal.returns-in-Some-first-clause-crash
returns-in-Some-first-clause-crash g c i way =
    let crash = left_crash g.M.Readable c.self.inside.progress _ _ _ c.args.medium.now c.save_next.new.medium _ _ c.in-Some-first.first c.first.ensures.limits (sym c.in-None.ensures.end)
    (of_save g c) (g.met.P.Plant.flags _ c.requires.fits) (sym c.in-Some-first.ensures.first) i
    (subst (λ (d : SaverData). IsUnderWay d i (plant_state g.P.Plant c.args.plant.now) (file_state g.M.Readable c.args.medium.now)) (sym c.self.view_is) way)
    (c.file_laws.ensures.pieces i way.saves.machine) (g.met.M.Readable.only_now _) c.save_next.ensures.leaves in
    subst (λ (d : SaverData). IfSome (g.M.Readable.told c.args.medium.now) (λ (b : List ℕ). LeavesSince (file_state g.M.Readable c.args.medium.now) (file_state g.M.Readable c.save_next.new.medium) (MayBeLeft d.left i)))
    c.self.view_is crash

pub returns-in-Some-first-clause-may_release : goal.returns-in-Some-first-clause-may_release
returns-in-Some-first-clause-may_release g c runs failed =
    left_may_release g.M.Readable c.self.inside.progress _ _ _ c.args.medium.now c.save_next.new.medium _ _ c.in-Some-first.first c.first.ensures.limits (sym c.in-None.ensures.end)
    (of_save g c) (g.met.P.Plant.flags _ c.requires.fits) (sym c.in-Some-first.ensures.first) c.save_next.ensures.leaves failed

pub returns-in-None-first-clause-complete : goal.returns-in-None-first-clause-complete
returns-in-None-first-clause-complete g c i way done =
    let end = c.finish.ensures.ended in
    finish_complete g.M.Readable c.self.inside.progress i _ c.args.medium.now c.finish.new.medium c.finish.new.progress (g.met.M.Readable.only_now _) c.first.ensures.limits
    (none_left _ c.in-None-first.ensures.first) (c.file_laws.ensures.pieces i way.saves.machine) (c.file_laws.ensures.layout i way.saves.machine way.saves.rest)
    (subst (λ (d : SaverData). IsUnderWay d i (plant_state g.P.Plant c.args.plant.now) (file_state g.M.Readable c.args.medium.now)) (sym c.self.view_is) way)
    end.0 (sym end.1.answer ∙ done) end.1.file

pub returns-in-None-first-clause-crash : goal.returns-in-None-first-clause-crash
returns-in-None-first-clause-crash g c i way =
    let end = c.finish.ensures.ended in
    let crash = finish_crash g.M.Readable c.self.inside.progress i _ c.args.medium.now c.finish.new.medium c.finish.new.progress (g.met.M.Readable.only_now _) c.first.ensures.limits
    (none_left _ c.in-None-first.ensures.first) (c.file_laws.ensures.pieces i way.saves.machine) (c.file_laws.ensures.layout i way.saves.machine way.saves.rest)
    (subst (λ (d : SaverData). IsUnderWay d i (plant_state g.P.Plant c.args.plant.now) (file_state g.M.Readable c.args.medium.now)) (sym c.self.view_is) way)
    end.0 end.1.file in
    subst (λ (d : SaverData). IfSome (g.M.Readable.told c.args.medium.now) (λ (b : List ℕ). LeavesSince (file_state g.M.Readable c.args.medium.now) (file_state g.M.Readable c.finish.new.medium) (MayBeLeft d.left i)))
    c.self.view_is crash

pub returns-in-None-first-clause-told : goal.returns-in-None-first-clause-told
returns-in-None-first-clause-told g c = let end = c.finish.ensures.ended in finish_tells g.M.Readable c.self.inside.progress c.args.medium.now c.finish.new.medium end.0 end.1.file

pub returns-in-None-first-clause-never_falls : goal.returns-in-None-first-clause-never_falls
returns-in-None-first-clause-never_falls g c = let end = c.finish.ensures.ended in finish_faults g.M.Readable c.self.inside.progress c.args.medium.now c.finish.new.medium end.0 end.1.file

pub returns-in-None-first-clause-fault : goal.returns-in-None-first-clause-fault
returns-in-None-first-clause-fault g c runs failed =
    let end = c.finish.ensures.ended in finish_rose g.M.Readable c.self.inside.progress c.args.medium.now c.finish.new.medium end.0 end.1.file (sym end.1.answer ∙ failed)
