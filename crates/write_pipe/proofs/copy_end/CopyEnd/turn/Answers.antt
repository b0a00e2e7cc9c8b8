use Rattle.std.proofs.Common.{◌≡◌, None, Some, ap, subst, ◌∙◌}
use Rattle.std.specs.Prelude.{slice_get}
use Rattle.bg_saver.specs.Members.{plant_state}
use Rattle.write_pipe.specs.CopyEnd.{CopyData, LeavesPicked, LeavesTaken, copy_end_of}
use Rattle.write_pipe.proofs.CopyTurns.{turn_of_copy, turn_takes}
use Rattle.write_pipe.proofs.copy_end.CopyEnd.turn.Goals as goal
use Rattle.write_pipe.proofs.copy_end.CopyEnd.turn.Goals.{After-take_page}

-- with no page in hand, and a spare buffer, nothing has changed before the pick
same_end : (g : _) (c : After-take_page g) → c.spare_page.new.self ≡ c.args.self.now
same_end g c = c.in-Some-spare_page.ensures.spare ∙ ap (λ hand. copy_end_of (record c.self.inside { hand = hand })) (c.take.ensures.after ∙ c.in_default.ensures.value) ∙ c.self.view_is

no_hand : (g : _) (c : After-take_page g) → None ≡ c.args.self.now.hand
no_hand g c = c.in_default.ensures.value ∙ ap (λ (d : CopyData _). d.hand) c.self.view_is

first_left : (g : _) (c : After-take_page g) → Some c.in-Some-first.first ≡ slice_get c.args.self.now.left 0
first_left g c = c.in-Some-first.ensures.first ∙ ap (λ (d : CopyData _). slice_get d.left 0) c.self.view_is

picked : (g : _) (c : After-take_page g) → LeavesPicked c.args.self.now.wanted c.in-Some-first.first (plant_state g.P.Plant c.args.plant.now) (plant_state g.P.Plant c.next_page.new.plant) (Some c.in-Some-next_page.taken)
picked g c =
    subst (λ (d : CopyData _). LeavesPicked d.wanted c.in-Some-first.first (plant_state g.P.Plant c.args.plant.now) (plant_state g.P.Plant c.next_page.new.plant) (Some c.in-Some-next_page.taken))
    (same_end g c) c.in-Some-next_page.ensures.picked

taken : (g : _) (c : After-take_page g) → LeavesTaken c.args.self.now (plant_state g.P.Plant c.next_page.new.plant) (plant_state g.P.Plant c.take_page.new.plant) c.in-Some-next_page.taken c.take_page.result c.take_page.new.self
taken g c =
    subst (λ d. LeavesTaken d (plant_state g.P.Plant c.next_page.new.plant) (plant_state g.P.Plant c.take_page.new.plant) c.in-Some-next_page.taken c.take_page.result c.take_page.new.self)
    (same_end g c) c.take_page.ensures.taken

pub returns-in-Some-next_page-clause-leaves : goal.returns-in-Some-next_page-clause-leaves
returns-in-Some-next_page-clause-leaves g c =
    turn_takes c.args.self.now c.in-Some-first.first (plant_state g.P.Plant c.args.plant.now) (plant_state g.P.Plant c.next_page.new.plant) (plant_state g.P.Plant c.take_page.new.plant)
    c.in-Some-next_page.taken c.take_page.result c.take_page.new.self (picked g c) c.take_page.ensures.keeps c.take_page.ensures.no_pick (taken g c) _ (no_hand g c) (first_left g c)

pub returns-in-Some-next_page-clause-of_copy : goal.returns-in-Some-next_page-clause-of_copy
returns-in-Some-next_page-clause-of_copy g c =
    turn_of_copy c.args.self.now c.in-Some-first.first (plant_state g.P.Plant c.args.plant.now) (plant_state g.P.Plant c.next_page.new.plant) (plant_state g.P.Plant c.take_page.new.plant)
    c.in-Some-next_page.taken c.take_page.result c.take_page.new.self (picked g c) c.take_page.ensures.keeps c.take_page.ensures.no_pick (taken g c)
    g.P.Plant.total g.P.Plant.stands c.requires (g.met.P.Plant.flags _ c.requires.fits)
