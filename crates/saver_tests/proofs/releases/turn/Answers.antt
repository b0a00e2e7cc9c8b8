use Rattle.std.proofs.Common.{◌≡◌, sym, subst}
use Rattle.bg_saver.specs.Members.{plant_state}
use Rattle.bg_saver.specs.Save.{MayRelease}
use Rattle.saver_tests.proofs.Ended.{ends_so, stays}
use Rattle.saver_tests.proofs.releases.turn.Goals as goal

pub returns-clause-end : goal.returns-clause-end
returns-clause-end g c =
    ends_so c.args.saver.now (plant_state g.P.Plant c.args.plant.now) (plant_state g.P.Plant c.turn.new.plant) g.M.Readable (c.turn.new.plant ≡ c.args.plant.now)
    c.args.file.now c.turn.new.medium c.turn.result c.turn.new.self c.turn.ensures.leaves

pub returns-clause-stays : goal.returns-clause-stays
returns-clause-stays g c may =
    let same =
    stays c.args.saver.now (plant_state g.P.Plant c.args.plant.now) (plant_state g.P.Plant c.turn.new.plant) g.M.Readable (c.turn.new.plant ≡ c.args.plant.now)
    c.args.file.now c.turn.new.medium c.turn.result c.turn.new.self c.turn.ensures.leaves may.end in
    subst (λ d. MayRelease d (plant_state g.P.Plant c.turn.new.plant)) (sym same.0) (subst (λ p. MayRelease c.args.saver.now (plant_state g.P.Plant p)) (sym same.1) may)
