use Rattle.std.proofs.Common.{ap, sym, subst}
use Rattle.bg_saver.specs.Members.{plant_state}
use Rattle.write_pipe.specs.Inlet.{InletData}
use Rattle.write_pipe.proofs.Beginnings.{of_all}
use Rattle.write_pipe.proofs.relay_pages.relay.Goals as goal

pub returns-clause-of_copy : goal.returns-clause-of_copy
returns-clause-of_copy g c =
    let from = ap (λ (d : InletData _). d.from) c.in_ok-inlet.ensures.inlet in
    of_all g.P.Plant.total g.P.Plant.stands c.in_ok-copier.copier c.in_ok-inlet.inlet c.args.pages (plant_state g.P.Plant c.args.plant.now) c.in_ok-copier.ensures
    c.requires.fits (ap g.P.Plant.total (sym from)) c.requires.pages (λ pages stood. subst (λ plant. g.P.Plant.stands plant pages) from stood)
    (g.met.P.Plant.flags _ c.requires.fits).0 c.requires.protected
