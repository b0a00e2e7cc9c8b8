use Rattle.std.proofs.Common.{◌≡◌, true}
use Rattle.page_cell.specs.Plant.{pages_of}
use Rattle.page_bus.specs.Closing.{AreAllOf}
use Rattle.page_bus.specs.Plant.{IsAtStart, StandsFor, end_state}
use Rattle.page_bus.proofs.Keys.{opened_all}
use Rattle.page_bus.proofs.Starts.{at_start, if_ok_both, stands_from}
use Rattle.page_bus.proofs.bus.Bus.start.Goals as goal

pub returns-in-Ok-clause-stands : goal.returns-in-Ok-clause-stands
returns-in-Ok-clause-stands c =
    if_ok_both c.opened.result _ _ (λ made. StandsFor made.2 (pages_of c.args.machine))
    (λ made opened limits. stands_from c.args.machine c.args.run c.args.protect made.0 made.1.items made.2 opened)
    c.opened.ensures.opened c.opened.ensures.limits

pub returns-in-Ok-clause-plant : goal.returns-in-Ok-clause-plant
returns-in-Ok-clause-plant c =
    if_ok_both c.opened.result _ _ (λ made. c.args.protect ≡ true → IsAtStart c.args.machine (end_state made.0 made.2))
    (λ made opened limits. at_start c.args.machine c.args.run c.args.protect made.0 made.1.items made.2 opened limits.1)
    c.opened.ensures.opened c.opened.ensures.limits

pub returns-in-Ok-clause-all : goal.returns-in-Ok-clause-all
returns-in-Ok-clause-all c =
    if_ok_both c.opened.result _ _ (λ made. AreAllOf made.0 made.1.items made.2)
    (λ made opened limits. opened_all c.args.machine c.args.run c.args.protect made.0 made.1.items made.2 opened)
    c.opened.ensures.opened c.opened.ensures.limits
