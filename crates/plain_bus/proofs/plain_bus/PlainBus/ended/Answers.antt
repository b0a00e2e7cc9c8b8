use Rattle.std.proofs.Common.{◌≡◌, ◌<◌, length, sym, ◌∙◌, ap, subst, arith}
use Rattle.flat_machine.specs.Run.{has_ended}
use Rattle.plain_bus.specs.Bus.{BusData, phase_ended}
use Rattle.plain_bus.specs.Inside.{bus_of}
use Rattle.plain_bus.proofs.Bus.{ended-is, ended_here, ends_len}
use Rattle.plain_bus.proofs.plain_bus.PlainBus.ended.Goals as goal

pub index-requires : goal.index-requires
index-requires c =
    let same = ap (λ (d : BusData). d.machine.shape.vcpus) c.self.view_is in
    let count = ends_len (bus_of c.self.inside) c.self.invariant.bus in
    grind arith

pub returns-clause-here : goal.returns-clause-here
returns-clause-here c =
    let same = ap (λ (d : BusData). d.machine.shape.vcpus) c.self.view_is in
    let count = ends_len (bus_of c.self.inside) c.self.invariant.bus in
    let within : c.args.k < length c.self.inside.ends.items = grind arith in
    subst (λ (d : BusData). c.has_ended.result ≡ phase_ended d c.args.k) c.self.view_is
    (c.has_ended.ensures.ended ∙ ended_here (bus_of c.self.inside) c.args.k c.index.result.now c.index.ensures within)

pub returns-clause-ended : goal.returns-clause-ended
returns-clause-ended c =
    let same = ap (λ (d : BusData). d.machine.shape.vcpus) c.self.view_is in
    let count = ends_len (bus_of c.self.inside) c.self.invariant.bus in
    let within : c.args.k < length c.self.inside.ends.items = grind arith in
    let there : c.args.k < c.self.inside.cells.machine.shape.vcpus = subst (λ n. c.args.k < n) (sym same) c.requires in
    subst (λ (d : BusData). c.has_ended.result ≡ has_ended d.instant d.run d.machine c.args.k) c.self.view_is
    (c.has_ended.ensures.ended ∙ ended_here (bus_of c.self.inside) c.args.k c.index.result.now c.index.ensures within
    ∙ ended-is (bus_of c.self.inside) c.args.k c.self.invariant.bus there)
