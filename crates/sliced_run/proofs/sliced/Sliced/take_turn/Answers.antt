use Rattle.std.proofs.Common.{◌∷◌, [], sym, subst}
use Rattle.vm_words.specs.declared.turns.TurnOf.{TurnOf}
use Rattle.sliced_run.specs.Sliced.{TurnsTaken}
use Rattle.sliced_run.proofs.Taken.{cpu_call}
use Rattle.sliced_run.proofs.sliced.Sliced.take_turn.Goals as goal

pub returns-in-Cpu : goal.returns-in-Cpu
returns-in-Cpu g c =
    let x = c.args.self.now in
    let file = c.args.medium.now in
    subst (λ (t : TurnOf). TurnsTaken g.M.Readable x.bus.instant x.bus.run (t ∷ []) x (record { bus = c.try_step.new.self; saver = c.self.inside.saver; saved = c.self.inside.saved }) file file) (sym c.in-Cpu.is)
    (cpu_call g.M.Readable _ x c.try_step.new.self file _ c.try_step.result c.self.view_is c.requires.phase c.requires.file c.try_step.ensures)
