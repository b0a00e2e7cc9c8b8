-- While the save goes on, each turn took a page.
use Rattle.std.proofs.Common.{◌≡◌, ◌≤◌, None, replicate}
use Rattle.vm_words.specs.declared.turns.TurnOf.TheVariants.{Saver}
use Rattle.sliced_run.specs.Sliced.{TurnsTaken, taken_by}
use Rattle.sliced_run.proofs.sliced.Sliced.end_save.Given as goal

abbrev pub invariant-loop : goal.invariant-loop
invariant-loop g l = record {
  taken : TurnsTaken g.M.Readable l.fn.self.bus.instant l.fn.self.bus.run (replicate l.counter Saver) l.fn.self l.self l.fn.medium l.medium;
  pages : l.self.saved ≡ None → l.counter ≤ taken_by l.self;
}
