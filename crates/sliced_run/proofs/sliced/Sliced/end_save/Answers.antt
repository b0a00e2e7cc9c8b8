use Rattle.std.proofs.Common.{◌∷◌, [], replicate, subst}
use Rattle.vm_words.specs.declared.turns.TurnOf.TheVariants.{Saver}
use Rattle.sliced_run.specs.Sliced.{TurnsTaken}
use Rattle.sliced_run.proofs.Taken.{more_taken, replicate_push, taken_next}
use Rattle.sliced_run.proofs.sliced.Sliced.end_save.Goals as goal

pub loop-preserved : goal.loop-preserved
loop-preserved g c =
    let x = c.args.self.now in
    let z = c.saver_turn.new.self in
    record {
      taken = subst (λ l. TurnsTaken g.M.Readable x.bus.instant x.bus.run l x z c.args.medium.now c.saver_turn.new.medium) (replicate_push c.loop.counter)
          (taken_next g.M.Readable (replicate c.loop.counter Saver) (Saver ∷ []) x.bus.instant x.bus.run x c.loop.self z c.args.medium.now c.loop.medium c.saver_turn.new.medium
          c.loop.invariant.taken c.saver_turn.ensures.turns);
      pages = more_taken g.M.Readable c.loop.self.bus.instant c.loop.self z c.loop.medium c.saver_turn.new.medium c.loop.counter c.saver_turn.ensures.turns.file
          c.loop.invariant.pages c.saver_turn.ensures.more;
    }
