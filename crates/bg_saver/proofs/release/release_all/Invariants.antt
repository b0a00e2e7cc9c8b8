-- The pages taken so far are writable, and no others became so.
use Rattle.std.proofs.Common.{length}
use Rattle.bg_saver.specs.Members.{plant_state}
use Rattle.bg_saver.specs.Release.{ReleasesPages}
use Rattle.bg_saver.proofs.release.release_all.Given as goal

abbrev pub invariant-loop-first : goal.invariant-loop-first
invariant-loop-first g l = record {
  so_far : ReleasesPages l.fn.progress (plant_state g.P.Plant l.fn.plant) (plant_state g.P.Plant l.plant) l.progress;
}

abbrev pub decreases-loop-first : goal.decreases-loop-first
decreases-loop-first g l = length l.progress.left
