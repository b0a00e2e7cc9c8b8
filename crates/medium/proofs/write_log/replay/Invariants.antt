use Rattle.std.proofs.Common.{◌≡◌, ◌-◌, ◌^◌, drop, map}
use Rattle.medium.specs.Log.{replayed, HasBytes, EndsBy, span}
use Rattle.medium.proofs.write_log.replay.Given as goal

-- the writes that are left lead to what all writes lead to
abbrev pub invariant-loop-w : goal.invariant-loop-w
invariant-loop-w l =
    (replayed (drop l.w-index l.log) l.rest l.file.items ≡ replayed l.log l.joined l.fn.file.items)
    × HasBytes (drop l.w-index l.log) l.rest
    × EndsBy (2 ^ 64 - 1) (map span (drop l.w-index l.log))
