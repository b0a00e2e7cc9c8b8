use Rattle.std.proofs.Common.{◌≡◌, drop, map, length}
use Rattle.medium.specs.Log.{kept_after, span, EndsBy}
use Rattle.medium.proofs.write_log.keep.Given as goal

-- the writes that are left lead to what all writes lead to
abbrev pub invariant-loop-i : goal.invariant-loop-i
invariant-loop-i l =
    (kept_after (map span (drop l.i l.log)) (drop l.i l.kept) l.present l.file.items ≡ kept_after (map span l.log) l.kept l.present l.fn.file.items)
    × EndsBy (length l.present) (map span (drop l.i l.log))
