use Rattle.std.proofs.Common.{◌≡◌, ◌≤◌, ◌+◌, ◌++◌, ◌==◌, length, map}
use Rattle.std.specs.List.{slice_split}
use Rattle.guest_asm.specs.Line.{lines_of}
use Rattle.guest_asm.proofs.line.lines_of.Given as goal

-- the lines so far and those of the rest, and that they are few
abbrev pub invariant-loop-i : goal.invariant-loop-i
invariant-loop-i l = record {
  lines : map (λ line. line.now) l.lines.items ++ slice_split (λ b. b == 10) l.rest ≡ lines_of l.fn.text;
  few : length l.lines.items + length l.rest ≤ length l.fn.text;
}

abbrev pub decreases-loop-i : goal.decreases-loop-i
decreases-loop-i l = length l.rest
