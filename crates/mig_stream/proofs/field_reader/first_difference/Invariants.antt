use Rattle.std.proofs.Common.{◌≤◌, ◌-◌, length, IfSome}
use Rattle.medium.specs.States.{Leaves}
use Rattle.medium.specs.Members.{file_state}
use Rattle.mig_stream.specs.Turns.{IsCompared, IsOther}
use Rattle.mig_stream.proofs.field_reader.first_difference.Given as goal

abbrev pub invariant-loop-i : goal.invariant-loop-i
invariant-loop-i g l =
    (l.i ≤ length l.text)
    × IfSome (g.M.Readable.told l.medium) (λ file. IsCompared file l.at l.i l.text l.first)
    × IfSome l.first (λ d. IsOther l.text d.0 d.1)
    × Leaves (file_state g.M.Readable l.fn.medium) (file_state g.M.Readable l.medium)

abbrev pub decreases-loop-i : goal.decreases-loop-i
decreases-loop-i g l = length l.text - l.i
