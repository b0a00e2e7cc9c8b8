use Rattle.std.proofs.Common.{◌-◌, ◌≤◌, length, IfSome}
use Rattle.medium.specs.States.{Leaves}
use Rattle.medium.specs.Members.{file_state}
use Rattle.mig_stream.specs.Turns.{IsFront}
use Rattle.mig_stream.proofs.field_reader.read_front.Given as goal

abbrev pub invariant-loop-got : goal.invariant-loop-got
invariant-loop-got g l =
    (l.got ≤ length l.buf)
    × IfSome (g.M.Readable.told l.medium) (λ file. IsFront file l.at l.got l.buf)
    × Leaves (file_state g.M.Readable l.fn.medium) (file_state g.M.Readable l.medium)

abbrev pub decreases-loop-got : goal.decreases-loop-got
decreases-loop-got g l = length l.initial.buf - l.got
