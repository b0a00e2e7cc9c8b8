use Rattle.std.proofs.Common.{ℕ, ◌+◌, List, length, IfSome}
use Rattle.mig_stream.specs.Turns.{IsFront, IsCompared, IsOther}
use Rattle.mig_stream.proofs.field_reader.compared.Given as goal

abbrev pub invariant-loop-k : goal.invariant-loop-k
invariant-loop-k l =
    ((file : List ℕ) (at : ℕ) → IsCompared file at l.from l.text l.fn.before → IsFront file (at + l.from) (length l.found) l.found → IsCompared file at (l.from + l.k) l.text l.first)
    × (IfSome l.fn.before (λ d. IsOther l.text d.0 d.1) → IfSome l.first (λ d. IsOther l.text d.0 d.1))
