use Rattle.std.proofs.Common.{◌≡◌, ◌+◌, drop}
use Rattle.mig_stream.specs.Pieces.{same_text}
use Rattle.device_state.proofs.pieces.compare.Given as goal

abbrev pub invariant-loop-i : goal.invariant-loop-i
invariant-loop-i l = same_text l.at l.found l.text ≡ same_text (l.at + l.i) (drop l.i l.found) (drop l.i l.text)
