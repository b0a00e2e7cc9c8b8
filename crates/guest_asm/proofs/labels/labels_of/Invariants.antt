use Rattle.std.proofs.Common.{◌≡◌, ◌*◌, ◌≤◌, map, take}
use Rattle.guest_asm.specs.declared.assembler.TheConstants.{MAX_ASSEMBLED}
use Rattle.guest_asm.specs.Labels.{place_of}
use Rattle.guest_asm.specs.Steps.{HasLabelsOf}
use Rattle.guest_asm.proofs.labels.labels_of.Given as goal

-- the place of the next line, and the labels of the lines so far
abbrev pub invariant-loop-line : goal.invariant-loop-line
invariant-loop-line l = record {
  place : l.place ≡ place_of (map (λ line. line.now) l.lines) l.line;
  small : l.place ≤ l.line * MAX_ASSEMBLED;
  labels : HasLabelsOf (take l.line (map (λ line. line.now) l.lines)) l.labels;
}
