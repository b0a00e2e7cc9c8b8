use Rattle.std.proofs.Common.{◌≡◌, ℕ, ◌<◌, List, [], Bor, length, map, get_or, arith}
use Rattle.std.proofs.lemmas.List.{get_or-map, length-map}
use Rattle.guest_asm.specs.Line.{line_of}
use Rattle.guest_asm.specs.Parts.{parts_value}
use Rattle.guest_asm.proofs.Places.{labels_more, labels_none, place_of_more_by, place_of_none}
use Rattle.guest_asm.proofs.labels.labels_of.Goals as goal

pub loop-line-init : goal.loop-line-init
loop-line-init c =
    let lines = map (λ (line : Bor (List ℕ)). line.now) c.args.lines.now in
    record {
      place = place_of_none lines;
      small = omega arith;
      labels = labels_none lines c.new-labels.result c.new-labels.ensures.empty;
    }

pub loop-line-preserved : goal.loop-line-preserved
loop-line-preserved c =
    let lines = map (λ (line : Bor (List ℕ)). line.now) c.args.lines.now in
    let within : c.loop-line.line < length lines = rw length-map c.loop-line-test.true in
    let is : parts_value c.line_of-parts.result ≡ line_of (get_or lines c.loop-line.line []) =
    rw (get_or-map (λ (line : Bor (List ℕ)). line.now) c.args.lines.now c.loop-line.line (record { ref_ptr = (0, 0); now = [] }) [] c.loop-line-test.true) c.line_of-parts.ensures in
    record {
      place =
          place_of_more_by lines c.loop-line.line c.loop-line.place c.size_placed.result c.line_of-parts.result within
          c.loop-line.invariant.place is c.size_placed.ensures.size;
      small = omega (arith, c.loop-line.invariant.small, c.size_placed.ensures.small);
      labels =
          labels_more lines c.loop-line.line c.loop-line.place c.line_of-parts.result c.loop-line.labels c.note_label.new.labels within
          c.loop-line.invariant.labels is c.loop-line.invariant.place c.in_ok-note_label.ensures;
    }
