use Rattle.std.proofs.Common.{◌≡◌, ◌∙◌, ℕ, ◌<◌, ◌≤◌, ap, List, [], None, Err, length, below_more, add-one, filter_map, rules, sym, subst, arith}
use Rattle.std.specs.List.{range_with_len}
use Rattle.guest_asm.specs.declared.assembler.TheConstants.{MAX_TEXT}
use Rattle.std.specs.Result.{IfErr}
use Rattle.guest_asm.specs.Listing.{IsListingOf}
use Rattle.guest_asm.specs.Assemble.{IsAssembled, IsFaultOf, kind_at, piece_at, pieces}
use Rattle.guest_asm.specs.Bytes.{ArePieces}
use Rattle.guest_asm.specs.Line.{lines_of}
use Rattle.guest_asm.specs.Steps.{IsFaultAt, PutsAny}
use Rattle.guest_asm.proofs.LineKinds.{ArePieces-more, count_shown, is_fault, labels_shown, line_shown, no_fault, same_kind, same_piece}
use Rattle.guest_asm.proofs.Places.{place_of_more, place_of_none}
use Rattle.guest_asm.proofs.Runs.{given_more}
use Rattle.guest_asm.proofs.ListingText.{listing_assembles}
use Rattle.guest_asm.proofs.OneAnswer.{no_wrong_line, one_answer}
use Rattle.guest_asm.proofs.assembler.assemble.Goals as goal

pub loop-i-init : goal.loop-i-init
loop-i-init c = record {
  right = λ k below. absurd (omega arith);
  placed = c.new-bytes.ensures.items;
  len = rw c.new-bytes.ensures.len (place_of_none (lines_of c.args.text.now));
  room = omega arith;
}

pub loop-i-preserved : goal.loop-i-preserved
loop-i-preserved c =
    let lines = lines_of c.args.text.now in
    let i = c.loop-i.i in
    let labels = c.in-Ok-labels_of.labels in
    let has =
    labels_shown c.args.text.now c.in-Ok.lines.items c.deref.result.now labels c.deref.ensures.value c.in-Ok.ensures.lines
    c.in-Ok-labels_of.ensures in
    let count =
    count_shown c.args.text.now c.in-Ok.lines.items c.deref-line-items.result.now c.deref-line-items.ensures.value c.in-Ok.ensures.lines in
    let within : i < length lines = omega arith in
    let line =
    line_shown c.args.text.now c.in-Ok.lines.items c.deref-line-items.result.now i (record { ref_ptr = (0, 0); now = [] })
    c.deref-line-items.ensures.value c.in-Ok.ensures.lines c.loop-i-test.true in
    let right = same_kind lines labels i _ _ has c.loop-i.invariant.len line in
    let piece = same_piece lines labels i _ _ has c.loop-i.invariant.len line in
    let put : PutsAny (piece_at lines i) c.loop-i.bytes.items c.put_line.new.bytes.items =
    subst (λ found. PutsAny found c.loop-i.bytes.items c.put_line.new.bytes.items) piece c.in_ok-put_line.ensures.piece in
    record {
      right = below_more (λ k. kind_at lines k ≡ None) i c.loop-i.invariant.right (sym right ∙ c.in_ok-put_line.ensures.right);
      placed = rw (add-one, given_more (piece_at lines) i) (ArePieces-more _ (piece_at lines i) _ _ c.loop-i.invariant.placed put);
      len = rw (c.in_ok-put_line.ensures.len, c.loop-i.invariant.len, line) (sym (place_of_more lines i within));
      room = c.in_ok-put_line.ensures.room;
    }

pub returns-in_err-put_line-clause-fault : goal.returns-in_err-put_line-clause-fault
returns-in_err-put_line-clause-fault c =
    let lines = lines_of c.args.text.now in
    let i = c.loop-i.i in
    let labels = c.in-Ok-labels_of.labels in
    let has =
    labels_shown c.args.text.now c.in-Ok.lines.items c.deref.result.now labels c.deref.ensures.value c.in-Ok.ensures.lines
    c.in-Ok-labels_of.ensures in
    let count =
    count_shown c.args.text.now c.in-Ok.lines.items c.deref-line-items.result.now c.deref-line-items.ensures.value c.in-Ok.ensures.lines in
    let line =
    line_shown c.args.text.now c.in-Ok.lines.items c.deref-line-items.result.now i (record { ref_ptr = (0, 0); now = [] })
    c.deref-line-items.ensures.value c.in-Ok.ensures.lines c.loop-i-test.true in
    let wrong : IsFaultAt i (kind_at lines i) c.in_err-put_line.field-0.0 =
    subst (λ found. IsFaultAt i found c.in_err-put_line.field-0.0) (same_kind lines labels i _ _ has c.loop-i.invariant.len line)
    c.in_err-put_line.ensures.wrong in
    let is : c.from_residual.result ≡ Err c.in_err-put_line.field-0.0 = search rules in
    rw is (is_fault c.args.text.now i c.in_err-put_line.field-0.0 (omega arith) c.loop-i.invariant.right wrong)

pub returns-clause-assembled : goal.returns-clause-assembled
returns-clause-assembled c =
    let lines = lines_of c.args.text.now in
    let count =
    count_shown c.args.text.now c.in-Ok.lines.items c.deref-line-items.result.now c.deref-line-items.ensures.value c.in-Ok.ensures.lines in
    let right : (k : ℕ) → k < length lines → kind_at lines k ≡ None = λ k below. c.loop-i.invariant.right k (omega arith) in
    record {
      placed = pieces lines;
      answer = no_fault c.args.text.now right;
      joined =
          subst (λ n. ArePieces (filter_map (piece_at lines) (range_with_len 0 n)) c.loop-i.bytes.items) (omega arith)
          c.loop-i.invariant.placed;
    }

-- a listing that is short enough assembles to its bytes
of_listing : (text bytes : List ℕ) → length text ≤ MAX_TEXT → IsListingOf text bytes → IsAssembled text bytes
of_listing text bytes short listing =
    rw listing.listing (listing_assembles bytes listing.small (omega (arith, ap length listing.listing)))

pub returns-clause-listed : goal.returns-clause-listed
returns-clause-listed c bytes listing =
    one_answer c.args.text.now c.loop-i.bytes.items bytes (returns-clause-assembled c)
    (of_listing c.args.text.now bytes c.requires listing)

pub returns-in_err-put_line-clause-takes_listings : goal.returns-in_err-put_line-clause-takes_listings
returns-in_err-put_line-clause-takes_listings c =
    let is : c.from_residual.result ≡ Err c.in_err-put_line.field-0.0 = search rules in
    let wrong : IfErr c.from_residual.result (IsFaultOf c.args.text.now) = returns-in_err-put_line-clause-fault c in
    rw is
    (λ bytes listing. no_wrong_line c.args.text.now bytes c.in_err-put_line.field-0.0
    (of_listing c.args.text.now bytes c.requires listing) (rw is at wrong))
