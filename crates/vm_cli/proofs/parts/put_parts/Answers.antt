-- Each part behind those before it.
use Rattle.std.proofs.Common.{◌≡◌, List, ℕ, ◌++◌, drop, suc, sym, subst, option_map, arith}
use Rattle.medium.specs.Bytes.{AddsFront, BecomesTold}
use Rattle.vm_cli.specs.Parts.{part_text, parts_text}
use Rattle.medium.proofs.Taken.{front_alone, whole_then_front, whole_then_whole}
use Rattle.vm_cli.proofs.Fronts.{if_failed, piece_more, piece_within}
use Rattle.vm_cli.proofs.parts.put_parts.Goals as goal

pub loop-part-preserved : goal.loop-part-preserved
loop-part-preserved g c = record {
  taken =
      subst (λ (text : List ℕ). g.K.Sink.taken c.put_part.new.console ≡ option_map (λ before. before ++ text) (g.K.Sink.taken c.args.console.now))
      (sym (piece_more part_text c.args.parts.now c.loop-part.part-index _ c.loop-part-test.true))
      (whole_then_whole _ _ _ _ _ c.loop-part.invariant.taken c.in_ok-put_part.ensures.all);
  never_falls = omega (arith, c.put_part.ensures.cause.never_falls);
}

pub returns-in_err-put_part-clause-some : goal.returns-in_err-put_part-clause-some
returns-in_err-put_part-clause-some g c =
    let parts = c.args.parts.now in
    let i = c.loop-part.part-index in
    if_failed c.from_residual.result
    (subst (λ (text : List ℕ). BecomesTold (AddsFront text) (g.K.Sink.taken c.args.console.now) (g.K.Sink.taken c.put_part.new.console))
    (sym (piece_within part_text parts i _ c.loop-part-test.true))
    (whole_then_front _ _ _ _ _ c.loop-part.invariant.taken (front_alone _ (parts_text (drop (suc i) parts)) _ _ c.in_err-put_part.ensures.some)))
