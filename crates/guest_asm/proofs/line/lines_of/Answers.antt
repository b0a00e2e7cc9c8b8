use Rattle.std.proofs.Common.{◌≡◌, ◌==◌, Some, None, length-append, length-drop, rules, arith}
use Rattle.std.specs.List.{position}
use Rattle.guest_asm.specs.Line.{lines_of}
use Rattle.guest_asm.proofs.Pieces.{lines_ended, lines_more}
use Rattle.guest_asm.proofs.line.lines_of.Goals as goal

pub loop-i-preserved : goal.loop-i-preserved
loop-i-preserved c =
    let found : Some c.in-Some.i ≡ position (λ b. b == 10) c.loop-i.rest.now = search rules in
    record {
      lines =
          lines_more (λ line. line.now) (λ b. b == 10) c.loop-i.lines.items _ c.around.result.0 c.in-Some.i c.loop-i.rest.now _
          (lines_of c.args.text.now) c.loop-i.invariant.lines found c.around.ensures.front c.around.ensures.back c.in_ok-push.ensures.items;
      few =
          simp (c.in_ok-push.ensures.items, c.around.ensures.back, length-append, length-drop)
          (omega (arith, c.loop-i.invariant.few, c.in-Some.ensures.within));
    }

pub returns-clause-lines : goal.returns-clause-lines
returns-clause-lines c =
    let nowhere : None ≡ position (λ b. b == 10) c.loop-i.rest.now = search rules in
    lines_ended (λ line. line.now) (λ b. b == 10) c.loop-i.lines.items _ c.loop-i.rest (lines_of c.args.text.now) c.loop-i.invariant.lines
    nowhere c.in_ok-push-2.ensures.items
