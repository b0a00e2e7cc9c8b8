use Rattle.std.proofs.Common.{ap, arith, sym, ◌∙◌, ◌≡◌, ◌+◌}
use Rattle.vm_words.specs.Generator.{next, draw}
use Rattle.vm_words.proofs.Draws.{all_drawn_there, draw_none, draw_more, turns_none, turns_more}
use Rattle.vm_words.proofs.generator.turns_of.Goals as goal

pub loop-init : goal.loop-init
loop-init c = record { drawn = sym (draw_none c.args.seed); turns = c.new-turns.ensures.items ∙ sym (turns_none c.args.seed c.args.vcpus) }

pub loop-preserved : goal.loop-preserved
loop-preserved c =
    let drawn : c.next_draw-draw.result ≡ draw c.args.seed (c.loop.counter + 1) = c.next_draw-draw.ensures ∙ ap next c.loop.invariant.drawn ∙ sym (draw_more c.args.seed c.loop.counter) in
    record { drawn = drawn; turns = rw (turns_more c.args.seed c.args.vcpus c.loop.counter, ← c.loop.invariant.turns, ← drawn, ← c.turn_drawn.ensures) c.in_ok-push.ensures.items }

pub returns-clause-there : goal.returns-clause-there
returns-clause-there c =
    let all : c.loop.counter ≡ c.args.n = omega arith in
    rw (c.of.ensures, c.loop.invariant.turns, all) (all_drawn_there c.args.seed c.args.vcpus c.args.n)
