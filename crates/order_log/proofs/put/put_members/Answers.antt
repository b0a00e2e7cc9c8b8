use Rattle.std.proofs.Common.{◌<◌, ◌+◌, ◌∙◌, ◌∷◌, ◌++◌, [], List, ℕ, ap, sym, take, length, arith, append_assoc}
use Rattle.std.proofs.lemmas.List.{take_more, take_all}
use Rattle.order_log.specs.Text.{packed}
use Rattle.order_log.proofs.Packed.{length-packed}
use Rattle.order_log.proofs.put.put_members.Goals as goal

pub loop-i-preserved : goal.loop-i-preserved
loop-i-preserved c =
    let bytes = packed c.args.order.now.members in
    let within : c.loop-i.i < length bytes = omega (arith, c.loop-i-test.true, c.div_ceil-i-end.ensures, c.count.ensures, length-packed c.args.order.now.members) in
    c.in_ok-push.ensures.items
    ∙ ap (λ (l : List ℕ). l ++ c.byte_of.result ∷ []) c.loop-i.invariant
    ∙ append_assoc c.args.out.now.items (take c.loop-i.i bytes) (c.byte_of.result ∷ [])
    ∙ ap (λ (k : ℕ). c.args.out.now.items ++ (take c.loop-i.i bytes ++ k ∷ [])) c.byte_of.ensures
    ∙ ap (λ (l : List ℕ). c.args.out.now.items ++ l) (sym (take_more bytes c.loop-i.i 0 within))

pub returns : goal.returns
returns c =
    let bytes = packed c.args.order.now.members in
    c.loop-i.invariant
    ∙ ap (λ (l : List ℕ). c.args.out.now.items ++ l) (take_all c.loop-i.i bytes (omega (arith, c.loop-i-test.false, c.div_ceil-i-end.ensures, c.count.ensures, length-packed c.args.order.now.members)))
