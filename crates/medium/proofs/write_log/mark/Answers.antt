use Rattle.std.proofs.Common.{◌≡◌, ◌-◌, true, length, get_or, set, ap, ◌∙◌, arith}
use Rattle.medium.specs.declared.write_log.Write.{Write}
use Rattle.medium.proofs.Log.{marked_is}
use Rattle.medium.proofs.write_log.mark.Goals as goal

pub returns-then-n-gt0-clause-marked : goal.returns-then-n-gt0-clause-marked
returns-then-n-gt0-clause-marked c =
    let log = c.args.log.now.items in
    let last = c.index_mut.result.now in
    let all : c.len-n.result ≡ length log = omega (arith, c.args.log.now.ok) in
    let there : last ≡ get_or log (length log - 1) last = c.index_mut.ensures.value ∙ ap (λ n. get_or log (n - 1) last) all in
    rw all
    (ap (λ (w : Write). set log (length log - 1) (record { at = w.at; len = w.len; synced = true })) there
    ∙ marked_is log last (omega (arith, c.if-n-gt0.true)))
