use Rattle.std.proofs.Common.{inl, inr, sym, subst, ◌∙◌, arith}
use Rattle.std.proofs.lemmas.Bool.{both_ways, lt-ltb, ltb-true, leb-false}
use Rattle.medium.specs.Memory.{IsPastLimits}
use Rattle.medium.proofs.Log.{count_of, written_is}
use Rattle.medium.proofs.mem_medium.MemMedium.is_past_limits.Goals as goal
use Rattle.medium.proofs.mem_medium.MemMedium.is_past_limits.Goals.{then-at-n, else-at-n}

pub returns-else-len-self : goal.returns-else-len-self
returns-else-len-self c =
    let m = c.self.inside in
    let n = c.args.n in
    let kept = c.self.invariant in
    let made = count_of m.log.items m.joined.items in
    let used = written_is m.first.items m.bytes.items m.log.items m.joined.items m.durable kept.0 in
    let joined = c.len-else-len-self.ensures in
    elim c.if-at-n.branch [
      | then-at-n w ↦ absurd (both_ways _ (sym w.value-is ∙ c.if-len-self.false) (lt-ltb _ _ w.if-at-n.true))
      | else-at-n w ↦
          let some = leb-false _ _ (sym w.value-is ∙ c.if-len-self.false) in
          let few = w.len.ensures in (
            λ over. subst (λ d. IsPastLimits d c.args.at n) c.self.view_is (inr (inr (let over = ltb-true _ _ over in omega (arith, used, m.joined.ok, kept.2.within)))),
            λ past. elim (subst (λ d. IsPastLimits d c.args.at n) (sym c.self.view_is) past) [
              | inl far ↦ absurd (omega (arith, far, w.if-at-n.false))
              | inr (inl all) ↦ absurd (omega (arith, all, made, m.log.ok))
              | inr (inr over) ↦ lt-ltb _ _ (omega (arith, over, used, m.joined.ok))
            ],
          )
    ]
