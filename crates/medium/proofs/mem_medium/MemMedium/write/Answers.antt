use Rattle.std.proofs.Common.{◌≡◌, ℕ, List, [], ◌∷◌, ◌++◌, length, Result, Ok, Err, is_ok, true, false, OnOk, refl, sym, ap, subst, ◌∙◌, arith, length-append}
use Rattle.std.proofs.lemmas.Bool.{true≢false, cond-true}
use Rattle.medium.specs.declared.write_log.Write.{Write}
use Rattle.medium.specs.Laws.{length-written}
use Rattle.medium.specs.Log.{events_of}
use Rattle.medium.specs.Memory.{IsWithinLimits, wrote}
use Rattle.medium.proofs.Data.{same_data}
use Rattle.medium.proofs.Log.{record_push, events_push, count_of, written_is}
use Rattle.medium.proofs.mem_medium.MemMedium.write.Goals as goal

ok_then : {T E P : Type 0} (r : Result T E) → is_ok r ≡ true → OnOk r P → P
ok_then (Ok x) is p = p
ok_then (Err e) is p = absurd (cc)

pub prove-unreachable-requires-2 : goal.prove-unreachable-requires-2
prove-unreachable-requires-2 c =
    let m = c.self.inside in
    let kept = c.self.invariant in
    let can = subst (λ d. IsWithinLimits d c.args.at (length c.args.bytes.now)) (sym c.self.view_is) c.requires.limits in
    let bytes = written_is m.first.items m.bytes.items m.log.items m.joined.items m.durable kept.0 in
    let ok = c.extend_from_slice-joined.ensures.succeeds (omega (arith, can.bytes, bytes, kept.2.reserved, m.joined.ok)) in
    true≢false (sym ok ∙ sym c.is_ok-2.ensures.value ∙ c.if-prove-2.true)

pub push_reserved-requires : goal.push_reserved-requires
push_reserved-requires c =
    let m = c.self.inside in
    let kept = c.self.invariant in
    let can = subst (λ d. IsWithinLimits d c.args.at (length c.args.bytes.now)) (sym c.self.view_is) c.requires.limits in
    omega (arith, can.writes, count_of m.log.items m.joined.items, kept.3.reserved, m.log.ok)

pub invariant_of-self : goal.invariant_of-self
invariant_of-self c =
    let m = c.self.inside in
    let at = c.args.at in
    let bytes = c.args.bytes.now in
    let kept = c.self.invariant in
    let can = subst (λ d. IsWithinLimits d at (length bytes)) (sym c.self.view_is) c.requires.limits in
    let made = count_of m.log.items m.joined.items in
    let used = written_is m.first.items m.bytes.items m.log.items m.joined.items m.durable kept.0 in
    let placed = ok_then c.place-placed.result (sym c.is_ok.ensures.value ∙ c.if-prove.false) c.place-placed.ensures.written in
    let extended = c.extend_from_slice-joined.ensures.items ∙ cond-true _ _ _ (sym c.is_ok-2.ensures.value ∙ c.if-prove-2.false) in
    let pushed = c.push_reserved.ensures.items in
    let long_file = ap length placed ∙ length-written at bytes m.bytes.items in
    let long_joined = ap length extended ∙ length-append m.joined.items bytes in
    let long_log = ap length pushed ∙ length-append m.log.items _ in (
      rw (placed, extended, pushed) (record_push m.first.items m.bytes.items m.log.items m.joined.items m.durable at bytes kept.0),
      record { within = omega (arith, can.room, kept.1.within, long_file); reserved = omega (arith, kept.1.reserved, c.place-placed.ensures.capacity) },
      record { within = omega (arith, can.bytes, used, long_joined); reserved = omega (arith, kept.2.reserved, c.extend_from_slice-joined.ensures.capacity) },
      record { within = omega (arith, can.writes, made, long_log); reserved = omega (arith, kept.3.reserved, c.push_reserved.ensures.capacity) },
    )

pub returns : goal.returns
returns c =
    let m = c.self.inside in
    let at = c.args.at in
    let bytes = c.args.bytes.now in
    let kept = c.self.invariant in
    let extended = c.extend_from_slice-joined.ensures.items ∙ cond-true _ _ _ (sym c.is_ok-2.ensures.value ∙ c.if-prove-2.false) in
    let events =
    ap (λ (l : List Write). events_of l c.extend_from_slice-joined.new.self.items []) c.push_reserved.ensures.items
    ∙ ap (λ (j : List ℕ). events_of (m.log.items ++ record { at = at; len = length bytes; synced = false } ∷ []) j []) extended
    ∙ events_push m.log.items m.joined.items bytes [] at kept.0.total_is kept.0.has_bytes in
    same_data m.first.items m.room m.writes _ _ _ _ m.syncs m.syncs events c.pass.ensures refl
    ∙ ap (λ d. wrote d at bytes) c.self.view_is
