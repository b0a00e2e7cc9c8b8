use Rattle.std.proofs.Common.{◌≡◌, ◌++◌, ℕ, List, length, take, drop, map, ap, subst, ◌∙◌, arith}
use Rattle.medium.specs.declared.write_log.Write.{Write}
use Rattle.medium.specs.History.{Keeps, bytes_synced, pending}
use Rattle.medium.specs.Log.{span, kept_after, replayed}
use Rattle.medium.specs.Memory.{bytes_of, images_of}
use Rattle.medium.proofs.Log.{has_take, ends_take, ends_drop, ends_later}
use Rattle.medium.proofs.Kept.{crash_keeps, crash_image}
use Rattle.medium.proofs.mem_medium.MemMedium.crash.Goals as goal

pub replay-requires-clause-bytes : goal.replay-requires-clause-bytes
replay-requires-clause-bytes c =
    let m = c.self.inside in
    rw (c.split_at.ensures.front, c.deref.ensures.value, c.deref-3.ensures.value) (has_take m.durable m.log.items m.joined.items c.self.invariant.0.has_bytes)

pub replay-requires-clause-ends : goal.replay-requires-clause-ends
replay-requires-clause-ends c =
    let m = c.self.inside in
    let ends = ends_take (length m.bytes.items) m.durable m.log.items c.self.invariant.0.ends_by in
    rw (c.split_at.ensures.front, c.deref.ensures.value) (ends_later (length m.bytes.items) _ _ (omega (arith, c.self.invariant.1.within)) ends)

pub keep-requires-clause-ends : goal.keep-requires-clause-ends
keep-requires-clause-ends c =
    let m = c.self.inside in
    rw (c.split_at.ensures.back, c.deref.ensures.value, c.deref-4.ensures.value) (ends_drop (length m.bytes.items) m.durable m.log.items c.self.invariant.0.ends_by)

-- the file that is left
done : (c : goal.In_ok-keep) → let m = c.self.inside in c.keep.new.file.items ≡ kept_after (map span (drop m.durable m.log.items)) c.args.kept.now m.bytes.items (replayed (take m.durable m.log.items) m.joined.items m.first.items)
done c =
    let m = c.self.inside in
    let kept = c.args.kept.now in
    let synced = take m.durable m.log.items in
    let since = drop m.durable m.log.items in
    let start = c.in_ok-extend_from_slice.ensures.items ∙ ap (λ (l : List ℕ). l ++ c.deref-2.result.now) c.in_ok-left.ensures.items ∙ c.deref-2.ensures.value in
    let again =
    c.in_ok-replay.ensures
    ∙ ap (λ (l : List Write). replayed l c.deref-3.result.now c.extend_from_slice.new.self.items) (c.split_at.ensures.front ∙ ap (take m.durable) c.deref.ensures.value)
    ∙ ap (λ (j : List ℕ). replayed synced j c.extend_from_slice.new.self.items) c.deref-3.ensures.value
    ∙ ap (replayed synced m.joined.items) start
    in
    c.in_ok-keep.ensures
    ∙ ap (λ (l : List Write). kept_after (map span l) kept c.deref-4.result.now c.replay.new.file.items) (c.split_at.ensures.back ∙ ap (drop m.durable) c.deref.ensures.value)
    ∙ ap (λ (p : List ℕ). kept_after (map span since) kept p c.replay.new.file.items) c.deref-4.ensures.value
    ∙ ap (kept_after (map span since) kept m.bytes.items) again

pub returns-clause-keeps : goal.returns-clause-keeps
returns-clause-keeps c =
    let m = c.self.inside in
    let kept = c.args.kept.now in
    let left = c.keep.new.file.items in
    subst (λ d. Keeps (bytes_synced d.first d.past) (bytes_of d) (pending d.past) kept left) c.self.view_is
    (crash_keeps m.first.items m.bytes.items m.log.items m.joined.items m.durable c.self.invariant.0 kept left (done c))

pub returns-clause-image : goal.returns-clause-image
returns-clause-image c =
    let m = c.self.inside in
    let left = c.keep.new.file.items in
    subst (λ d. images_of d left) c.self.view_is
    (crash_image m.first.items m.bytes.items m.log.items m.joined.items m.durable c.self.invariant.0 c.args.kept.now left (done c))
