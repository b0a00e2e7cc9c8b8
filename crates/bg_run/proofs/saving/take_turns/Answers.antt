-- What a turn leaves, by its answer.
use Rattle.std.proofs.Common.{◌≡◌, ◌⊎◌, inl, inr, ℕ, None, ◌∙◌, ap, subst}
use Rattle.medium.specs.Members.{file_state}
use Rattle.page_bus.specs.Plant.{end_state, rest_of}
use Rattle.bg_saver.specs.declared.turn.Turn.{Turn}
use Rattle.bg_saver.specs.declared.turn.Turn.TheVariants as turns
use Rattle.sliced_run.specs.Phase.{LeavesFile}
use Rattle.bg_run.specs.Workers.{instant_of}
use Rattle.bg_run.specs.declared.owned_end.OwnedEnd.{OwnedEnd}
use Rattle.bg_run.proofs.Files.{telling_on}
use Rattle.bg_run.proofs.Saves.{file_after, keeps_then}
use Rattle.bg_run.proofs.Turns.{end_by, turned}
use Rattle.bg_run.proofs.saving.take_turns.Goals as goal

went_on : (answer : Turn) → ((p : ℕ) × (answer ≡ turns.Saved p)) ⊎ ((p : ℕ) × (answer ≡ turns.Skipped p)) → end_by answer ≡ None
went_on answer (inl saved) = ap end_by saved.1
went_on answer (inr skipped) = ap end_by skipped.1

pub loop-preserved-in-Saved : goal.loop-preserved-in-Saved
loop-preserved-in-Saved g c =
    let i = instant_of c.args.end.now.pass in
    let x = c.loop.end in
    let y = c.turn.new.plant in
    let e = c.turn.ensures in
    let so_far = c.loop.invariant in
    let t = turned g.M.Readable c.loop.saver (y ≡ x) (end_state x.bus.now x.pass) (end_state y.bus.now y.pass) (λ same. ap (λ (o : OwnedEnd). rest_of o.bus.now o.pass) same)
    c.loop.medium c.turn.new.medium c.turn.new.self so_far.way.runs c.turn.result e.leaves in
    let goes = went_on c.turn.result c.in-Saved.is in
    record {
      can_next = tt;
      is_finite = tt;
      keeps = keeps_then c.args.end.now.bus.now x.bus.now y.bus.now c.args.end.now.pass x.pass y.pass c.loop.saver c.turn.new.self so_far.keeps t.rest e.of_save;
      way = e.kept i so_far.way (t.end ∙ goes);
      file = subst (λ o. LeavesFile i o (file_state g.M.Readable c.args.medium.now) (file_state g.M.Readable c.turn.new.medium)) goes
          (file_after g.M.Readable i c.loop.saver c.turn.new.self (y ≡ x) (end_state x.bus.now x.pass) (end_state y.bus.now y.pass) c.args.medium.now c.loop.medium c.turn.new.medium c.turn.result
          so_far.file so_far.telling t e.never_falls (e.complete i so_far.way) (e.fault so_far.way.runs) (e.crash i so_far.way));
      telling = telling_on (g.M.Readable.told c.args.medium.now) (g.M.Readable.told c.loop.medium) (g.M.Readable.told c.turn.new.medium) so_far.telling e.told;
    }

pub returns-in-Complete-clause-file : goal.returns-in-Complete-clause-file
returns-in-Complete-clause-file g c =
    let i = instant_of c.args.end.now.pass in
    let x = c.loop.end in
    let y = c.turn.new.plant in
    let e = c.turn.ensures in
    let so_far = c.loop.invariant in
    let t = turned g.M.Readable c.loop.saver (y ≡ x) (end_state x.bus.now x.pass) (end_state y.bus.now y.pass) (λ same. ap (λ (o : OwnedEnd). rest_of o.bus.now o.pass) same)
    c.loop.medium c.turn.new.medium c.turn.new.self so_far.way.runs c.turn.result e.leaves in
    subst (λ a. LeavesFile i (end_by a) (file_state g.M.Readable c.args.medium.now) (file_state g.M.Readable c.turn.new.medium)) c.in-Complete.is
    (file_after g.M.Readable i c.loop.saver c.turn.new.self (y ≡ x) (end_state x.bus.now x.pass) (end_state y.bus.now y.pass) c.args.medium.now c.loop.medium c.turn.new.medium c.turn.result
    so_far.file so_far.telling t e.never_falls (e.complete i so_far.way) (e.fault so_far.way.runs) (e.crash i so_far.way))

pub returns-in-Failed-clause-file : goal.returns-in-Failed-clause-file
returns-in-Failed-clause-file g c =
    let i = instant_of c.args.end.now.pass in
    let x = c.loop.end in
    let y = c.turn.new.plant in
    let e = c.turn.ensures in
    let so_far = c.loop.invariant in
    let t = turned g.M.Readable c.loop.saver (y ≡ x) (end_state x.bus.now x.pass) (end_state y.bus.now y.pass) (λ same. ap (λ (o : OwnedEnd). rest_of o.bus.now o.pass) same)
    c.loop.medium c.turn.new.medium c.turn.new.self so_far.way.runs c.turn.result e.leaves in
    subst (λ a. LeavesFile i (end_by a) (file_state g.M.Readable c.args.medium.now) (file_state g.M.Readable c.turn.new.medium)) c.in-Failed.is
    (file_after g.M.Readable i c.loop.saver c.turn.new.self (y ≡ x) (end_state x.bus.now x.pass) (end_state y.bus.now y.pass) c.args.medium.now c.loop.medium c.turn.new.medium c.turn.result
    so_far.file so_far.telling t e.never_falls (e.complete i so_far.way) (e.fault so_far.way.runs) (e.crash i so_far.way))
