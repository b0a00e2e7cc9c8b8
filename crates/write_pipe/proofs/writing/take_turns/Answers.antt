-- What a turn leaves, by its answer, whichever machine is saved.
use Rattle.std.proofs.Common.{◌≡◌, ◌⊎◌, inl, inr, ℕ, None, ◌∙◌, ap, subst}
use Rattle.medium.specs.Members.{file_state}
use Rattle.bg_saver.specs.declared.turn.Turn.{Turn}
use Rattle.bg_saver.specs.declared.turn.Turn.TheVariants as turns
use Rattle.sliced_run.specs.Phase.{LeavesFile}
use Rattle.bg_run.proofs.Files.{telling_on}
use Rattle.bg_run.proofs.Saves.{file_after}
use Rattle.bg_run.proofs.Turns.{end_by, turned}
use Rattle.write_pipe.specs.WriteEnd.{WriteData, write_state}
use Rattle.write_pipe.proofs.Writes.{brought_of_save, brought_under_way}
use Rattle.write_pipe.proofs.writing.take_turns.Goals as goal

went_on : (answer : Turn) → ((p : ℕ) × (answer ≡ turns.Saved p)) ⊎ (((p : ℕ) × (answer ≡ turns.Skipped p)) ⊎ (answer ≡ turns.Again)) → end_by answer ≡ None
went_on answer (inl saved) = ap end_by saved.1
went_on answer (inr (inl skipped)) = ap end_by skipped.1
went_on answer (inr (inr again)) = ap end_by again

pub loop-preserved : goal.loop-preserved
loop-preserved g c =
    let State = λ (d : WriteData _). write_state g.P.Plant.total g.P.Plant.writable g.P.Plant.stands g.P.Plant.fits d in
    let x = c.loop.writer in
    let y = c.turn.new.plant in
    let e = c.turn.ensures in
    let so_far = c.loop.invariant in
    let t = turned g.M.Readable c.loop.saver (y ≡ x) (State x) (State y) (λ same. ap (λ (d : WriteData _). d.outlet) same)
    c.loop.medium c.turn.new.medium c.turn.new.self so_far.runs c.turn.result e.leaves in
    let goes = went_on c.turn.result c.in-Saved.is in
    record {
      can_next = tt;
      is_finite = tt;
      runs = t.end ∙ goes;
      save = e.of_save;
      telling = telling_on (g.M.Readable.told c.args.medium.now) (g.M.Readable.told c.loop.medium) (g.M.Readable.told c.turn.new.medium) so_far.telling e.told;
      file = λ i before.
          (let way = (so_far.file i before).0 in (
            e.kept i way (t.end ∙ goes),
            subst (λ o. LeavesFile i o (file_state g.M.Readable c.args.medium.now) (file_state g.M.Readable c.turn.new.medium)) goes
                (file_after g.M.Readable i c.loop.saver c.turn.new.self (y ≡ x) (State x) (State y) c.args.medium.now c.loop.medium c.turn.new.medium c.turn.result
                (so_far.file i before).1 so_far.telling t e.never_falls (e.complete i way) (e.fault so_far.runs) (e.crash i way)),
          ));
    }

pub loop-preserved-then-lacks_page : goal.loop-preserved-then-lacks_page
loop-preserved-then-lacks_page g c =
    let brings = c.fetch_next.ensures.brings in
    let so_far = c.loop.invariant in
    record {
      can_next = tt;
      is_finite = tt;
      runs = so_far.runs;
      save = brought_of_save g.P.Plant.total g.P.Plant.writable g.P.Plant.stands g.P.Plant.fits c.loop.writer c.fetch_next.new.writer brings c.loop.saver so_far.save;
      telling = so_far.telling;
      file = λ i before. (
        brought_under_way g.P.Plant.total g.P.Plant.writable g.P.Plant.stands g.P.Plant.fits c.loop.writer c.fetch_next.new.writer brings c.loop.saver i (file_state g.M.Readable c.loop.medium)
            (so_far.file i before).0,
        (so_far.file i before).1,
      );
    }

pub returns-in-Complete-clause-file : goal.returns-in-Complete-clause-file
returns-in-Complete-clause-file g c i before =
    let State = λ (d : WriteData _). write_state g.P.Plant.total g.P.Plant.writable g.P.Plant.stands g.P.Plant.fits d in
    let x = c.loop.writer in
    let y = c.turn.new.plant in
    let e = c.turn.ensures in
    let so_far = c.loop.invariant in
    let t = turned g.M.Readable c.loop.saver (y ≡ x) (State x) (State y) (λ same. ap (λ (d : WriteData _). d.outlet) same)
    c.loop.medium c.turn.new.medium c.turn.new.self so_far.runs c.turn.result e.leaves in
    let way = (so_far.file i before).0 in
    subst (λ a. LeavesFile i (end_by a) (file_state g.M.Readable c.args.medium.now) (file_state g.M.Readable c.turn.new.medium)) c.in-Complete.is
    (file_after g.M.Readable i c.loop.saver c.turn.new.self (y ≡ x) (State x) (State y) c.args.medium.now c.loop.medium c.turn.new.medium c.turn.result
    (so_far.file i before).1 so_far.telling t e.never_falls (e.complete i way) (e.fault so_far.runs) (e.crash i way))

pub returns-in-Failed-clause-file : goal.returns-in-Failed-clause-file
returns-in-Failed-clause-file g c i before =
    let State = λ (d : WriteData _). write_state g.P.Plant.total g.P.Plant.writable g.P.Plant.stands g.P.Plant.fits d in
    let x = c.loop.writer in
    let y = c.turn.new.plant in
    let e = c.turn.ensures in
    let so_far = c.loop.invariant in
    let t = turned g.M.Readable c.loop.saver (y ≡ x) (State x) (State y) (λ same. ap (λ (d : WriteData _). d.outlet) same)
    c.loop.medium c.turn.new.medium c.turn.new.self so_far.runs c.turn.result e.leaves in
    let way = (so_far.file i before).0 in
    subst (λ a. LeavesFile i (end_by a) (file_state g.M.Readable c.args.medium.now) (file_state g.M.Readable c.turn.new.medium)) c.in-Failed.is
    (file_after g.M.Readable i c.loop.saver c.turn.new.self (y ≡ x) (State x) (State y) c.args.medium.now c.loop.medium c.turn.new.medium c.turn.result
    (so_far.file i before).1 so_far.telling t e.never_falls (e.complete i way) (e.fault so_far.runs) (e.crash i way))
