-- What each answer of the saver makes of the phase.
use Rattle.std.proofs.Common.{⊎_elim}
use Rattle.sliced_run.proofs.SaverCalls.{complete_call, failed_call, no_call, no_other_call, took_call}
use Rattle.sliced_run.proofs.sliced.Sliced.saver_turn.Goals as goal

pub returns-then-is_some-clause-turns : goal.returns-then-is_some-clause-turns
returns-then-is_some-clause-turns g c =
    no_call g.M.Readable _ c.args.self.now c.args.medium.now c.self.view_is c.if-is_some.ensures c.requires.phase c.requires.file

pub returns-in-Complete-clause-turns : goal.returns-in-Complete-clause-turns
returns-in-Complete-clause-turns g c =
    let e = c.turn.ensures in
    complete_call g.M.Readable _ c.args.self.now c.turn.new.plant c.turn.new.self c.args.medium.now c.turn.new.medium c.turn.result c.self.view_is c.if-is_some.ensures c.requires.phase c.requires.file
    (record { leaves = e.leaves; of_save = e.of_save; limits = e.limits; kept = e.kept; complete = e.complete; crash = e.crash; told = e.told; never_falls = e.never_falls; fault = e.fault })
    c.in-Complete.is

pub returns-in-Failed-clause-turns : goal.returns-in-Failed-clause-turns
returns-in-Failed-clause-turns g c =
    let e = c.turn.ensures in
    failed_call g.M.Readable _ c.args.self.now c.turn.new.plant c.release.new.plant c.turn.new.self c.release.new.self c.args.medium.now c.turn.new.medium c.turn.result c.release.result
    c.self.view_is c.if-is_some.ensures c.requires.phase c.requires.file
    (record { leaves = e.leaves; of_save = e.of_save; limits = e.limits; kept = e.kept; complete = e.complete; crash = e.crash; told = e.told; never_falls = e.never_falls; fault = e.fault })
    c.in-Failed.is c.release.ensures.leaves (c.release.ensures.of_save e.of_save) c.release.ensures.limits

pub returns-in-Saved : goal.returns-in-Saved
returns-in-Saved g c =
    let e = c.turn.ensures in
    ⊎_elim
    (λ saved.
    (let t = took_call g.M.Readable _ c.args.self.now c.turn.new.plant c.turn.new.self c.args.medium.now c.turn.new.medium c.turn.result c.self.view_is c.if-is_some.ensures c.requires.phase c.requires.file
    (record { leaves = e.leaves; of_save = e.of_save; limits = e.limits; kept = e.kept; complete = e.complete; crash = e.crash; told = e.told; never_falls = e.never_falls; fault = e.fault })
    saved.0 saved.1 in
    record { turns = t.0; more = λ none. t.1 }))
    (λ other.
    absurd (no_other_call g.M.Readable _ c.args.self.now c.turn.new.plant c.turn.new.self c.args.medium.now c.turn.new.medium c.turn.result c.self.view_is c.if-is_some.ensures c.requires.phase
    (record { leaves = e.leaves; of_save = e.of_save; limits = e.limits; kept = e.kept; complete = e.complete; crash = e.crash; told = e.told; never_falls = e.never_falls; fault = e.fault })
    other))
    c.in-Saved.is
