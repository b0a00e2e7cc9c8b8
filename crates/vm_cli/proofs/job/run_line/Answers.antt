-- A line that is served leaves cause and work to its job; where it isn't, nothing was done.
use Rattle.std.proofs.Common.{map, refl}
use Rattle.std.specs.Prelude.{string_bytes}
use Rattle.vm_cli.specs.Outside.{faults_of, outside}
use Rattle.vm_cli.proofs.Jobs.{failed_with, line_cause, line_works, served_cause, served_works, still_allows}
use Rattle.vm_cli.proofs.job.run_line.Goals as goal

pub run_job-requires-clause-one_thread : goal.run_job-requires-clause-one_thread
run_job-requires-clause-one_thread g c = still_allows (map string_bytes c.args.words.now) c.in_ok-job.job c.in_ok-job.ensures.allowed

pub returns-clause-cause : goal.returns-clause-cause
returns-clause-cause g c = served_cause _ _ _ _ _ _ _ c.in_ok-job.ensures.no_fault c.in_ok-job.ensures.ok c.run_job.ensures.cause

pub returns-clause-works : goal.returns-clause-works
returns-clause-works g c = served_works _ _ _ _ _ _ c.in_ok-job.ensures.ok c.run_job.ensures.works

pub returns-in_err-job-clause-cause : goal.returns-in_err-job-clause-cause
returns-in_err-job-clause-cause g c =
    line_cause (faults_of (outside g.S.Source g.M.Readable g.K.Sink c.args.image.now c.args.input.now c.args.output.now c.args.console.now))
    (faults_of (outside g.S.Source g.M.Readable g.K.Sink c.args.image.now c.args.input.now c.args.output.now c.args.console.now)) _ _
    (outside g.S.Source g.M.Readable g.K.Sink c.args.image.now c.args.input.now c.args.output.now c.args.console.now) _ _ (failed_with _ _ c.from_residual.ensures)
    c.in_err-job.ensures.fault

pub returns-in_err-job-clause-works : goal.returns-in_err-job-clause-works
returns-in_err-job-clause-works g c =
    line_works _ _ _ (outside g.S.Source g.M.Readable g.K.Sink c.args.image.now c.args.input.now c.args.output.now c.args.console.now) _ _ _ _ _
    (g.met.M.Readable.only_now _) (failed_with _ _ c.from_residual.ensures) c.in_err-job.ensures.fault c.requires.first c.requires.second refl refl refl refl
