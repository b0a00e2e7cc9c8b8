-- A line that is served leaves cause and work to its job; where it isn't, nothing was done.
use Rattle.std.proofs.Common.{◌≡◌, ℕ, List, ap, inl, refl, ◌∙◌}
use Rattle.ram_block.specs.Shape.{ShapeData}
use Rattle.vm_words.specs.declared.job.Job.{Job}
use Rattle.vm_words.specs.declared.job.Job.TheVariants as jobs
use Rattle.vm_words.specs.declared.job.Mode.{Mode}
use Rattle.vm_words.specs.declared.job.Mode.TheVariants as modes
use Rattle.vm_words.specs.declared.turns.TurnOf.{TurnOf}
use Rattle.vm_cli.specs.Outside.{faults_of, outside}
use Rattle.vm_cli.specs.Served.{OnThreads, Record, Save}
use Rattle.vm_cli.specs.Words.{served_of}
use Rattle.flat_machine.specs.Order.{OrderData}
use Rattle.vm_cli.proofs.Jobs.{before_console, failed_with, job_cause, job_works, line_works, save_works, served_cause, served_works, unwritten_crash}
use Rattle.vm_cli.proofs.job.run_line_on_threads.Goals as goal

-- which job is served, where it is a save on threads
is_save : (job : Job) (shape : ShapeData) (stop run : ℕ) (mode : Mode) (turns : List TurnOf) (serial : List ℕ) (relay : ℕ) → job ≡ jobs.Save shape stop run mode turns serial relay → mode ≡ modes.Threads
    → served_of job ≡ Save shape serial (record { stop = stop; run = run; way = OnThreads })
is_save job shape stop run mode turns serial relay is threads =
    ap served_of (is ∙ ap (λ m. jobs.Save shape stop run m turns serial relay) threads)

pub returns-in_err-job-clause-works : goal.returns-in_err-job-clause-works
returns-in_err-job-clause-works g c =
    line_works _ _ _ (outside g.S.Source g.M.Readable g.K.Sink c.args.image.now c.args.input.now c.args.output.now c.args.console.now) _ _ _ _ _
    ((g.met.M.Readable g.world.𝓛 g.world.𝓜 g.world.𝓡 ((λ s x. x), (λ x. x), (λ x. x), λ x. x)).only_now _) (failed_with _ _ c.from_residual.ensures) c.in_err-job.ensures.fault c.requires.first c.requires.second refl refl refl refl

pub returns-in-Threads-clause-cause : goal.returns-in-Threads-clause-cause
returns-in-Threads-clause-cause g c =
    served_cause _ _ _ _ _ _ _ c.in_ok-job.ensures.no_fault c.in_ok-job.ensures.ok
    (job_cause _ _ _ _ _ _ (is_save c.in_ok-job.job _ _ _ _ _ _ _ c.in-Save.is c.in-Threads.is)
    (c.save_image_on_threads.ensures.cause (faults_of (outside g.S.Source g.M.Readable g.K.Sink c.args.image.now c.args.input.now c.args.output.now c.args.console.now))
    (faults_of (outside g.S.Source g.M.Readable g.K.Sink c.save_image_on_threads.new.image c.args.input.now c.save_image_on_threads.new.output c.save_image_on_threads.new.console))))

pub returns-in-Threads-clause-works : goal.returns-in-Threads-clause-works
returns-in-Threads-clause-works g c =
    let e = c.save_image_on_threads.ensures in
    served_works _ _ _ _ _ _ c.in_ok-job.ensures.ok
    (job_works _ _ _ _ _ _ (is_save c.in_ok-job.job _ _ _ _ _ _ _ c.in-Save.is c.in-Threads.is)
    (save_works _ _ _ _ _ _ _ refl e.done e.failed e.words_stand e.read e.not_empty e.kept e.count))

pub returns-in-Record-clause-cause : goal.returns-in-Record-clause-cause
returns-in-Record-clause-cause g c =
    served_cause _ _ _ _ _ _ _ c.in_ok-job.ensures.no_fault c.in_ok-job.ensures.ok
    (job_cause _ _ _ (Record c.in-Record.shape c.in-Record.run' c.in-Record.serial) _ _ (ap served_of c.in-Record.is)
    (c.record_image.ensures.cause (faults_of (outside g.S.Source g.M.Readable g.K.Sink c.args.image.now c.args.input.now c.args.output.now c.args.console.now))
    (faults_of (outside g.S.Source g.M.Readable g.K.Sink c.record_image.new.image c.args.input.now c.record_image.new.output c.record_image.new.console))))

pub returns-in-Record-clause-works : goal.returns-in-Record-clause-works
returns-in-Record-clause-works g c =
    let e = c.record_image.ensures in
    served_works _ _ _ _ _ _ c.in_ok-job.ensures.ok
    (job_works _ (Record c.in-Record.shape c.in-Record.run' c.in-Record.serial) _ _ _ _ (ap served_of c.in-Record.is)
    (record {
      done = λ done. let made = e.done done in record { image = made.0; taken = made.1; after = made.2; ran = made.3; wrote = made.4; printed = made.5 };
      failed = λ fault is other. let before = before_console _ fault is other in inl (e.stopped before, e.silent before);
      orders = record { first = λ none. absurd none; second = λ _. ap (λ (o : OrderData). o.members) e.second ∙ c.requires.second };
      kept = record { others = refl; input = λ _. refl; image = λ words. absurd (e.words_stand words); read = e.read; output = e.untouched; not_empty = e.not_empty; full = e.kept };
      crash =
          unwritten_crash g.M.Readable _ _ _ ((g.met.M.Readable g.world.𝓛 g.world.𝓜 g.world.𝓡 ((λ s x. x), (λ x. x), (λ x. x), λ x. x)).only_now _) e.untouched e.not_empty;
      count = e.count;
    }))
