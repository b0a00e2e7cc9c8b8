-- Cause and work of a job are those of the one that it is.
use Rattle.std.proofs.Common.{inl, ap, refl, sym, subst, ◌∙◌}
use Rattle.flat_machine.specs.Order.{OrderData}
use Rattle.medium.specs.Members.{file_state}
use Rattle.medium.proofs.Leaves.{leaves_same}
use Rattle.vm_cli.specs.Outside.{faults_of, outside}
use Rattle.vm_cli.specs.Served.{Assembly, CheckFile, Join, Layer, LazyRestore, Peek, Replay, Restore, Workload}
use Rattle.vm_cli.specs.Words.{IsOnOneThread, served_of}
use Rattle.vm_words.specs.declared.job.Job.TheVariants as jobs
use Rattle.vm_cli.proofs.Jobs.{before_console, full_stays, job_cause, job_works, looked_at, reads_nothing, save_works, served_save, undone_fault, unwritten_crash}
use Rattle.vm_cli.proofs.job.run_job.Goals as goal

pub returns-in-Save-clause-cause : goal.returns-in-Save-clause-cause
returns-in-Save-clause-cause g c =
    job_cause _ _ _ _ _ _ (ap served_of c.in-Save.is ∙ served_save _ _ _ _ _ _ _ (subst IsOnOneThread c.in-Save.is c.requires.one_thread))
    (c.save_image.ensures.cause (faults_of (outside g.S.Source g.M.Readable g.K.Sink c.args.image.now c.args.input.now c.args.output.now c.args.console.now))
    (faults_of (outside g.S.Source g.M.Readable g.K.Sink c.save_image.new.image c.args.input.now c.save_image.new.output c.save_image.new.console)))

pub returns-in-Save-clause-works : goal.returns-in-Save-clause-works
returns-in-Save-clause-works g c =
    let e = c.save_image.ensures in
    job_works _ _ _ _ _ _ (ap served_of c.in-Save.is ∙ served_save _ _ _ _ _ _ _ (subst IsOnOneThread c.in-Save.is c.requires.one_thread))
    (save_works _ _ _ _ _ _ _ refl e.done e.failed e.words_stand e.read e.not_empty e.kept e.count)

pub returns-in-Assemble-clause-cause : goal.returns-in-Assemble-clause-cause
returns-in-Assemble-clause-cause g c =
    job_cause _ _ _ Assembly _ _ (ap served_of c.in-Assemble.is)
    (c.assemble_image.ensures.cause (faults_of (outside g.S.Source g.M.Readable g.K.Sink c.args.image.now c.args.input.now c.args.output.now c.args.console.now))
    (faults_of (outside g.S.Source g.M.Readable g.K.Sink c.assemble_image.new.image c.args.input.now c.assemble_image.new.output c.assemble_image.new.console)))

pub returns-in-Assemble-clause-works : goal.returns-in-Assemble-clause-works
returns-in-Assemble-clause-works g c =
    let e = c.assemble_image.ensures in
    job_works _ Assembly _ _ _ _ (ap served_of c.in-Assemble.is)
    (record {
      done = λ done. let made = e.done done in record { bytes = made.0; wrote = made.1; printed = made.2 };
      failed = λ fault is other. inl (c.requires.first, e.silent (before_console _ fault is other));
      orders = record { first = λ _. c.requires.first; second = λ _. c.requires.second };
      kept = record { others = refl; input = λ _. refl; image = λ words. absurd (e.words_stand words); read = e.read; output = e.untouched; not_empty = e.not_empty; full = e.kept };
      crash = unwritten_crash g.M.Readable _ _ _ (g.met.M.Readable.only_now _) e.untouched e.not_empty;
      count = e.count;
    })

pub returns-in-CheckFile-clause-cause : goal.returns-in-CheckFile-clause-cause
returns-in-CheckFile-clause-cause g c =
    job_cause _ _ _ CheckFile _ _ (ap served_of c.in-CheckFile.is)
    (c.check_input.ensures.cause (faults_of (outside g.S.Source g.M.Readable g.K.Sink c.args.image.now c.args.input.now c.args.output.now c.args.console.now))
    (faults_of (outside g.S.Source g.M.Readable g.K.Sink c.args.image.now c.check_input.new.input c.args.output.now c.check_input.new.console)))

pub returns-in-CheckFile-clause-works : goal.returns-in-CheckFile-clause-works
returns-in-CheckFile-clause-works g c =
    let e = c.check_input.ensures in
    job_works _ CheckFile _ _ _ _ (ap served_of c.in-CheckFile.is)
    (record {
      done = λ done. let found = e.done done in record { machine = found.0; loaded = found.1; printed = found.2 };
      failed = λ fault is other. inl (c.requires.first, e.silent (before_console _ fault is other));
      orders = record { first = λ _. c.requires.first; second = λ _. c.requires.second };
      kept = record {
        others = record { input = e.leaves; image = refl; output = refl };
        input = λ words. absurd (e.words_stand words);
        image = λ _. refl;
        read = reads_nothing _ _;
        output = λ _. refl;
        not_empty = λ _. leaves_same _;
        full = full_stays _;
      };
      crash = λ _. looked_at (file_state g.M.Readable c.args.output.now) _ (g.met.M.Readable.only_now _) (leaves_same _);
      count = e.count;
    })

pub returns-in-Restore-default-false-clause-cause : goal.returns-in-Restore-default-false-clause-cause
returns-in-Restore-default-false-clause-cause g c =
    job_cause _ _ _ (Restore c.in-Restore-default-false.run') _ _ (ap served_of c.in-Restore-default-false.is ∙ ap (λ lazy. served_of (jobs.Restore c.in-Restore-default-false.run' lazy)) (sym c.in-Restore-default-false.lazy-is ∙ c.in-Restore-default-false.lazy-test))
    (c.restore_input.ensures.cause (faults_of (outside g.S.Source g.M.Readable g.K.Sink c.args.image.now c.args.input.now c.args.output.now c.args.console.now))
    (faults_of (outside g.S.Source g.M.Readable g.K.Sink c.args.image.now c.restore_input.new.input c.args.output.now c.restore_input.new.console)))

pub returns-in-Restore-default-false-clause-works : goal.returns-in-Restore-default-false-clause-works
returns-in-Restore-default-false-clause-works g c =
    let e = c.restore_input.ensures in
    job_works _ (Restore c.in-Restore-default-false.run') _ _ _ _ (ap served_of c.in-Restore-default-false.is ∙ ap (λ lazy. served_of (jobs.Restore c.in-Restore-default-false.run' lazy)) (sym c.in-Restore-default-false.lazy-is ∙ c.in-Restore-default-false.lazy-test))
    (record {
      done = λ done. let ran = e.done done in record { after = ran.0; phase = ran.1; printed = ran.2 };
      failed = λ fault is other. inl (ap (λ (o : OrderData). o.members) (e.no_phase (λ done. undone_fault _ fault is other done)) ∙ c.requires.first, e.silent (before_console _ fault is other));
      orders = record { first = λ none. absurd none; second = λ _. c.requires.second };
      kept = record {
        others = record { input = e.leaves; image = refl; output = refl };
        input = λ words. absurd (e.words_stand words);
        image = λ _. refl;
        read = reads_nothing _ _;
        output = λ _. refl;
        not_empty = λ _. leaves_same _;
        full = full_stays _;
      };
      crash = λ _. looked_at (file_state g.M.Readable c.args.output.now) _ (g.met.M.Readable.only_now _) (leaves_same _);
      count = e.count;
    })

pub returns-in-Restore-default-true-clause-cause : goal.returns-in-Restore-default-true-clause-cause
returns-in-Restore-default-true-clause-cause g c =
    job_cause _ _ _ (LazyRestore c.in-Restore-default-true.run') _ _ (ap served_of c.in-Restore-default-true.is ∙ ap (λ lazy. served_of (jobs.Restore c.in-Restore-default-true.run' lazy)) (sym c.in-Restore-default-true.lazy-is ∙ c.in-Restore-default-true.lazy-test))
    (c.restore_lazily.ensures.cause (faults_of (outside g.S.Source g.M.Readable g.K.Sink c.args.image.now c.args.input.now c.args.output.now c.args.console.now))
    (faults_of (outside g.S.Source g.M.Readable g.K.Sink c.args.image.now c.restore_lazily.new.input c.args.output.now c.restore_lazily.new.console)))

pub returns-in-Restore-default-true-clause-works : goal.returns-in-Restore-default-true-clause-works
returns-in-Restore-default-true-clause-works g c =
    let e = c.restore_lazily.ensures in
    job_works _ (LazyRestore c.in-Restore-default-true.run') _ _ _ _ (ap served_of c.in-Restore-default-true.is ∙ ap (λ lazy. served_of (jobs.Restore c.in-Restore-default-true.run' lazy)) (sym c.in-Restore-default-true.lazy-is ∙ c.in-Restore-default-true.lazy-test))
    (record {
      done = λ done. let ran = e.done done in record { pages = ran.0; after = ran.1; phase = ran.2; printed = ran.3 };
      failed = λ fault is other. inl (e.stopped (λ done. undone_fault _ fault is other done), e.silent (before_console _ fault is other));
      orders = record { first = λ none. absurd none; second = λ _. c.requires.second };
      kept = record {
        others = record { input = e.leaves; image = refl; output = refl };
        input = λ words. absurd (e.words_stand words);
        image = λ _. refl;
        read = reads_nothing _ _;
        output = λ _. refl;
        not_empty = λ _. leaves_same _;
        full = full_stays _;
      };
      crash = λ _. looked_at (file_state g.M.Readable c.args.output.now) _ (g.met.M.Readable.only_now _) (leaves_same _);
      count = e.count;
    })

pub returns-in-Peek-clause-cause : goal.returns-in-Peek-clause-cause
returns-in-Peek-clause-cause g c =
    job_cause _ _ _ (Peek c.in-Peek.shape c.in-Peek.at c.in-Peek.len) _ _ (ap served_of c.in-Peek.is)
    (c.peek_input.ensures.cause (faults_of (outside g.S.Source g.M.Readable g.K.Sink c.args.image.now c.args.input.now c.args.output.now c.args.console.now))
    (faults_of (outside g.S.Source g.M.Readable g.K.Sink c.args.image.now c.peek_input.new.input c.args.output.now c.peek_input.new.console)))

pub returns-in-Peek-clause-works : goal.returns-in-Peek-clause-works
returns-in-Peek-clause-works g c =
    let e = c.peek_input.ensures in
    job_works _ (Peek c.in-Peek.shape c.in-Peek.at c.in-Peek.len) _ _ _ _ (ap served_of c.in-Peek.is)
    (record {
      done = λ done. let found = e.done done in record { bytes = found.0; range = found.1; printed = found.2 };
      failed = λ fault is other. inl (c.requires.first, e.silent (before_console _ fault is other));
      orders = record { first = λ _. c.requires.first; second = λ _. c.requires.second };
      kept = record {
        others = record { input = e.leaves; image = refl; output = refl };
        input = λ words. absurd (e.words_stand words);
        image = λ _. refl;
        read = reads_nothing _ _;
        output = λ _. refl;
        not_empty = λ _. leaves_same _;
        full = full_stays _;
      };
      crash = λ _. looked_at (file_state g.M.Readable c.args.output.now) _ (g.met.M.Readable.only_now _) (leaves_same _);
      count = e.count;
    })

pub returns-in-Workload-clause-cause : goal.returns-in-Workload-clause-cause
returns-in-Workload-clause-cause g c =
    job_cause _ _ _ (Workload c.in-Workload.seed) _ _ (ap served_of c.in-Workload.is)
    (c.save_workload.ensures.cause (faults_of (outside g.S.Source g.M.Readable g.K.Sink c.args.image.now c.args.input.now c.args.output.now c.args.console.now))
    (faults_of (outside g.S.Source g.M.Readable g.K.Sink c.args.image.now c.args.input.now c.save_workload.new.output c.save_workload.new.console)))

pub returns-in-Workload-clause-works : goal.returns-in-Workload-clause-works
returns-in-Workload-clause-works g c =
    let e = c.save_workload.ensures in
    job_works _ _ _ _ _ _ (ap served_of c.in-Workload.is)
    (record {
      done = λ done. let saved = e.done done in record { saved = saved.0; checked = saved.1; shape = saved.2; printed = saved.3 };
      failed = e.failed;
      orders = record { first = λ none. absurd none; second = λ none. absurd none };
      kept = record {
        others = record { image = refl; input = refl };
        input = λ _. refl;
        image = λ _. refl;
        read = reads_nothing _ _;
        output = λ words. absurd (e.words_stand words);
        not_empty = e.not_empty;
        full = e.kept;
      };
      crash = λ words. absurd (e.words_stand words);
      count = e.count;
    })

pub returns-in-Layer-clause-cause : goal.returns-in-Layer-clause-cause
returns-in-Layer-clause-cause g c =
    job_cause _ _ _ (Layer c.in-Layer.run') _ _ (ap served_of c.in-Layer.is)
    (c.write_layer.ensures.cause (faults_of (outside g.S.Source g.M.Readable g.K.Sink c.args.image.now c.args.input.now c.args.output.now c.args.console.now))
    (faults_of (outside g.S.Source g.M.Readable g.K.Sink c.args.image.now c.write_layer.new.input c.write_layer.new.output c.write_layer.new.console)))

pub returns-in-Layer-clause-works : goal.returns-in-Layer-clause-works
returns-in-Layer-clause-works g c =
    let e = c.write_layer.ensures in
    job_works _ (Layer c.in-Layer.run') _ _ _ _ (ap served_of c.in-Layer.is)
    (record {
      done = λ done. let made = e.done done in record { base = made.0; after = made.1; phase = made.2; rest = made.3; wrote = made.4; printed = made.5 };
      failed = λ fault is other. let before = before_console _ fault is other in inl (e.stopped before, e.silent before);
      orders = record { first = λ none. absurd none; second = λ _. ap (λ (o : OrderData). o.members) e.second ∙ c.requires.second };
      kept = record {
        others = record { input = e.leaves; image = refl };
        input = λ words. absurd (e.words_stand words);
        image = λ _. refl;
        read = reads_nothing _ _;
        output = e.untouched;
        not_empty = e.not_empty;
        full = e.kept;
      };
      crash = unwritten_crash g.M.Readable _ _ _ (g.met.M.Readable.only_now _) e.untouched e.not_empty;
      count = e.count;
    })

pub returns-in-Join-clause-cause : goal.returns-in-Join-clause-cause
returns-in-Join-clause-cause g c =
    job_cause _ _ _ Join _ _ (ap served_of c.in-Join.is)
    (c.join_image.ensures.cause (faults_of (outside g.S.Source g.M.Readable g.K.Sink c.args.image.now c.args.input.now c.args.output.now c.args.console.now))
    (faults_of (outside g.S.Source g.M.Readable g.K.Sink c.join_image.new.image c.join_image.new.input c.join_image.new.output c.join_image.new.console)))

pub returns-in-Join-clause-works : goal.returns-in-Join-clause-works
returns-in-Join-clause-works g c =
    let e = c.join_image.ensures in
    job_works _ Join _ _ _ _ (ap served_of c.in-Join.is)
    (record {
      done = λ done. let made = e.done done in record { machine = made.0; joined = made.1; file = made.2; crash = made.3; full = made.4; printed = made.5 };
      failed = λ fault is other. let before = before_console _ fault is other in inl (e.stopped before, e.silent before);
      orders = record { first = λ _. c.requires.first; second = λ _. c.requires.second };
      kept = record {
        others = e.leaves;
        input = λ words. absurd (e.words_stand words);
        image = λ words. absurd (e.words_stand words);
        read = e.read;
        output = λ words. absurd (e.words_stand words);
        not_empty = e.not_empty;
        full = e.kept;
      };
      crash = λ words. absurd (e.words_stand words);
      count = e.count;
    })

pub returns-in-Replay-clause-cause : goal.returns-in-Replay-clause-cause
returns-in-Replay-clause-cause g c =
    job_cause _ _ _ (Replay c.in-Replay.shape c.in-Replay.serial) _ _ (ap served_of c.in-Replay.is)
    (c.replay_input.ensures.cause (faults_of (outside g.S.Source g.M.Readable g.K.Sink c.args.image.now c.args.input.now c.args.output.now c.args.console.now))
    (faults_of (outside g.S.Source g.M.Readable g.K.Sink c.replay_input.new.image c.replay_input.new.input c.args.output.now c.replay_input.new.console)))

pub returns-in-Replay-clause-works : goal.returns-in-Replay-clause-works
returns-in-Replay-clause-works g c =
    let e = c.replay_input.ensures in
    job_works _ (Replay c.in-Replay.shape c.in-Replay.serial) _ _ _ _ (ap served_of c.in-Replay.is)
    (record {
      done = λ done. let ran = e.done done in record { image = ran.0; taken = ran.1; read = ran.2; after = ran.3; ran = ran.4; printed = ran.5 };
      failed = λ fault is other. inl (ap (λ (o : OrderData). o.members) (e.no_phase (λ done. undone_fault _ fault is other done)) ∙ c.requires.first, e.silent (before_console _ fault is other));
      orders = record { first = λ none. absurd none; second = λ _. c.requires.second };
      kept = record {
        others = record { input = e.leaves; output = refl };
        input = λ words. absurd (e.words_stand words);
        image = λ words. absurd (e.words_stand words);
        read = e.read;
        output = λ _. refl;
        not_empty = λ _. leaves_same _;
        full = full_stays _;
      };
      crash = λ _. looked_at (file_state g.M.Readable c.args.output.now) _ (g.met.M.Readable.only_now _) (leaves_same _);
      count = e.count;
    })
