-- The work of a job by the job of its line, and of a line that isn't served.
use Rattle.std.proofs.Common.{◌≡◌, ◌⊎◌, inl, inr, ℕ, ◌+◌, ◌<◌, ◌≤◌, List, [], length, Option, Some, None, Result, Ok, Err, refl, sym, ap, subst, arith}
use Rattle.std.specs.Prelude.{IsErr, IsErrAnd}
use Rattle.vm_words.specs.Limits.{IsSave}
use Rattle.vm_words.specs.declared.job.Job.{Job}
use Rattle.vm_words.specs.declared.job.Job.TheVariants as jobs
use Rattle.vm_words.specs.declared.job.Mode.{Mode}
use Rattle.vm_words.specs.declared.job.Mode.TheVariants as modes
use Rattle.vm_words.specs.declared.turns.TurnOf.{TurnOf}
use Rattle.image_file.specs.Image.{ReadsOn}
use Rattle.image_file.specs.declared.raw.TheConstants.{MOST_IMAGE}
use Rattle.bg_saver.specs.declared.save_end.SaveEnd.TheVariants.{Complete}
use Rattle.image_file.proofs.Reading.{reads_none}
use Rattle.medium.specs.Members.{file_state}
use Rattle.medium.specs.States.{FileState, Leaves, SourceState}
use Rattle.medium.specs.declared.readable.Readable as readable
use Rattle.medium.proofs.Leaves.{leaves_same}
use Rattle.vm_cli.specs.Answer.{fault_in}
use Rattle.vm_cli.specs.Images.{IsCrashSafe}
use Rattle.vm_cli.specs.Jobs.Common.{Takes, TakesReport, TakesWhole}
use Rattle.vm_cli.specs.Jobs.Boot.{ReadsImage}
use Rattle.vm_cli.specs.Jobs.Join.{IsBeforeJoin}
use Rattle.vm_cli.specs.Jobs.Layer.{IsBeforePhase}
use Rattle.vm_cli.specs.Jobs.Save.{EndsEarly, IsBeforePhases, ReportsFailed, SavesMachine, report_of}
use Rattle.vm_cli.specs.Outside.{End, Outside, Same}
use Rattle.vm_cli.specs.Steps.{Faults, HasCause}
use Rattle.vm_cli.specs.Words.{IsFaultOfLine, IsOnOneThread, forbidden_word, line_fault, served_line, served_of}
use Rattle.vm_cli.specs.Work.{Fails, IsBeforeOutput, IsNotConsole, IsNotEmpty, IsUsage, IsWorkDone, KeepsOthers, StopsEarly, Works, steps_behind, steps_of, words_step}
use Rattle.vm_cli.specs.Write.{IsBeforeConsole, KeepsFull}
use Rattle.vm_cli.specs.declared.answer.Fault.{Fault}
use Rattle.vm_cli.specs.declared.answer.Fault.TheVariants as faults
use Rattle.vm_cli.specs.declared.words.Caller.{Caller}
use Rattle.vm_cli.specs.declared.words.Caller.TheVariants.{Still}
use Rattle.flat_machine.specs.Machine.{boot}
use Rattle.ram_block.specs.Shape.{ShapeData}
use Rattle.vm_cli.specs.Served.{Assembly, CheckFile, Join, Layer, LazyRestore, Peek, Record, Replay, Restore, Save, SavePhases, Served, Sliced, Workload}
use Rattle.vm_cli.proofs.Causes.{always, passed}

-- ---- Nothing was done

-- nothing of the image was read
pub reads_nothing : (most : ℕ) (image : SourceState) → ReadsOn most image image
reads_nothing most image = record { left = reads_none most image.left; never_falls = omega arith }

-- a file that wasn't called keeps what it had
pub full_stays : (file : FileState) → KeepsFull file file
full_stays file = always file.told (λ bytes. 0 < length bytes → Leaves file file) (λ bytes some. leaves_same file)

-- a file that was only looked at has had no image but those of before
pub looked_at : (old new : FileState) → ((image : List ℕ) → old.left_since old.moment image → old.may_leave image) → Leaves old new → IsCrashSafe None old new
looked_at old new only_now leaves image left =
    elim (leaves.time.nothing_else old.moment image (omega arith) left) [ inl before ↦ inl (only_now image before) | inr now ↦ inl ((leaves.images image).0 now) ]

-- so has one that wasn't written
pub unwritten_crash : {M : Type 0} (shows : readable.Ghosts M) (old new : M) (fault : Option Fault)
    → ((image : List ℕ) → shows.left_since old (shows.moment old) image → shows.may_leave old image)
    → (IsBeforeOutput fault → new ≡ old) → (IsNotEmpty fault → Leaves (file_state shows old) (file_state shows new)) → IsBeforeOutput fault ⊎ IsNotEmpty fault
    → IsCrashSafe None (file_state shows old) (file_state shows new)
unwritten_crash shows old new fault only_now same leaves (inl before) =
    let P : _ → Type 0 = λ file. IsCrashSafe None (file_state shows old) (file_state shows file) in
    subst P (sym (same before)) (looked_at (file_state shows old) (file_state shows old) only_now (leaves_same (file_state shows old)))
unwritten_crash shows old new fault only_now same leaves (inr full) = looked_at (file_state shows old) (file_state shows new) only_now (leaves full)

-- ---- The words

-- a fault of the words has its cause
fault_cause : (old new : Faults) (caller : Caller) (words : List (List ℕ)) (it : Outside) (fault : Fault) → IsFaultOfLine caller words fault
    → HasCause old new (steps_of caller words it) (Some fault)
fault_cause old new caller words it (faults.Usage index kind) is = inr (inr (inl (refl, is)))
fault_cause old new caller words it faults.NoMemory is = inl refl
fault_cause old new caller words it _ is = absurd is

-- a line that isn't refused leaves the cause to the steps of its job
pub served_cause : (old new : Faults) (caller : Caller) (words : List (List ℕ)) (served : Option Served) (it : Outside) (end : Option Fault)
    → line_fault caller words ≡ None → served_line words ≡ served → HasCause old new (steps_behind served it) end
    → HasCause old new (steps_of caller words it) end
served_cause old new caller words served it end none is cause =
    passed old new (words_step caller words) _ end none (subst (λ (s : Option Served). HasCause old new (steps_behind s it) end) (sym is) cause)

-- and its work to that of its job
pub served_works : (words : List (List ℕ)) (served : Option Served) (old new : Outside) (same : Same) (end : End) → served_line words ≡ served
    → Works served old new same end → Works (served_line words) old new same end
served_works words served old new same end is works = subst (λ (s : Option Served). Works s old new same end) (sym is) works

-- the same of a job, where it is known which it is
pub job_cause : (old new : Faults) (job : Job) (served : Served) (it : Outside) (end : Option Fault) → served_of job ≡ served → HasCause old new (steps_behind (Some served) it) end
    → HasCause old new (steps_behind (Some (served_of job)) it) end
job_cause old new job served it end is cause = subst (λ (s : Served). HasCause old new (steps_behind (Some s) it) end) (sym is) cause

pub job_works : (job : Job) (served : Served) (old new : Outside) (same : Same) (end : End) → served_of job ≡ served → Works (Some served) old new same end → Works (Some (served_of job)) old new same end
job_works job served old new same end is works = subst (λ (s : Served). Works (Some s) old new same end) (sym is) works

-- the words end a job before all its work
line_ends : (caller : Caller) (words : List (List ℕ)) (fault : Fault) (P : Type 0) → IsFaultOfLine caller words fault → IsWorkDone (Some fault) → P
line_ends caller words (faults.Usage index kind) P is done = absurd done
line_ends caller words faults.NoMemory P is done = absurd done
line_ends caller words _ P is done = absurd is

-- an end with a fault that a line may have before its job
abbrev pub IsOfLine : Option Fault → Type 0
IsOfLine (Some (faults.Usage index kind)) = Unit {0}
IsOfLine (Some faults.NoMemory) = Unit {0}
IsOfLine _ = ⊥

line_early : (caller : Caller) (words : List (List ℕ)) (fault : Fault) → IsFaultOfLine caller words fault → IsOfLine (Some fault)
line_early caller words (faults.Usage index kind) is = tt
line_early caller words faults.NoMemory is = tt
line_early caller words _ is = absurd is

-- comes before each phase, and before base and layer are joined
before_phases : (end : Option Fault) → IsOfLine end → IsBeforePhases end
before_phases None is = absurd is
before_phases (Some (faults.Usage index kind)) is = tt
before_phases (Some faults.NoMemory) is = tt
before_phases (Some _) is = absurd is

before_layer : (file : FileState) (end : Option Fault) → IsOfLine end → IsBeforePhase file file end
before_layer file None is = absurd is
before_layer file (Some (faults.Usage index kind)) is = tt
before_layer file (Some faults.NoMemory) is = tt
before_layer file (Some _) is = absurd is

before_join : (file : FileState) (end : Option Fault) → IsOfLine end → IsBeforeJoin file file end
before_join file None is = absurd is
before_join file (Some (faults.Usage index kind)) is = tt
before_join file (Some faults.NoMemory) is = tt
before_join file (Some _) is = absurd is

-- so nothing was done
stops_at_line : (served : Option Served) (it : Outside) (same : Same) (end : End) → IsOfLine end.fault → end.first ≡ [] → end.second ≡ [] → same.output → StopsEarly served it it same end
stops_at_line None it same end early first second output = first
stops_at_line (Some (Save shape input phases)) it same end early first second output = inl (before_phases end.fault early, record { first = first; second = second; output = output })
stops_at_line (Some Assembly) it same end early first second output = first
stops_at_line (Some CheckFile) it same end early first second output = first
stops_at_line (Some (Restore n)) it same end early first second output = first
stops_at_line (Some (LazyRestore n)) it same end early first second output = inl first
stops_at_line (Some (Peek shape at len)) it same end early first second output = first
stops_at_line (Some (Workload seed)) it same end early first second output = inl (before_phases end.fault early, record { first = first; second = second; output = output })
stops_at_line (Some (Layer n)) it same end early first second output = inl (record { before = before_layer it.input end.fault early; first = first; output = output })
stops_at_line (Some Join) it same end early first second output = inl (before_join it.input end.fault early, output)
stops_at_line (Some (Record shape n serial)) it same end early first second output = inl (before_phases end.fault early, first)
stops_at_line (Some (Replay shape serial)) it same end early first second output = first

others_stay : (served : Option Served) (it : Outside) (same : Same) → same.image → same.input → same.output → KeepsOthers served it it same
others_stay None it same image input output = input
others_stay (Some (Save shape serial phases)) it same image input output = input
others_stay (Some Assembly) it same image input output = input
others_stay (Some CheckFile) it same image input output = record { input = leaves_same it.input; image = image; output = output }
others_stay (Some (Restore n)) it same image input output = record { input = leaves_same it.input; image = image; output = output }
others_stay (Some (LazyRestore n)) it same image input output = record { input = leaves_same it.input; image = image; output = output }
others_stay (Some (Peek shape at len)) it same image input output = record { input = leaves_same it.input; image = image; output = output }
others_stay (Some (Workload seed)) it same image input output = record { image = image; input = input }
others_stay (Some (Layer n)) it same image input output = record { input = leaves_same it.input; image = image }
others_stay (Some Join) it same image input output = leaves_same it.input
others_stay (Some (Record shape n serial)) it same image input output = input
others_stay (Some (Replay shape serial)) it same image input output = record { input = leaves_same it.input; output = output }

-- the work of a line that isn't served: none
fault_works : (caller : Caller) (words : List (List ℕ)) (served : Option Served) (it : Outside) (same : Same) (fault : Fault) (first second : List ℕ)
    → ((image : List ℕ) → it.output.left_since it.output.moment image → it.output.may_leave image) → IsFaultOfLine caller words fault → first ≡ [] → second ≡ []
    → same.image → same.input → same.output → same.console → Works served it it same (record { fault = Some fault; first = first; second = second })
fault_works caller words served it same fault first second only_now is no_first no_second image input output console = record {
  done = line_ends caller words fault _ is;
  failed = λ f ended other. inl (stops_at_line served it same _ (line_early caller words fault is) no_first no_second output, console);
  orders = record { first = λ _. no_first; second = λ _. no_second };
  kept = record {
    others = others_stay served it same image input output;
    input = λ _. input;
    image = λ _. image;
    read = reads_nothing _ it.image;
    output = λ _. output;
    not_empty = λ _. leaves_same it.output;
    full = full_stays it.output;
  };
  crash = λ _. looked_at it.output it.output only_now (leaves_same it.output);
  count = omega arith;
}

-- a result that is this fault
pub failed_with : {X : Type 0} (result : Result X Fault) (fault : Fault) → IsErr result × IsErrAnd result (λ f. f ≡ fault) → fault_in result ≡ Some fault
failed_with (Ok done) fault failed = cc failed.0
failed_with (Err f) fault failed = ap Some failed.1

-- the cause of a line that isn't served
pub line_cause : (old new : Faults) (caller : Caller) (words : List (List ℕ)) (it : Outside) (end : Option Fault) (fault : Fault) → end ≡ Some fault → IsFaultOfLine caller words fault
    → HasCause old new (steps_of caller words it) end
line_cause old new caller words it end fault ended is = subst (λ (f : Option Fault). HasCause old new (steps_of caller words it) f) (sym ended) (fault_cause old new caller words it fault is)

-- its work: none
pub line_works : (caller : Caller) (words : List (List ℕ)) (served : Option Served) (it : Outside) (same : Same) (end : Option Fault) (fault : Fault) (first second : List ℕ)
    → ((image : List ℕ) → it.output.left_since it.output.moment image → it.output.may_leave image) → end ≡ Some fault → IsFaultOfLine caller words fault → first ≡ [] → second ≡ []
    → same.image → same.input → same.output → same.console → Works served it it same (record { fault = end; first = first; second = second })
line_works caller words served it same end fault first second only_now ended is no_first no_second image input output console =
    subst (λ (f : Option Fault). Works served it it same (record { fault = f; first = first; second = second })) (sym ended)
    (fault_works caller words served it same fault first second only_now is no_first no_second image input output console)

-- a fault that isn't the console's ends no work
pub undone_fault : (end : Option Fault) (fault : Fault) → end ≡ Some fault → IsNotConsole fault → IsWorkDone end → ⊥
undone_fault None fault is other done = cc is
undone_fault (Some faults.ConsoleFault) fault is other done = let same : faults.ConsoleFault ≡ fault = cc is in subst IsNotConsole (sym same) other
undone_fault (Some _) fault is other done = done

-- a line that starts no thread is a job that needs none
pub still_allows : (words : List (List ℕ)) (job : Job) → forbidden_word Still words job ≡ None → IsOnOneThread job
still_allows words (jobs.Save shape stop run modes.Threads turns serial relay) none = cc none
still_allows words (jobs.Save shape stop run modes.Sliced turns serial relay) none = tt
still_allows words (jobs.Record shape run input) none = cc none
still_allows words _ none = tt

-- ---- A save

-- what the words allow of a save on one thread, and which job it is
pub save_limits : (shape : ShapeData) (stop run : ℕ) (mode : Mode) (turns : List TurnOf) (serial : List ℕ) (relay : ℕ) → IsOnOneThread (jobs.Save shape stop run mode turns serial relay)
    → IsSave shape stop run mode turns serial relay → IsSave shape stop run modes.Sliced turns serial 0
save_limits shape stop run modes.Sliced turns serial relay is limits = subst (λ n. IsSave shape stop run modes.Sliced turns serial n) (limits.relay_unused refl) limits
save_limits shape stop run modes.Threads turns serial relay is limits = absurd is

pub served_save : (shape : ShapeData) (stop run : ℕ) (mode : Mode) (turns : List TurnOf) (serial : List ℕ) (relay : ℕ) → IsOnOneThread (jobs.Save shape stop run mode turns serial relay)
    → served_of (jobs.Save shape stop run mode turns serial relay) ≡ Save shape serial (record { stop = stop; run = run; way = Sliced turns })
served_save shape stop run modes.Sliced turns serial relay is = refl
served_save shape stop run modes.Threads turns serial relay is = absurd is

-- what they allow of one on threads
pub threads_limits : (shape : ShapeData) (stop run : ℕ) (turns : List TurnOf) (serial : List ℕ) (relay : ℕ) → IsSave shape stop run modes.Threads turns serial relay
    → IsSave shape stop run modes.Threads [] serial relay
threads_limits shape stop run turns serial relay limits = subst (λ l. IsSave shape stop run modes.Threads l serial relay) (limits.turns_unused refl) limits

-- how it ended, told of the outside
save_failed : (shape : ShapeData) (serial : List ℕ) (phases : SavePhases) (old new : Outside) (same_output silent : Type 0) (fault : Fault) (end : End)
    → (EndsEarly shape serial phases old.image new.image same_output old.output new.output end × silent)
    ⊎ ((bytes : List ℕ) × ReadsImage shape bytes old.image new.image × ReportsFailed TakesReport (boot shape bytes serial) phases old.output new.output old.console new.console end)
    → (EndsEarly shape serial phases old.image new.image same_output old.output new.output end × silent) ⊎ Fails TakesReport TakesWhole (Some (Save shape serial phases)) fault old new end
save_failed shape serial phases old new same_output silent fault end (inl early) = inl early
save_failed shape serial phases old new same_output silent fault end (inr failed) = inr (record { image = failed.0; taken = failed.1; reported = failed.2 })

-- its work
pub save_works : (shape : ShapeData) (serial : List ℕ) (phases : SavePhases) (old new : Outside) (same : Same) (end : End) → same.input
    → (IsWorkDone end.fault → (bytes : List ℕ) × ReadsImage shape bytes old.image new.image
    × (saved : SavesMachine (boot shape bytes serial) phases old.output new.output end) × Takes end.fault (report_of Complete saved.out) old.console new.console)
    → ((fault : Fault) → end.fault ≡ Some fault → IsNotConsole fault → (EndsEarly shape serial phases old.image new.image same.output old.output new.output end × same.console)
    ⊎ ((bytes : List ℕ) × ReadsImage shape bytes old.image new.image × ReportsFailed TakesReport (boot shape bytes serial) phases old.output new.output old.console new.console end))
    → (IsUsage end.fault → ⊥) → ReadsOn (MOST_IMAGE + 1) old.image new.image → (IsNotEmpty end.fault → Leaves old.output new.output) → KeepsFull old.output new.output
    → old.console.faults ≤ new.console.faults → Works (Some (Save shape serial phases)) old new same end
save_works shape serial phases old new same end input done failed words read not_empty full count = record {
  done = λ ended. let saved = done ended in record { image = saved.0; taken = saved.1; saved = saved.2; printed = saved.3 };
  failed = λ fault is other. save_failed shape serial phases old new same.output same.console fault end (failed fault is other);
  orders = record { first = λ none. absurd none; second = λ none. absurd none };
  kept = record {
    others = input;
    input = λ _. input;
    image = λ usage. absurd (words usage);
    read = read;
    output = λ usage. absurd (words usage);
    not_empty = not_empty;
    full = full;
  };
  crash = λ usage. absurd (words usage);
  count = count;
}

-- an end with a fault that isn't the console's comes before its first call
pub before_console : (end : Option Fault) (fault : Fault) → end ≡ Some fault → IsNotConsole fault → IsBeforeConsole end
before_console None fault is other = cc is
before_console (Some faults.ConsoleFault) fault is other = absurd (let same : faults.ConsoleFault ≡ fault = cc is in subst IsNotConsole (sym same) other)
before_console (Some _) fault is other = tt
