-- From the work of a job to the end of its line.
use Rattle.std.proofs.Common.{◌≡◌, inl, inr, ℕ, ◌≤◌, List, Option, Some, None, sym, subst, arith}
use Rattle.medium.specs.Bytes.{AddsFront, BecomesTold}
use Rattle.medium.specs.States.{SinkState}
use Rattle.vm_cli.specs.Ends.{Ends}
use Rattle.vm_cli.specs.FaultLine.{fault_line}
use Rattle.vm_cli.specs.Jobs.Common.{EndsLine, Prints, PrintsBehind, PrintsLine, PrintsReport, Takes, TakesReport, TakesWhole}
use Rattle.vm_cli.specs.Outside.{End, Outside, Same, faults_of}
use Rattle.vm_cli.specs.Steps.{Console, Faults, HasCause, HasFailed, Image, Input, Object, Output}
use Rattle.vm_cli.specs.Words.{served_line}
use Rattle.vm_cli.specs.Work.{Does, Fails, Keeps, KeepsOthers, StopsEarly, Works, steps_of}
use Rattle.vm_cli.specs.declared.answer.Fault.{Fault}
use Rattle.vm_cli.specs.declared.words.Caller.{Caller}
use Rattle.vm_cli.specs.Served.{Assembly, CheckFile, Join, Layer, LazyRestore, Peek, Record, Replay, Restore, Save, Served, Workload}
use Rattle.vm_cli.proofs.Causes.{cause_later, ends_as_called_for}
use Rattle.vm_cli.proofs.Lines.{LineBehind, fronts, printed_behind, reported_later}

-- ---- The line of a fault

-- a count of the console that rose goes on having risen
later : (old : Faults) (image input output mid new : ℕ) → mid ≤ new → (object : Object) → HasFailed old (record { image = image; input = input; output = output; console = mid }) object
    → HasFailed old (record { image = image; input = input; output = output; console = new }) object
later old image input output mid new le Image failed = failed
later old image input output mid new le Input failed = failed
later old image input output mid new le Output failed = failed
later old image input output mid new le Console failed = omega (arith, failed, le)

-- ---- What was done

-- the text of a job that ended well is all that was printed
done_well : (served : Option Served) (old new : Outside) (first second : List ℕ) → Does Takes served old new (record { fault = None; first = first; second = second })
    → Does Prints served old new (record { fault = None; first = first; second = second })
done_well None old new first second did = absurd did
done_well (Some (Save shape input phases)) old new first second did = record { image = did.image; taken = did.taken; saved = did.saved; printed = did.printed }
done_well (Some Assembly) old new first second did = record { bytes = did.bytes; wrote = did.wrote; printed = did.printed }
done_well (Some CheckFile) old new first second did = record { machine = did.machine; loaded = did.loaded; printed = did.printed }
done_well (Some (Restore n)) old new first second did = record { after = did.after; phase = did.phase; printed = did.printed }
done_well (Some (LazyRestore n)) old new first second did = record { pages = did.pages; after = did.after; phase = did.phase; printed = did.printed }
done_well (Some (Peek shape at len)) old new first second did = record { bytes = did.bytes; range = did.range; printed = did.printed }
done_well (Some (Workload seed)) old new first second did = record { saved = did.saved; checked = did.checked; shape = did.shape; printed = did.printed }
done_well (Some (Layer n)) old new first second did = record { base = did.base; after = did.after; phase = did.phase; rest = did.rest; wrote = did.wrote; printed = did.printed }
done_well (Some Join) old new first second did = record { machine = did.machine; joined = did.joined; file = did.file; crash = did.crash; full = did.full; printed = did.printed }
done_well (Some (Record shape n serial)) old new first second did = record { image = did.image; taken = did.taken; after = did.after; ran = did.ran; wrote = did.wrote; printed = did.printed }
done_well (Some (Replay shape serial)) old new first second did = record { image = did.image; taken = did.taken; read = did.read; after = did.after; ran = did.ran; printed = did.printed }

-- the outside at the end of a job's work, before the line of its fault
abbrev pub before_line : Outside → SinkState → Outside
before_line it console = record { image = it.image; input = it.input; output = it.output; console = console }

abbrev pub same_before : Same → Type 0 → Same
same_before same console = record { image = same.image; input = same.input; output = same.output; console = console }

-- a front of the line of the fault stands behind a front of the text
done_badly : (served : Option Served) (old new : Outside) (mid : SinkState) (fault : Fault) (first second : List ℕ) → BecomesTold (AddsFront (fault_line fault)) mid.taken new.console.taken
    → Does Takes served old (before_line new mid) (record { fault = Some fault; first = first; second = second })
    → Does Prints served old new (record { fault = Some fault; first = first; second = second })
done_badly None old new mid fault first second line did = absurd did
done_badly (Some (Save shape input phases)) old new mid fault first second line did =
    record { image = did.image; taken = did.taken; saved = did.saved; printed = fronts _ _ _ _ _ did.printed line }
done_badly (Some Assembly) old new mid fault first second line did = record { bytes = did.bytes; wrote = did.wrote; printed = fronts _ _ _ _ _ did.printed line }
done_badly (Some CheckFile) old new mid fault first second line did = record { machine = did.machine; loaded = did.loaded; printed = fronts _ _ _ _ _ did.printed line }
done_badly (Some (Restore n)) old new mid fault first second line did = record { after = did.after; phase = did.phase; printed = fronts _ _ _ _ _ did.printed line }
done_badly (Some (LazyRestore n)) old new mid fault first second line did = record { pages = did.pages; after = did.after; phase = did.phase; printed = fronts _ _ _ _ _ did.printed line }
done_badly (Some (Peek shape at len)) old new mid fault first second line did = record { bytes = did.bytes; range = did.range; printed = fronts _ _ _ _ _ did.printed line }
done_badly (Some (Workload seed)) old new mid fault first second line did =
    record { saved = did.saved; checked = did.checked; shape = did.shape; printed = fronts _ _ _ _ _ did.printed line }
done_badly (Some (Layer n)) old new mid fault first second line did =
    record { base = did.base; after = did.after; phase = did.phase; rest = did.rest; wrote = did.wrote; printed = fronts _ _ _ _ _ did.printed line }
done_badly (Some Join) old new mid fault first second line did =
    record { machine = did.machine; joined = did.joined; file = did.file; crash = did.crash; full = did.full; printed = fronts _ _ _ _ _ did.printed line }
done_badly (Some (Record shape n serial)) old new mid fault first second line did =
    record { image = did.image; taken = did.taken; after = did.after; ran = did.ran; wrote = did.wrote; printed = fronts _ _ _ _ _ did.printed line }
done_badly (Some (Replay shape serial)) old new mid fault first second line did =
    record { image = did.image; taken = did.taken; read = did.read; after = did.after; ran = did.ran; printed = fronts _ _ _ _ _ did.printed line }

early_later : (served : Option Served) (old new : Outside) (mid : SinkState) (same : Same) (silent : Type 0) (end : End) → StopsEarly served old (before_line new mid) (same_before same silent) end
    → StopsEarly served old new same end
early_later None old new mid same silent end early = early
early_later (Some (Save shape input phases)) old new mid same silent end early = early
early_later (Some Assembly) old new mid same silent end early = early
early_later (Some CheckFile) old new mid same silent end early = early
early_later (Some (Restore n)) old new mid same silent end early = early
early_later (Some (LazyRestore n)) old new mid same silent end early = early
early_later (Some (Peek shape at len)) old new mid same silent end early = early
early_later (Some (Workload seed)) old new mid same silent end early = early
early_later (Some (Layer n)) old new mid same silent end early = early
early_later (Some Join) old new mid same silent end early = early
early_later (Some (Record shape n serial)) old new mid same silent end early = early
early_later (Some (Replay shape serial)) old new mid same silent end early = early

-- the line of a fault behind a report
failed_later : (served : Option Served) (old new : Outside) (mid : SinkState) (fault : Fault) (end : End) → LineBehind fault old.console mid new.console
    → Fails TakesReport TakesWhole served fault old (before_line new mid) end → end.fault ≡ Some fault → Fails PrintsReport PrintsBehind served fault old new end
failed_later None old new mid fault end line failed is = absurd failed
failed_later (Some (Save shape input phases)) old new mid fault end line failed is =
    record { image = failed.image; taken = failed.taken; reported = reported_later _ _ _ _ _ _ _ fault end line failed.reported is }
failed_later (Some Assembly) old new mid fault end line failed is = absurd failed
failed_later (Some CheckFile) old new mid fault end line failed is = absurd failed
failed_later (Some (Restore n)) old new mid fault end line failed is = absurd failed
failed_later (Some (LazyRestore n)) old new mid fault end line failed is = absurd failed
failed_later (Some (Peek shape at len)) old new mid fault end line failed is = absurd failed
failed_later (Some (Layer n)) old new mid fault end line failed is = absurd failed
failed_later (Some Join) old new mid fault end line failed is = absurd failed
failed_later (Some (Record shape n serial)) old new mid fault end line failed is = absurd failed
failed_later (Some (Replay shape serial)) old new mid fault end line failed is = absurd failed
failed_later (Some (Workload seed)) old new mid fault end line (inl failed) is = inl (reported_later _ _ _ _ _ _ _ fault end line failed is)
failed_later (Some (Workload seed)) old new mid fault end line (inr failed) is =
    inr (record { of_load = failed.of_load; saved = failed.saved; printed = printed_behind fault _ _ _ _ line failed.printed })

others_later : (served : Option Served) (old new : Outside) (mid : SinkState) (same : Same) (silent : Type 0) → KeepsOthers served old (before_line new mid) (same_before same silent)
    → KeepsOthers served old new same
others_later None old new mid same silent others = others
others_later (Some (Save shape input phases)) old new mid same silent others = others
others_later (Some Assembly) old new mid same silent others = others
others_later (Some CheckFile) old new mid same silent others = record { input = others.input; image = others.image; output = others.output }
others_later (Some (Restore n)) old new mid same silent others = record { input = others.input; image = others.image; output = others.output }
others_later (Some (LazyRestore n)) old new mid same silent others = record { input = others.input; image = others.image; output = others.output }
others_later (Some (Peek shape at len)) old new mid same silent others = record { input = others.input; image = others.image; output = others.output }
others_later (Some (Workload seed)) old new mid same silent others = record { image = others.image; input = others.input }
others_later (Some (Layer n)) old new mid same silent others = record { input = others.input; image = others.image }
others_later (Some Join) old new mid same silent others = others
others_later (Some (Record shape n serial)) old new mid same silent others = others
others_later (Some (Replay shape serial)) old new mid same silent others = record { input = others.input; output = others.output }

kept_later : (served : Option Served) (old new : Outside) (mid : SinkState) (same : Same) (silent : Type 0) (fault : Option Fault)
    → Keeps served old (before_line new mid) (same_before same silent) fault → Keeps served old new same fault
kept_later served old new mid same silent fault kept = record {
  others = others_later served old new mid same silent kept.others;
  input = kept.input;
  image = kept.image;
  read = kept.read;
  output = kept.output;
  not_empty = kept.not_empty;
  full = kept.full;
}

-- ---- The end of a line

-- an end by its parts
pub end_by : (caller : Caller) (words : List (List ℕ)) (old new : Outside) (same : Same) (f g : Option Fault) (a b x y : List ℕ) → g ≡ f → b ≡ a → y ≡ x
    → Ends caller words old new same (record { fault = f; first = a; second = x }) → Ends caller words old new same (record { fault = g; first = b; second = y })
end_by caller words old new same f g a b x y fault first second ends =
    subst (λ (o : Option Fault). Ends caller words old new same (record { fault = o; first = b; second = y })) (sym fault)
    (subst (λ (o : List ℕ). Ends caller words old new same (record { fault = f; first = o; second = y })) (sym first)
    (subst (λ (o : List ℕ). Ends caller words old new same (record { fault = f; first = a; second = o })) (sym second) ends))

-- of a job that ended well
ends_well : (caller : Caller) (words : List (List ℕ)) (old new : Outside) (same : Same) (silent : Type 0) (first second : List ℕ) → HasCause (faults_of old) (faults_of new) (steps_of caller words old) None
    → Works (served_line words) old new (same_before same silent) (record { fault = None; first = first; second = second })
    → Ends caller words old new same (record { fault = None; first = first; second = second })
ends_well caller words old new same silent first second cause works = record {
  cause = cause;
  complete = ends_as_called_for (faults_of old) (faults_of new) (steps_of caller words old) None cause;
  done = λ _. done_well (served_line words) old new first second (works.done tt);
  failed = λ fault is other. cc is;
  orders = works.orders;
  kept = kept_later (served_line words) old new new.console same silent None works.kept;
  crash = works.crash;
}

-- of a job that ended with a fault, whose line was printed behind what the console had taken
ends_badly : (caller : Caller) (words : List (List ℕ)) (old new : Outside) (mid : SinkState) (same : Same) (silent : Type 0) (first second : List ℕ) (fault : Fault)
    → mid.faults ≤ new.console.faults → HasCause (faults_of old) (faults_of (before_line new mid)) (steps_of caller words old) (Some fault)
    → Works (served_line words) old (before_line new mid) (same_before same silent) (record { fault = Some fault; first = first; second = second })
    → PrintsLine fault mid new.console → BecomesTold (AddsFront (fault_line fault)) mid.taken new.console.taken → (silent → mid ≡ old.console)
    → Ends caller words old new same (record { fault = Some fault; first = first; second = second })
ends_badly caller words old new mid same silent first second fault more cause works printed front stays =
    let steps = steps_of caller words old in
    let lasts : HasCause (faults_of old) (faults_of new) steps (Some fault) =
    cause_later (faults_of old) (faults_of (before_line new mid)) (faults_of new) steps (Some fault)
    (later (faults_of old) new.image.faults new.input.faults new.output.faults mid.faults new.console.faults more) cause in
    let behind : LineBehind fault old.console mid new.console = record { more = more; started = works.count; line = printed } in
    record {
      cause = lasts;
      complete = ends_as_called_for (faults_of old) (faults_of new) steps (Some fault) lasts;
      done = λ done. done_badly (served_line words) old new mid fault first second front (works.done done);
      failed = λ f is other.
          (let it : f ≡ fault = cc is in
          elim (works.failed f is other) [
            | inl (early, silent) ↦
                inl (
                  early_later (served_line words) old new mid same _ _ early,
                  subst (λ (m : SinkState). PrintsLine f m new.console) (stays silent) (subst (λ (x : Fault). PrintsLine x mid new.console) (sym it) printed),
                )
            | inr failed ↦ inr (failed_later (served_line words) old new mid f _ (subst (λ (x : Fault). LineBehind x old.console mid new.console) (sym it) behind) failed is)
          ]);
      orders = works.orders;
      kept = kept_later (served_line words) old new mid same silent (Some fault) works.kept;
      crash = works.crash;
    }

-- of a job whose work ended so, by what was printed behind it
pub ends_by : (caller : Caller) (words : List (List ℕ)) (old new : Outside) (mid : SinkState) (same : Same) (silent stays : Type 0) (first second : List ℕ) (end : Option Fault)
    → HasCause (faults_of old) (faults_of (before_line new mid)) (steps_of caller words old) end
    → Works (served_line words) old (before_line new mid) (same_before same silent) (record { fault = end; first = first; second = second })
    → EndsLine stays end mid new.console → (silent → mid ≡ old.console) → (stays → new.console ≡ mid)
    → Ends caller words old new same (record { fault = end; first = first; second = second })
ends_by caller words old new mid same silent stays first second None cause works line still is =
    let it = is line in
    ends_well caller words old new same silent first second
    (subst (λ (k : SinkState). HasCause (faults_of old) (faults_of (before_line new k)) (steps_of caller words old) None) (sym it) cause)
    (subst (λ (k : SinkState). Works (served_line words) old (before_line new k) (same_before same silent) (record { fault = None; first = first; second = second })) (sym it) works)
ends_by caller words old new mid same silent stays first second (Some fault) cause works line still is =
    ends_badly caller words old new mid same silent first second fault line.more cause works line.printed line.front still
