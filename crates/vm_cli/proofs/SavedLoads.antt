-- The load of a file that was saved.
use Rattle.std.proofs.Common.{◌≡◌, ◌⊎◌, inl, inr, ℕ, ◌≤◌, List, [], ◌∷◌, ◌++◌, Option, Some, None, Ok, option_map, refl, sym, ap, subst, ◌∙◌, arith}
use Rattle.std.specs.Prelude.{IfSome}
use Rattle.bg_saver.specs.declared.save_end.SaveEnd.TheVariants.{Complete}
use Rattle.file_plan.specs.Layout.{Lay, file_of}
use Rattle.flat_machine.specs.Machine.{MachineData}
use Rattle.loader.specs.Loaded.{loaded, refusal_in}
use Rattle.medium.specs.Crash.{Only}
use Rattle.medium.specs.States.{FileState, Leaves, SinkState}
use Rattle.medium.proofs.Taken.{front_alone, whole_then_front, whole_then_whole}
use Rattle.ram_block.specs.Shape.{ShapeData}
use Rattle.vm_cli.specs.Jobs.Common.{Takes, TakesReport, TakesWhole, print_step}
use Rattle.vm_cli.specs.Jobs.Load.{IsLoadedOf, file_fault, load_and_print_steps}
use Rattle.vm_cli.specs.Jobs.Save.{IsInstant, KeepsImages, SavesMachine, report_of, save_machine_steps}
use Rattle.vm_cli.specs.Jobs.Workload.{FailsToLoad, FailsWorkload, IsCheckedShape, IsOfLoad, load_saved_step, workload_machine, workload_phases, workload_shape, workload_steps}
use Rattle.vm_cli.specs.Outside.{End, end_of}
use Rattle.vm_cli.specs.Served.{SavePhases, Sliced}
use Rattle.vm_cli.specs.Steps.{AllPass, Faults, HasCause, IsOfStep, Step}
use Rattle.vm_cli.specs.Work.{IsNotConsole, IsNotEmpty, IsWorkDone}
use Rattle.vm_cli.specs.declared.answer.Fault.{Fault}
use Rattle.vm_cli.specs.declared.answer.Fault.TheVariants as faults
use Rattle.vm_cli.specs.declared.orders.Orders.{Orders}
use Rattle.vm_cli.specs.declared.workload.TheConstants.{RUN, STOP, VCPUS}
use Rattle.vm_report.specs.Report.{ok_line}
use Rattle.vm_words.specs.Generator.{turns_drawn}
use Rattle.vm_words.specs.Workload.{work}
use Rattle.vm_words.specs.declared.turns.TheConstants.{MAX_TURNS}
use Rattle.vm_words.specs.declared.turns.TurnOf.{TurnOf}
use Rattle.vm_cli.proofs.Boots.{boot_shape}
use Rattle.vm_cli.proofs.Causes.{always, passed, where_told}

-- ---- Steps behind others

step_behind : (old new : Faults) (steps more : List Step) (fault : Fault) → IsOfStep old new steps fault → IsOfStep old new (steps ++ more) fault
step_behind old new [] more fault of = absurd of
step_behind old new (step ∷ steps) more fault (inl call) = inl call
step_behind old new (step ∷ steps) more fault (inr (inl refusal)) = inr (inl refusal)
step_behind old new (step ∷ steps) more fault (inr (inr behind)) = inr (inr (behind.0, step_behind old new steps more fault behind.1))

-- the cause of a fault at the first steps
pub cause_behind : (old new : Faults) (steps more : List Step) (fault : Fault) → HasCause old new steps (Some fault) → HasCause old new (steps ++ more) (Some fault)
cause_behind old new steps more fault (inl memory) = inl memory
cause_behind old new steps more fault (inr of) = inr (step_behind old new steps more fault of)

-- the cause of an end at the steps behind those that passed
pub cause_past : (old new : Faults) (steps more : List Step) (end : Option Fault) → AllPass steps → HasCause old new more end → HasCause old new (steps ++ more) end
cause_past old new [] more end pass cause = cause
cause_past old new (step ∷ steps) more end pass cause = passed old new step (steps ++ more) end pass.0 (cause_past old new steps more end pass.1 cause)

-- ---- The load

-- where the output told its bytes, the file is one that loads
pub record Loads (old mid : FileState) : Type 0 where
  pub told : IfSome old.told (λ _. (i : MachineData) × (mid.told ≡ Some (file_of i)) × (loaded (file_of i) ≡ Ok i))

no_refusal : (old mid : FileState) (fault : Fault) → Loads old mid → IfSome (option_map file_fault mid.told) (λ refusal. refusal ≡ Some fault) → old.told ≡ None
no_refusal old mid fault loads refused = by_told old.told refl loads.told
  where
    by_told : (told : Option (List ℕ)) → old.told ≡ told → IfSome told (λ _. (i : MachineData) × (mid.told ≡ Some (file_of i)) × (loaded (file_of i) ≡ Ok i)) → old.told ≡ None
    by_told None is told = is
    by_told (Some bytes) is told =
        let none : file_fault (file_of told.0) ≡ None = ap (λ found. option_map (λ why. faults.FileRefused why) (refusal_in found)) told.2 in
        let some : file_fault (file_of told.0) ≡ Some fault = subst (λ (o : Option (List ℕ)). IfSome (option_map file_fault o) (λ refusal. refusal ≡ Some fault)) told.1 refused in
        cc (sym none ∙ some)

print_later : (old mid now new : Faults) (fault : Fault) → old.console ≤ mid.console → now.console ≡ new.console → IsOfStep mid now (print_step ∷ []) fault → IsOfStep old new (print_step ∷ []) fault
print_later old mid now new fault le same (inl call) = inl (call.0, omega (arith, le, same, call.1))
print_later old mid now new fault le same (inr (inl refusal)) = inr (inl refusal)
print_later old mid now new fault le same (inr (inr none)) = absurd none.1

pub load_cause : (old mid now new : Faults) (first saved : FileState) (end : Option Fault) → Loads first saved → old.output ≤ mid.input → now.input ≡ new.output → old.console ≤ mid.console
    → now.console ≡ new.console → HasCause mid now (load_and_print_steps saved) end → HasCause old new (load_saved_step first ∷ print_step ∷ []) end
load_cause old mid now new first saved None loads more is less same cause = (where_told (λ _. None) first.told (λ v. v ≡ None) (λ bytes told. refl), (refl, tt))
load_cause old mid now new first saved (Some fault) loads more is less same (inl memory) = inl memory
load_cause old mid now new first saved (Some fault) loads more is less same (inr (inl call)) = inr (inl (call.0, omega (arith, more, is, call.1)))
load_cause old mid now new first saved (Some fault) loads more is less same (inr (inr (inl refusal))) =
    inr (inr (inl (refusal.0, subst (λ (o : Option (List ℕ)). IfSome (option_map (λ _. None) o) (λ r. r ≡ Some fault)) (sym (no_refusal first saved fault loads refusal.1)) tt)))
load_cause old mid now new first saved (Some fault) loads more is less same (inr (inr (inr behind))) =
    inr (inr (inr (where_told (λ _. None) first.told (λ v. v ≡ None) (λ bytes told. refl), print_later old mid now new fault less same behind.1)))

-- the faults of a load
pub of_load : (mid now : Faults) (first saved new : FileState) (fault : Fault) → Loads first saved → first.faults ≤ mid.input → now.input ≡ new.faults → IsNotConsole fault
    → HasCause mid now (load_and_print_steps saved) (Some fault) → IsOfLoad first new fault
of_load mid now first saved new (faults.FileRefused refusal) loads more is other (inr (inr (inl refused))) = no_refusal first saved (faults.FileRefused refusal) loads refused.1
of_load mid now first saved new (faults.FileRefused refusal) loads more is other (inl memory) = cc memory
of_load mid now first saved new (faults.FileRefused refusal) loads more is other (inr (inl call)) = cc call.0
of_load mid now first saved new (faults.FileRefused refusal) loads more is other (inr (inr (inr (passes, inl call)))) = cc call.0
of_load mid now first saved new (faults.FileRefused refusal) loads more is other (inr (inr (inr (passes, inr (inl refused))))) = cc refused.0
of_load mid now first saved new (faults.FileRefused refusal) loads more is other (inr (inr (inr (passes, inr (inr none))))) = absurd none.1
of_load mid now first saved new faults.NoMemory loads more is other cause = tt
of_load mid now first saved new faults.FileFault loads more is other (inl memory) = cc memory
of_load mid now first saved new faults.FileFault loads more is other (inr (inl call)) = omega (arith, more, is, call.1)
of_load mid now first saved new faults.FileFault loads more is other (inr (inr (inl refused))) = cc refused.0
of_load mid now first saved new faults.FileFault loads more is other (inr (inr (inr (passes, inl call)))) = cc call.0
of_load mid now first saved new faults.FileFault loads more is other (inr (inr (inr (passes, inr (inl refused))))) = cc refused.0
of_load mid now first saved new faults.FileFault loads more is other (inr (inr (inr (passes, inr (inr none))))) = absurd none.1
of_load mid now first saved new _ loads more is other (inl memory) = cc memory
of_load mid now first saved new _ loads more is other (inr (inl call)) = cc call.0
of_load mid now first saved new _ loads more is other (inr (inr (inl refused))) = cc refused.0
of_load mid now first saved new _ loads more is other (inr (inr (inr (passes, inl call)))) = absurd (subst IsNotConsole call.0 other)
of_load mid now first saved new _ loads more is other (inr (inr (inr (passes, inr (inl refused))))) = cc refused.0
of_load mid now first saved new _ loads more is other (inr (inr (inr (passes, inr (inr none))))) = absurd none.1

-- it never says that the output isn't empty
pub never_full : (mid now : Faults) (saved : FileState) (end : Option Fault) (P : Type 0) → HasCause mid now (load_and_print_steps saved) end → IsNotEmpty end → P
never_full mid now saved None P cause full = absurd full
never_full mid now saved (Some (faults.NotEmpty len)) P (inl memory) full = cc memory
never_full mid now saved (Some (faults.NotEmpty len)) P (inr (inl call)) full = cc call.0
never_full mid now saved (Some (faults.NotEmpty len)) P (inr (inr (inl refused))) full = cc refused.0
never_full mid now saved (Some (faults.NotEmpty len)) P (inr (inr (inr (passes, inl call)))) full = cc call.0
never_full mid now saved (Some (faults.NotEmpty len)) P (inr (inr (inr (passes, inr (inl refused))))) full = cc refused.0
never_full mid now saved (Some (faults.NotEmpty len)) P (inr (inr (inr (passes, inr (inr none))))) full = absurd none.1
never_full mid now saved (Some _) P cause full = absurd full

-- ---- A save whose file was looked at afterwards

pub durable_still : (told : Option (List ℕ)) (i : MachineData) (mid new : FileState) → Leaves mid new → IfSome told (λ _. Only (file_of i) mid.may_leave) → IfSome told (λ _. Only (file_of i) new.may_leave)
durable_still None i mid new leaves only = tt
durable_still (Some bytes) i mid new leaves only = λ image left. only image ((leaves.images image).0 left)

pub images_still : (i : MachineData) (old mid new : FileState) → ((t : ℕ) (image : List ℕ) → t ≤ mid.moment → mid.may_leave image → mid.left_since t image) → Leaves mid new → KeepsImages i old mid
    → KeepsImages i old new
images_still i old mid new counts leaves keeps empty =
    let so_far = keeps empty in
    record {
      later = omega (arith, so_far.later, leaves.time.later);
      safe = λ image left. elim (leaves.time.nothing_else old.moment image so_far.later left) [
        | inl before ↦ so_far.safe image before
        | inr now ↦ so_far.safe image (counts old.moment image so_far.later ((leaves.images image).0 now))
      ];
    }

abbrev pub saves_after : (b : MachineData) (phases : SavePhases) (old mid new : FileState) (end later : End) → SavesMachine b phases old mid end → later.first ≡ end.first → later.second ≡ end.second
    → ((t : ℕ) (image : List ℕ) → t ≤ mid.moment → mid.may_leave image → mid.left_since t image) → Leaves mid new → SavesMachine b phases old new later
saves_after b phases old mid new end later saved first second counts leaves = record {
  instant = saved.instant;
  out = saved.out;
  first = subst (λ o. IsInstant phases.way b phases.stop o saved.instant) (sym first) saved.first;
  second = record { phase = saved.second.phase; saved = saved.second.saved; order = second ∙ saved.second.order };
  file = record {
    written = subst (λ (o : Option (List ℕ)). IfSome old.told (λ before. (before ≡ []) × (o ≡ Some (file_of saved.instant)))) (sym leaves.told) saved.file.written;
    durable = durable_still old.told saved.instant mid new leaves saved.file.durable;
    synced = leaves.syncs ∙ saved.file.synced;
    never_falls = omega (arith, saved.file.never_falls, leaves.never_falls);
    loads_back = saved.file.loads_back;
  };
  crash = images_still saved.instant old mid new counts leaves saved.crash;
}

-- the output of a complete save loads, where it tells its bytes
pub saved_loads : (b : MachineData) (phases : SavePhases) (old mid : FileState) (end : End) → SavesMachine b phases old mid end → Loads old mid
saved_loads b phases old mid end saved = record { told = by_told old.told saved.file.written }
  where
    by_told : (told : Option (List ℕ)) → IfSome told (λ before. (before ≡ []) × (mid.told ≡ Some (file_of saved.instant)))
        → IfSome told (λ _. (i : MachineData) × (mid.told ≡ Some (file_of i)) × (loaded (file_of i) ≡ Ok i))
    by_told None written = tt
    by_told (Some bytes) written = (saved.instant, written.1, saved.file.loads_back)

-- ---- The whole job

as_workload : (seed : ℕ) (P : MachineData → SavePhases → Type 0) (b : MachineData) (turns : List TurnOf) → b ≡ workload_machine seed → turns ≡ turns_drawn seed VCPUS MAX_TURNS
    → P b (record { stop = STOP; run = RUN; way = Sliced turns }) → P (workload_machine seed) (workload_phases seed)
as_workload seed P b turns same drawn p =
    subst (λ m. P m (workload_phases seed)) same (subst (λ (t : List TurnOf). P b (record { stop = STOP; run = RUN; way = Sliced t })) drawn p)

-- what was done, and how it stands on the console
abbrev pub IsDone : ℕ → FileState → FileState → SinkState → SinkState → Orders → Option Fault → Type 0
IsDone seed old new console console_now orders end =
    (saved : SavesMachine (workload_machine seed) (workload_phases seed) old new (end_of end orders)) × (checked : ShapeData) × IsCheckedShape old.told checked
    × Takes end (report_of Complete saved.out ++ ok_line checked) console console_now

-- a save that was done, before the file was loaded
abbrev pub IsSavedBy : MachineData → SavePhases → FileState → FileState → SinkState → SinkState → Orders → Option Fault → Type 0
IsSavedBy b phases old new console console_now orders end =
    (saved : SavesMachine b phases old new (end_of end orders)) × Takes end (report_of Complete saved.out) console console_now

-- the report was cut
pub cut_done : (seed : ℕ) (b : MachineData) (turns : List TurnOf) (old new : FileState) (console console_now : SinkState) (orders : Orders) (end : Option Fault) (fault : Fault) → b ≡ workload_machine seed
    → turns ≡ turns_drawn seed VCPUS MAX_TURNS → end ≡ Some fault → (IsWorkDone (Some fault) → IsSavedBy b (record { stop = STOP; run = RUN; way = Sliced turns }) old new console console_now orders (Some fault))
    → IsWorkDone end → IsDone seed old new console console_now orders end
cut_done seed b turns old new console console_now orders end fault same drawn is did done =
    let now = as_workload seed (λ m p. IsSavedBy m p old new console console_now orders (Some fault)) b turns same drawn (did (subst IsWorkDone is done)) in
    subst (IsDone seed old new console console_now orders) (sym is)
    (now.0, workload_shape, always old.told (λ _. workload_shape ≡ workload_shape) (λ bytes. refl), front_alone (report_of Complete now.0.out) (ok_line workload_shape) console.taken console_now.taken now.1)

both_texts : (text line : List ℕ) (end : Option Fault) (old mid new : SinkState) → Takes None text old mid → Takes end line mid new → Takes end (text ++ line) old new
both_texts text line None old mid new one two = whole_then_whole text line old.taken mid.taken new.taken one two
both_texts text line (Some fault) old mid new one two = whole_then_front text line old.taken mid.taken new.taken one two

-- the machine that was loaded has the shape of the guest
shape_checked : (seed : ℕ) (old mid : FileState) (end : End) (m : MachineData) → SavesMachine (workload_machine seed) (workload_phases seed) old mid end
    → ((file : List ℕ) (k : MachineData) → Lay file k → loaded file ≡ Ok k) → IsLoadedOf mid m → IsCheckedShape old.told m.shape
shape_checked seed old mid end m saved law is = by_told old.told saved.file.written
  where
    lay : mid.told ≡ Some (file_of saved.instant) → Lay (file_of saved.instant) m
    lay told = subst (λ (o : Option (List ℕ)). IfSome o (λ file. Lay file m)) told is.layout

    by_told : (told : Option (List ℕ)) → IfSome told (λ before. (before ≡ []) × (mid.told ≡ Some (file_of saved.instant))) → IfSome told (λ _. m.shape ≡ workload_shape)
    by_told None written = tt
    by_told (Some bytes) written =
        let same : saved.instant ≡ m = cc (sym saved.file.loads_back ∙ law (file_of saved.instant) m (lay written.1)) in
        sym (ap (λ (k : MachineData). k.shape) same) ∙ saved.first.shape ∙ boot_shape workload_shape (work seed) []

pub whole_done : (seed : ℕ) (b : MachineData) (turns : List TurnOf) (old mid new : FileState) (console between now : SinkState) (orders : Orders) (end : Option Fault) → b ≡ workload_machine seed
    → turns ≡ turns_drawn seed VCPUS MAX_TURNS → IsSavedBy b (record { stop = STOP; run = RUN; way = Sliced turns }) old mid console between orders None
    → ((t : ℕ) (image : List ℕ) → t ≤ mid.moment → mid.may_leave image → mid.left_since t image) → ((file : List ℕ) (k : MachineData) → Lay file k → loaded file ≡ Ok k) → Leaves mid new
    → (m : MachineData) × IsLoadedOf mid m × Takes end (ok_line m.shape) between now → IsDone seed old new console now orders end
whole_done seed b turns old mid new console between now orders end same drawn did counts law leaves loaded_so =
    let saved = as_workload seed (λ m p. IsSavedBy m p old mid console between orders None) b turns same drawn did in (
      saves_after _ _ old mid new (end_of None orders) (end_of end orders) saved.0 refl refl counts leaves,
      loaded_so.0.shape,
      shape_checked seed old mid (end_of None orders) loaded_so.0 saved.0 law loaded_so.1,
      both_texts (report_of Complete saved.0.out) (ok_line loaded_so.0.shape) end console between now saved.1 loaded_so.2,
    )

-- the load failed, and nothing was printed for it
pub load_failed : (seed : ℕ) (b : MachineData) (turns : List TurnOf) (old mid new : FileState) (console between : SinkState) (orders : Orders) (end : Option Fault) (fault : Fault) (from to : Faults)
    → b ≡ workload_machine seed → turns ≡ turns_drawn seed VCPUS MAX_TURNS → IsSavedBy b (record { stop = STOP; run = RUN; way = Sliced turns }) old mid console between orders None
    → ((t : ℕ) (image : List ℕ) → t ≤ mid.moment → mid.may_leave image → mid.left_since t image) → Leaves mid new → end ≡ Some fault → IsNotConsole fault
    → from.input ≡ mid.faults → to.input ≡ new.faults → HasCause from to (load_and_print_steps mid) end
    → FailsToLoad TakesWhole seed fault old new console between (end_of end orders)
load_failed seed b turns old mid new console between orders end fault from to same drawn did counts leaves is other was now cause =
    let saved = as_workload seed (λ m p. IsSavedBy m p old mid console between orders None) b turns same drawn did in
    record {
      of_load = of_load from to old mid new fault (saved_loads _ _ old mid (end_of None orders) saved.0) (omega (arith, saved.0.file.never_falls, was)) now other (subst (HasCause from to (load_and_print_steps mid)) is cause);
      saved = saves_after _ _ old mid new (end_of None orders) (end_of end orders) saved.0 refl refl counts leaves;
      printed = saved.1;
    }

-- as the end of the job has it
pub fails_later : (seed : ℕ) (b : MachineData) (turns : List TurnOf) (old mid new : FileState) (console between now : SinkState) (orders : Orders) (end : Option Fault) (fault : Fault) (from to : Faults)
    → b ≡ workload_machine seed → turns ≡ turns_drawn seed VCPUS MAX_TURNS → IsSavedBy b (record { stop = STOP; run = RUN; way = Sliced turns }) old mid console between orders None
    → ((t : ℕ) (image : List ℕ) → t ≤ mid.moment → mid.may_leave image → mid.left_since t image) → Leaves mid new → end ≡ Some fault → IsNotConsole fault
    → from.input ≡ mid.faults → to.input ≡ new.faults → HasCause from to (load_and_print_steps mid) end → now ≡ between
    → {P : Type 0} → P ⊎ FailsWorkload TakesReport TakesWhole seed fault old new console now (end_of end orders)
fails_later seed b turns old mid new console between now orders end fault from to same drawn did counts leaves is other was then cause silent =
    inr (inr (subst (λ (k : SinkState). FailsToLoad TakesWhole seed fault old new console k (end_of end orders)) (sym silent)
    (load_failed seed b turns old mid new console between orders end fault from to same drawn did counts leaves is other was then cause)))

-- the cause of the end
pub whole_cause : (seed : ℕ) (b : MachineData) (turns : List TurnOf) (old mid new : FileState) (console between : SinkState) (orders : Orders) (first last from to : Faults) (end : Option Fault)
    → b ≡ workload_machine seed → turns ≡ turns_drawn seed VCPUS MAX_TURNS → IsSavedBy b (record { stop = STOP; run = RUN; way = Sliced turns }) old mid console between orders None
    → first.output ≡ old.faults → last.output ≡ new.faults → from.input ≡ mid.faults → to.input ≡ new.faults → first.console ≤ from.console → to.console ≡ last.console
    → AllPass (save_machine_steps old) → HasCause from to (load_and_print_steps mid) end → HasCause first last (workload_steps old) end
whole_cause seed b turns old mid new console between orders first last from to end same drawn did was is had has less more pass cause =
    let saved = as_workload seed (λ m p. IsSavedBy m p old mid console between orders None) b turns same drawn did in
    cause_past first last (save_machine_steps old) (load_saved_step old ∷ print_step ∷ []) end pass
    (load_cause first from to last old mid end (saved_loads _ _ old mid (end_of None orders) saved.0) (omega (arith, saved.0.file.never_falls, was, had)) (has ∙ sym is) less more cause)
