-- The cause of each end of a lazy restore, and what it did.
use Rattle.std.proofs.Common.{◌≡◌, inl, inr, ℕ, ◌≤◌, List, length, Option, Some, None, Err, IfSome, option_map, refl, sym, ap, subst, ◌∙◌, arith}
use Rattle.file_plan.specs.Layout.{Lay}
use Rattle.flat_machine.specs.Machine.{MachineData}
use Rattle.flat_machine.specs.Run.{rounds}
use Rattle.lazy_restore.specs.Answers.{LeavesFinish, Opens, ShowsLoaded}
use Rattle.lazy_restore.specs.Lazy.{IsLazy, IsWhole, LazyData, shown}
use Rattle.lazy_restore.specs.Rest.{IsFirstCut}
use Rattle.loader.specs.Loaded.{refusal_in}
use Rattle.loader.specs.declared.refusal.Refusal.TheVariants.{Truncated}
use Rattle.medium.specs.Count.{HasRisen}
use Rattle.medium.specs.States.{FileState}
use Rattle.ram_block.specs.Shape.{ShapeData, total_pages_of}
use Rattle.page_peek.specs.declared.fault.PageFault.{PageFault}
use Rattle.page_peek.specs.declared.fault.PageFault.TheVariants as pages
use Rattle.vm_cli.specs.Jobs.LazyRestore.{IsOfPage, RunsByTouch, StopsLazily, lazy_steps, read_pages_step}
use Rattle.vm_cli.specs.Jobs.Load.{file_fault, load_step}
use Rattle.vm_cli.specs.LazyRun.{FailsToRun, IsUncut, IsUnread, RunsPhase, page_fault_of}
use Rattle.vm_cli.specs.Steps.{Faults, HasCause, Passes}
use Rattle.vm_cli.specs.declared.answer.Fault.{Fault}
use Rattle.vm_cli.specs.declared.answer.Fault.TheVariants as faults
use Rattle.vm_cli.proofs.Causes.{told_fact, where_told}
use Rattle.vm_cli.proofs.LazyRuns.{uncut_untold}

-- ---- A file that was opened

-- was not refused
pub opened_passes : (input : FileState) (d : LazyData) → Opens input.told d → Passes (load_step input)
opened_passes input d opens =
    where_told file_fault input.told (λ v. v ≡ None)
    (λ file is. ap (λ found. option_map (λ why. faults.FileRefused why) (refusal_in found)) (told_fact (λ bytes. ShowsLoaded bytes d) input.told file opens.shows is).loads)

pub read_passes : (input : FileState) → Passes (read_pages_step input)
read_passes input = where_told (λ file. None) input.told (λ v. v ≡ None) (λ file is. refl)

-- none of its pages is cut
pub opened_uncut : (told now : Option (List ℕ)) (d : LazyData) → now ≡ told → IfSome told (λ file. ShowsLoaded file d) → IsUncut now d
opened_uncut None None d same shows = tt
opened_uncut None (Some file) d same shows = absurd (cc same)
opened_uncut (Some file) now d same shows = subst (λ (o : Option (List ℕ)). IsUncut o d) (sym same) shows.whole

-- ---- Causes

untold_verdict : (told : Option (List ℕ)) (fault : Fault) → told ≡ None → IfSome (option_map (λ (file : List ℕ). None) told) (λ (refusal : Option Fault). refusal ≡ Some fault)
untold_verdict told fault none = subst (λ (o : Option (List ℕ)). IfSome (option_map (λ (file : List ℕ). None) o) (λ (refusal : Option Fault). refusal ≡ Some fault)) (sym none) tt

-- a page that wasn't read
pub unread_cause : (old new : Faults) (input before now : FileState) (d : LazyData) (fault : Fault) → Opens input.told d → before.told ≡ input.told → old.input ≤ before.faults → now.faults ≡ new.input
    → FailsToRun before now fault → HasCause old new (lazy_steps input) (Some fault)
unread_cause old new input before now d faults.NoMemory opens same le is failed = inl refl
unread_cause old new input before now d faults.FileFault opens same le is failed =
    let rose : HasRisen old.input new.input = omega (arith, failed, le, is) in
    inr (inr (inr (opened_passes input d opens, inl (refl, rose))))
unread_cause old new input before now d (faults.FileRefused (Truncated at)) opens same le is failed =
    inr (inr (inr (opened_passes input d opens, inr (inl (refl, untold_verdict input.told (faults.FileRefused (Truncated at)) (sym same ∙ failed))))))
unread_cause old new input before now d _ opens same le is failed = absurd failed

-- a page that wasn't read when the phase had ended
first_cut : (told : Option (List ℕ)) (e : LazyData) (at : ℕ) → IsLazy e → IsFirstCut told e.peek e.touched at → IfSome told (λ file. IsWhole file e → ⊥)
first_cut None e at lazy cut = tt
first_cut (Some file) e at lazy cut = λ whole. whole cut.page (omega (arith, cut.within, ap (λ (s : ShapeData). total_pages_of s) lazy.shape)) cut.cut.cut

pub finish_unread : (before now : FileState) (e : LazyData) (fault : PageFault) → IsLazy e → IsUncut before.told e → LeavesFinish before now e (Err fault) → IsUnread before now (page_fault_of fault)
finish_unread before now e (pages.Truncated at) lazy whole left = uncut_untold before.told e whole (first_cut before.told e at lazy left)
finish_unread before now e pages.ReadFault lazy whole left = left

pub unread_runs : (before now : FileState) (fault : PageFault) → IsUnread before now (page_fault_of fault) → FailsToRun before now (page_fault_of fault)
unread_runs before now (pages.Truncated at) unread = unread
unread_runs before now pages.ReadFault unread = unread

-- ---- What was done

run_by_touch : (file : List ℕ) (n : ℕ) (d e : LazyData) (order : List ℕ) (count : ℕ) (after : MachineData) → ShowsLoaded file d → RunsPhase n file d order e → after ≡ shown file e → count ≡ length e.touched
    → RunsByTouch n file order count after
run_by_touch file n d e order count after shows phase is counts = record {
  machine = shown file d;
  layout = shows.layout;
  by_rounds = phase.by_rounds;
  ran = phase.run.ran ∙ ap Some (sym is);
  touched = counts ∙ ap length phase.run.touched;
}

-- the phase ran, and the whole machine is the one that was shown
pub ran_by_touch : (told before now : Option (List ℕ)) (n : ℕ) (d e : LazyData) (order : List ℕ) (count : ℕ) (after : MachineData) → before ≡ told → now ≡ told → IfSome told (λ file. ShowsLoaded file d)
    → IfSome before (λ file. RunsPhase n file d order e) → IfSome now (λ file. after ≡ shown file e) → count ≡ length e.touched → IfSome told (λ file. RunsByTouch n file order count after)
ran_by_touch None before now n d e order count after same again shows phase is counts = tt
ran_by_touch (Some file) before now n d e order count after same again shows phase is counts =
    run_by_touch file n d e order count after shows (told_fact (λ f. RunsPhase n f d order e) before file phase same) (told_fact (λ f. after ≡ shown f e) now file is again) counts

-- the phase had ended, and a page that it hadn't touched wasn't read
of_page : (input before now : FileState) (fault : PageFault) → before.told ≡ input.told → IsUnread before now (page_fault_of fault) → IsOfPage input (Some (page_fault_of fault))
of_page input before now (pages.Truncated at) same unread = sym same ∙ unread
of_page input before now pages.ReadFault same unread = tt

phase_order : (told before : Option (List ℕ)) (n : ℕ) (d e : LazyData) (order : List ℕ) → before ≡ told → IfSome told (λ file. ShowsLoaded file d) → IfSome before (λ file. RunsPhase n file d order e)
    → IfSome told (λ file. (m : MachineData) × Lay file m × (order ≡ rounds m n))
phase_order None before n d e order same shows phase = tt
phase_order (Some file) before n d e order same shows phase = (shown file d, shows.layout, (told_fact (λ f. RunsPhase n f d order e) before file phase same).by_rounds)

pub ends_behind : (input mid before now : FileState) (n : ℕ) (d e : LazyData) (order : List ℕ) (fault : PageFault) → mid.told ≡ input.told → before.told ≡ input.told → IfSome input.told (λ file. ShowsLoaded file d)
    → IfSome mid.told (λ file. RunsPhase n file d order e) → IsUnread before now (page_fault_of fault) → StopsLazily n input (Some (page_fault_of fault)) order
ends_behind input mid before now n d e order fault same again shows phase unread =
    inr (record { of_page = of_page input before now fault again unread; phase = phase_order input.told mid.told n d e order same shows phase })
