-- A run of a machine that is restored page by page goes on as a run without a file does.
use Rattle.std.proofs.Common.{◌≡◌, inl, inr, true, false, ℕ, ◌+◌, ◌*◌, ◌<◌, ◌≤◌, Bool, List, [], ◌∷◌, ◌++◌, length, map, get_or, take, Option, Some, None, IfSome, refl, sym, ◌∙◌, ap, subst, arith}
use Rattle.std.specs.Prelude.{◌||◌, ◌==◌, if◌then◌else◌, slice_get, slice_index}
use Rattle.std.specs.List.{range_with_len}
use Rattle.std.specs.Option.{option_map_or}
use Rattle.std.proofs.lemmas.Bool.{cases_eq}
use Rattle.std.proofs.lemmas.List.{map-append, take_more}
use Rattle.std.proofs.lemmas.Option.{get_or_from_slice_get}
use Rattle.std.proofs.Math.Seq.{take-length}
use Rattle.loader.specs.declared.refusal.Refusal.TheVariants.{Truncated}
use Rattle.medium.specs.States.{FileState, Leaves}
use Rattle.vm_cli.specs.declared.answer.Fault.{Fault}
use Rattle.vm_cli.specs.declared.answer.Fault.TheVariants as faults
use Rattle.rv64i_step.specs.Vcpu.{VcpuData}
use Rattle.flat_machine.specs.Laws.{event_cell}
use Rattle.flat_machine.specs.Machine.{MachineData}
use Rattle.flat_machine.specs.Next.{next}
use Rattle.flat_machine.specs.Run.{Progress, ended_at, ends_of, halted_at, is_halted, round, rounds_on, rounds_run, run_on, steps_of, turn, turns, vcpu_ended, with_event}
use Rattle.flat_machine.specs.Touched.{touched, touched_after, with_cell}
use Rattle.flat_machine.proofs.Runs.{run-push}
use Rattle.flat_machine.proofs.Touched.{touched-push}
use Rattle.flat_machine.proofs.Turns.{no_round, no_turn, round_more, turn_more}
use Rattle.lazy_restore.specs.Answers.{Steps}
use Rattle.lazy_restore.specs.Lazy.{IsWhole, LazyData, shown}
use Rattle.lazy_restore.proofs.Stepped.{same_cell, whole_on}
use Rattle.vm_cli.specs.LazyRun.{GoesOn, GoesOnTold, IsUncut, IsUnread, RunsPhase, progress_in}

-- ---- Whether a phase has ended

-- by the vCPU
pub ended_is : (m : MachineData) (k until : ℕ) (v : VcpuData) (b : Bool) → slice_get m.vcpus k ≡ Some v → b ≡ vcpu_ended until v → ended_at until m k ≡ b
ended_is m k until v b there is = ap (λ (o : Option VcpuData). option_map_or (vcpu_ended until) o true) there ∙ sym is

halted_ends : (until : ℕ) (o : Option VcpuData) → option_map_or (λ (v : VcpuData). is_halted v.state) o true ≡ true → option_map_or (vcpu_ended until) o true ≡ true
halted_ends until None is = refl
halted_ends until (Some v) is = ap (λ (b : Bool). b || (v.steps == until)) is

-- that of a halted vCPU has
pub halted_has_ended : (m : MachineData) (k until : ℕ) → halted_at m k ≡ true → ended_at until m k ≡ true
halted_has_ended m k until is = halted_ends until (slice_get m.vcpus k) is

-- the machine shown has the vCPUs that are held
ended_shown : (file : List ℕ) (d : LazyData) (until k : ℕ) → ended_at until (shown file d) k ≡ ended_at until d.machine k
unfolding shown
ended_shown file d until k = refl

cell_shown : (file : List ℕ) (d : LazyData) (k : ℕ) → event_cell (shown file d) k ≡ event_cell d.machine k
unfolding shown
cell_shown file d k = same_cell d.machine (shown file d) k refl refl

-- ---- A turn

by_end : (ends : List ℕ) (p : Progress) (k : ℕ) (b : Bool) → ended_at (slice_index ends k) p.machine k ≡ b → turn ends p k ≡ (if b then p else with_event p k (next p.machine k))
unfolding turn
by_end ends p k b is = ap (λ (c : Bool). if c then p else with_event p k (next p.machine k)) is

-- a vCPU whose phase has ended makes no event
pub stays : (told : Option (List ℕ)) (d : LazyData) (order ends : List ℕ) (k until : ℕ) → slice_index ends k ≡ until → ended_at until d.machine k ≡ true
    → GoesOnTold told (λ p. turn ends p k) d order d order
stays None d order ends k until is ended = tt
stays (Some file) d order ends k until is ended = record {
  progress = sym (by_end ends (progress_in file d order) k true (ap (λ (u : ℕ). ended_at u (shown file d) k) is ∙ ended_shown file d until k ∙ ended));
  run = λ m has. has;
}

-- another one makes one
pub moves : (told : Option (List ℕ)) (d e : LazyData) (order ends after : List ℕ) (k until : ℕ) → after ≡ order ++ k ∷ [] → slice_index ends k ≡ until → ended_at until d.machine k ≡ false
    → IsUncut told d → Steps told d k e → GoesOnTold told (λ p. turn ends p k) d order e after
moves None d e order ends after k until made is going whole step = tt
moves (Some file) d e order ends after k until made is going whole step =
    let moved = step.shown whole in
    subst (λ (o : List ℕ). GoesOn file (λ p. turn ends p k) d order e o) (sym made)
    (record {
      progress = sym (
          by_end ends (progress_in file d order) k false (ap (λ (u : ℕ). ended_at u (shown file d) k) is ∙ ended_shown file d until k ∙ going)
          ∙ ap (with_event (progress_in file d order) k) moved
          );
      run = λ m has. record {
        ran = run-push m (shown file d) order k has.ran ∙ moved;
        touched =
            step.touched ∙ ap (λ (pages : List ℕ). with_cell pages (event_cell d.machine k)) has.touched
            ∙ ap (with_cell (touched m order)) (sym (cell_shown file d k)) ∙ sym (touched-push m (shown file d) order k has.ran);
      };
    })

-- what it leaves uncut
pub uncut_on : (told now : Option (List ℕ)) (d e : LazyData) → now ≡ told → e.machine.shape ≡ d.machine.shape → e.peek ≡ d.peek → IsUncut told d → IsUncut now e
uncut_on None None d e same shape peek whole = tt
uncut_on None (Some file) d e same shape peek whole = absurd (cc same)
uncut_on (Some file) now d e same shape peek whole = subst (λ (o : Option (List ℕ)). IsUncut o e) (sym same) (whole_on file d e shape peek whole)

-- a page is cut only over a file that doesn't tell its bytes
pub uncut_untold : (told : Option (List ℕ)) (d : LazyData) → IsUncut told d → IfSome told (λ file. IsWhole file d → ⊥) → told ≡ None
uncut_untold None d whole cut = refl
uncut_untold (Some file) d whole cut = absurd (cut whole)

-- no vCPU has more than one step more
steps_at : (m n : MachineData) (k j most : ℕ) → k ≡ j → steps_of n k ≤ steps_of m k + 1 → steps_of m j ≤ most → steps_of n j ≤ most + 1
steps_at m n k j most same one le = subst (λ (i : ℕ). steps_of n i ≤ most + 1) same (let at : steps_of m k ≤ most = subst (λ (i : ℕ). steps_of m i ≤ most) (sym same) le in omega (arith, one, at))

pub steps_more : (told : Option (List ℕ)) (d e : LazyData) (k most : ℕ) → Steps told d k e → ((j : ℕ) → steps_of d.machine j ≤ most) → (j : ℕ) → steps_of e.machine j ≤ most + 1
steps_more told d e k most step le j = elim (cases_eq j k) as (λ _. steps_of e.machine j ≤ most + 1) [
  | inl same ↦ steps_at d.machine e.machine k j most (sym same) step.steps (le j)
  | inr other ↦
      (let stays : steps_of e.machine j ≡ steps_of d.machine j = ap (λ (o : Option VcpuData). option_map_or (λ (v : VcpuData). v.steps) o 0) (step.others j other) in
      omega (arith, stays, le j))
]

-- a page that wasn't read later on wasn't read since the start
pub unread_since : (old mid now : FileState) (fault : Fault) → Leaves old mid → IsUnread mid now fault → IsUnread old now fault
unread_since old mid now faults.FileFault leaves unread = omega (arith, unread, leaves.never_falls)
unread_since old mid now (faults.FileRefused (Truncated at)) leaves unread = sym leaves.told ∙ unread
unread_since old mid now _ leaves unread = absurd unread

-- ---- Turns and rounds

-- nothing was done so far
starts : (file : List ℕ) (does : Progress → Progress) (d : LazyData) (order : List ℕ) → progress_in file d order ≡ does (progress_in file d order) → GoesOn file does d order d order
starts file does d order same = record { progress = same; run = λ m has. has }

pub no_turns : (told : Option (List ℕ)) (ends : List ℕ) (d : LazyData) (order : List ℕ) → GoesOnTold told (λ p. turns ends p (range_with_len 0 0)) d order d order
no_turns None ends d order = tt
no_turns (Some file) ends d order = starts file (λ p. turns ends p (range_with_len 0 0)) d order (no_turn ends (progress_in file d order))

pub no_rounds : (told : Option (List ℕ)) (ends : List ℕ) (d : LazyData) (order : List ℕ) → order ≡ [] → GoesOnTold told (rounds_on ends 0) d [] d order
no_rounds None ends d order none = tt
no_rounds (Some file) ends d order none =
    subst (λ (o : List ℕ). GoesOn file (rounds_on ends 0) d [] d o) (sym none) (starts file (rounds_on ends 0) d [] (no_round ends (progress_in file d [])))

-- one more
pub turns_on : (told now : Option (List ℕ)) (ends : List ℕ) (k : ℕ) (d e g : LazyData) (o p q : List ℕ) → now ≡ told
    → GoesOnTold told (λ x. turns ends x (range_with_len 0 k)) d o e p → GoesOnTold now (λ x. turn ends x k) e p g q
    → GoesOnTold told (λ x. turns ends x (range_with_len 0 (k + 1))) d o g q
turns_on None now ends k d e g o p q same so_far more = tt
turns_on (Some file) None ends k d e g o p q same so_far more = absurd (cc same)
turns_on (Some file) (Some other) ends k d e g o p q same so_far more =
    let here : GoesOn file (λ x. turn ends x k) e p g q = subst (λ (f : Option (List ℕ)). GoesOnTold f (λ x. turn ends x k) e p g q) same more in
    record {
      progress = turn_more ends (progress_in file d o) (progress_in file e p) (progress_in file g q) k so_far.progress here.progress;
      run = λ m has. here.run m (so_far.run m has);
    }

pub rounds_go_on : (told now : Option (List ℕ)) (ends : List ℕ) (r : ℕ) (d e g : LazyData) (o p q : List ℕ) → now ≡ told
    → GoesOnTold told (rounds_on ends r) d o e p → GoesOnTold now (round ends) e p g q → GoesOnTold told (rounds_on ends (r + 1)) d o g q
rounds_go_on None now ends r d e g o p q same so_far more = tt
rounds_go_on (Some file) None ends r d e g o p q same so_far more = absurd (cc same)
rounds_go_on (Some file) (Some other) ends r d e g o p q same so_far more =
    let here : GoesOn file (round ends) e p g q = subst (λ (f : Option (List ℕ)). GoesOnTold f (round ends) e p g q) same more in
    record {
      progress = round_more ends (progress_in file d o) (progress_in file e p) (progress_in file g q) r so_far.progress here.progress;
      run = λ m has. here.run m (so_far.run m has);
    }

-- a turn of each vCPU is a round
pub whole_round : (told : Option (List ℕ)) (ends : List ℕ) (k : ℕ) (d e : LazyData) (o p : List ℕ) → k ≡ length ends
    → GoesOnTold told (λ x. turns ends x (range_with_len 0 k)) d o e p → GoesOnTold told (round ends) d o e p
whole_round told ends k d e o p all so_far = subst (λ (n : ℕ). GoesOnTold told (λ x. turns ends x (range_with_len 0 n)) d o e p) all so_far

-- ---- A phase

-- the ends of the phases so far, with that of one vCPU more
pub ends_more : (vcpus : List VcpuData) (n k end : ℕ) (v : VcpuData) (ends after : List ℕ) → slice_get vcpus k ≡ Some v → k < length vcpus → end ≡ v.steps + n → ends ≡ map (λ (w : VcpuData). w.steps + n) (take k vcpus)
    → after ≡ ends ++ end ∷ [] → after ≡ map (λ (w : VcpuData). w.steps + n) (take (k + 1) vcpus)
ends_more vcpus n k end v ends after there within is so_far now =
    let f : VcpuData → ℕ = λ w. w.steps + n in
    now ∙ ap (λ (l : List ℕ). l ++ end ∷ []) so_far ∙ ap (λ e. map f (take k vcpus) ++ e ∷ []) (is ∙ ap f (sym (get_or_from_slice_get vcpus k v v there)))
    ∙ sym (map-append f (take k vcpus) (get_or vcpus k v ∷ [])) ∙ ap (map f) (sym (take_more vcpus k v within))

pub ends_all : (vcpus : List VcpuData) (n k : ℕ) (ends : List ℕ) → k ≡ length vcpus → ends ≡ map (λ (w : VcpuData). w.steps + n) (take k vcpus) → ends ≡ map (λ (w : VcpuData). w.steps + n) vcpus
ends_all vcpus n k ends all so_far = so_far ∙ ap (λ i. map (λ (w : VcpuData). w.steps + n) (take i vcpus)) all ∙ ap (map (λ (w : VcpuData). w.steps + n)) (take-length vcpus)

ends_shown : (file : List ℕ) (d : LazyData) (n : ℕ) → ends_of (shown file d) n ≡ map (λ (v : VcpuData). v.steps + n) d.machine.vcpus
unfolding shown ends_of
ends_shown file d n = refl

phase_told : (file : List ℕ) (d e : LazyData) (n : ℕ) (ends order : List ℕ) → ends ≡ map (λ (v : VcpuData). v.steps + n) d.machine.vcpus → d.touched ≡ []
    → GoesOn file (rounds_on ends (2 * n)) d [] e order → RunsPhase n file d order e
unfolding rounds_run run_on touched_after
phase_told file d e n ends order are none goes = record {
  by_rounds =
      ap (λ (p : Progress). p.order) goes.progress
      ∙ ap (λ (l : List ℕ). (rounds_on l (2 * n) (progress_in file d [])).order) (are ∙ sym (ends_shown file d n));
  run = goes.run (shown file d) (record { ran = refl; touched = none });
}

-- the rounds to the ends of the phases are a phase
pub runs_phase : (told : Option (List ℕ)) (d e : LazyData) (n most : ℕ) (ends order : List ℕ) → ends ≡ map (λ (v : VcpuData). v.steps + n) d.machine.vcpus → d.touched ≡ [] → most ≡ 2 * n
    → GoesOnTold told (rounds_on ends most) d [] e order → IfSome told (λ file. RunsPhase n file d order e)
runs_phase None d e n most ends order are none twice goes = tt
runs_phase (Some file) d e n most ends order are none twice goes =
    phase_told file d e n ends order are none (subst (λ (r : ℕ). GoesOn file (rounds_on ends r) d [] e order) twice goes)
