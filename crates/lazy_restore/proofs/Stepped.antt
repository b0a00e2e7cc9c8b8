-- A step: the page of the event is there, and then the event is made.
use Rattle.std.proofs.Common.{◌≡◌, ◌≢◌, inl, inr, true, false, ℕ, ◌+◌, ◌<◌, ◌≤◌, Bool, List, [], ◌∷◌, ◌++◌, Some, None, Option, Ok, Err, IfSome, refl, sym, ◌∙◌, ap, subst, arith}
use Rattle.std.specs.Prelude.{slice_get, if◌then◌else◌}
use Rattle.std.proofs.lemmas.Bool.{cases_Bool}
use Rattle.std.proofs.lemmas.Option.{none-some}
use Rattle.medium.proofs.Told.{when_told}
use Rattle.medium.specs.States.{FileState}
use Rattle.ram_block.specs.PageLinks.{is_listed}
use Rattle.ram_block.specs.Shape.{total_pages_of}
use Rattle.rv64i_step.specs.Event.{request_of}
use Rattle.rv64i_step.specs.Vcpu.{VcpuData}
use Rattle.rv64i_step.specs.Outcome.{Halting, Awaiting, Finishing}
use Rattle.flat_machine.specs.Cell.{CellName, PageCell, SerialCell, TimerCell}
use Rattle.flat_machine.specs.Laws.{EventOutcome, OfFetch, OfAccess, cell_of_next, event_cell}
use Rattle.flat_machine.specs.Machine.{IsMachine, MachineData}
use Rattle.flat_machine.specs.Next.{next}
use Rattle.flat_machine.specs.Run.{halted_at, steps_of}
use Rattle.flat_machine.specs.Step.{StepsTo}
use Rattle.flat_machine.specs.Touched.{with_cell}
use Rattle.flat_machine.specs.declared.step.Stepped.{Stepped}
use Rattle.flat_machine.specs.declared.step.Stepped.TheVariants.{Event, Halted}
use Rattle.flat_machine.proofs.Events.{next_touches}
use Rattle.flat_machine.proofs.Frames.{event_cell-is, next_keeps}
use Rattle.flat_machine.proofs.Inside.{asked_served}
use Rattle.flat_machine.proofs.Outcomes.{halted_none, option_cases, served_next_event}
use Rattle.flat_machine.proofs.Phases.{steps_of-is}
use Rattle.flat_machine.proofs.Servable.{machine_serves}
use Rattle.flat_machine.proofs.Served as served
use Rattle.page_peek.specs.Peeked.{IsCutPage, PeekData, page_in}
use Rattle.page_peek.specs.declared.fault.PageFault.{PageFault}
use Rattle.page_peek.specs.declared.fault.PageFault.TheVariants as pages
use Rattle.lazy_restore.specs.Answers.{LeavesReach, LeavesStep, Steps, Touches, failed_step, step_of}
use Rattle.lazy_restore.specs.Lazy.{IsLazy, IsWhole, LazyData, new_page, page_of_cell, shown}
use Rattle.lazy_restore.specs.declared.answer.LazyStep.{LazyStep}
use Rattle.lazy_restore.specs.declared.answer.LazyStep.TheVariants as answers
use Rattle.lazy_restore.proofs.Moved.{event_shows, holding}
use Rattle.lazy_restore.proofs.Touched.{listed_last, put_in, touch_shows}

-- ---- What an event touches

-- machines with the same vCPUs touch the same
pub same_cell : (m n : MachineData) (k : ℕ) → n.shape ≡ m.shape → n.vcpus ≡ m.vcpus → event_cell n k ≡ event_cell m k
unfolding event_cell
same_cell m n k shape vcpus = λ i. cell_of_next (shape i) (slice_get (vcpus i) k)

-- a vCPU that touches something is there
stands : (m : MachineData) (k : ℕ) (c : CellName) → event_cell m k ≡ Some c → (v : VcpuData) × (slice_get m.vcpus k ≡ Some v)
unfolding event_cell
stands m k c is = elim (option_cases (slice_get m.vcpus k)) as (λ _. (v : VcpuData) × (slice_get m.vcpus k ≡ Some v)) [
  | inl none ↦ absurd (none-some c (sym (ap (cell_of_next m.shape) none) ∙ is))
  | inr there ↦ there
]

-- the page is one of the machine's
pub event_there : (m : MachineData) (k p : ℕ) → IsMachine m → event_cell m k ≡ Some (PageCell p) → p < total_pages_of m.shape
event_there m k p is touches =
    let there = stands m k (PageCell p) touches in
    let r = request_of m.shape there.0 in
    served.page_there m.shape r p (asked_served m k there.0 (machine_serves m is) there.1) (sym (event_cell-is m k there.0 r there.1 refl) ∙ touches)

-- where there is no event, nothing is touched
pub nothing_touched : (m : MachineData) (k : ℕ) → next m k ≡ None → event_cell m k ≡ None
nothing_touched m k none = elim (option_cases (event_cell m k)) as (λ _. event_cell m k ≡ None) [
  | inl is ↦ is
  | inr (c, is) ↦
      (let there = stands m k c is in
      let r = request_of m.shape there.0 in
      let moved = next_touches m k there.0 r c there.1 refl (sym (event_cell-is m k there.0 r there.1 refl) ∙ is) in
      absurd (none-some _ (sym none ∙ moved)))
]

-- an event raises the steps of its vCPU by one at most
outcome_steps : (v after : VcpuData) → EventOutcome v after → after.steps ≤ v.steps + 1
outcome_steps v after (OfFetch pending (Halting cause is)) = omega (arith, is.steps)
outcome_steps v after (OfFetch pending (Awaiting access is)) = omega (arith, is.steps)
outcome_steps v after (OfFetch pending (Finishing is)) = omega (arith, is.steps)
outcome_steps v after (OfAccess pending is) = omega (arith, is.steps)

steps_rise : (m : MachineData) (k : ℕ) (after : MachineData) → IsMachine m → next m k ≡ Some after → steps_of after k ≤ steps_of m k + 1
steps_rise m k after is moved =
    let event = served_next_event m k after (machine_serves m is) moved in
    let rise = outcome_steps event.was event.is event.outcome in
    omega (arith, rise, steps_of-is m k event.was event.stood, steps_of-is after k event.is event.stands)

-- ---- Before the event

-- the page that the event touches is there, and the machine shown stays
pub record Reached (told : Option (List ℕ)) (d : LazyData) (k : ℕ) (e : LazyData) : Type 0 where
  pub shape : e.machine.shape ≡ d.machine.shape
  pub vcpus : e.machine.vcpus ≡ d.machine.vcpus
  pub clock : e.machine.clock ≡ d.machine.clock
  pub peek : e.peek ≡ d.peek
  pub touched : e.touched ≡ with_cell d.touched (event_cell d.machine k)
  pub listed : (p : ℕ) → event_cell d.machine k ≡ Some (PageCell p) → is_listed e.touched p ≡ true
  pub shows : (file : List ℕ) → told ≡ Some file → IsWhole file d → shown file e ≡ shown file d

-- where nothing is put in
reached_same : (told : Option (List ℕ)) (d : LazyData) (k : ℕ) (e : LazyData) → e ≡ d → with_cell d.touched (event_cell d.machine k) ≡ d.touched
    → ((p : ℕ) → event_cell d.machine k ≡ Some (PageCell p) → is_listed d.touched p ≡ true) → Reached told d k e
reached_same told d k e same touched listed = record {
  shape = ap (λ (x : LazyData). x.machine.shape) same;
  vcpus = ap (λ (x : LazyData). x.machine.vcpus) same;
  clock = ap (λ (x : LazyData). x.machine.clock) same;
  peek = ap (λ (x : LazyData). x.peek) same;
  touched = ap (λ (x : LazyData). x.touched) same ∙ sym touched;
  listed = λ p is. ap (λ (x : LazyData). is_listed x.touched p) same ∙ listed p is;
  shows = λ file is whole. ap (shown file) same;
}

-- where a page is
put_is : (told : Option (List ℕ)) (d : LazyData) (p : ℕ) (e : LazyData) (t : Touches told d p e) → e ≡ put_in d p t.page
put_is told d p e t = λ i. record { machine = t.machine i; peek = t.peek i; touched = t.touched i }

-- what holds of a file that is told
pub told_read : (P : List ℕ → Type 0) (told : Option (List ℕ)) (file : List ℕ) → told ≡ Some file → IfSome told P → P file
told_read P None file is holds = absurd (cc)
told_read P (Some other) file is holds =
    let same : other ≡ file = cc in
    subst P same holds

reached_put : (told : Option (List ℕ)) (d : LazyData) (k : ℕ) (p : ℕ) (e : LazyData) → IsLazy d → event_cell d.machine k ≡ Some (PageCell p) → is_listed d.touched p ≡ false → Touches told d p e → Reached told d k e
reached_put told d k p e lazy touches new t =
    let is = put_is told d p e t in
    let last : with_cell d.touched (Some (PageCell p)) ≡ d.touched ++ p ∷ [] = ap (λ (b : Bool). if b then d.touched else d.touched ++ p ∷ []) new in
    record {
      shape = ap (λ (x : LazyData). x.machine.shape) is;
      vcpus = ap (λ (x : LazyData). x.machine.vcpus) is;
      clock = ap (λ (x : LazyData). x.machine.clock) is;
      peek = t.peek;
      touched = t.touched ∙ sym last ∙ ap (with_cell d.touched) (sym touches);
      listed = λ q other.
          let same : p ≡ q = same_page p q (sym touches ∙ other) in
          ap (λ (l : List ℕ). is_listed l q) t.touched ∙ subst (λ (x : ℕ). is_listed (d.touched ++ p ∷ []) x ≡ true) same (listed_last d.touched p);
      shows = λ file told_is whole.
          ap (shown file) is
          ∙ touch_shows file d lazy p t.page (event_there d.machine k p lazy.machine touches) new t.whole (told_read (λ (f : List ℕ). t.page ≡ page_in f d.peek p) told file told_is t.read);
    }
  where
    same_page : (p q : ℕ) → ◌≡◌ {A = Option CellName} (Some (PageCell p)) (Some (PageCell q)) → p ≡ q
    same_page p q is = cc

pub reached : (file now : FileState) (d : LazyData) (k : ℕ) (c : Option CellName) (e : LazyData) → IsLazy d → event_cell d.machine k ≡ c
    → LeavesReach file now d (new_page d (page_of_cell c)) (Ok tt) e → Reached file.told d k e
reached file now d k None e lazy touches left =
    reached_same file.told d k e left.1 (ap (with_cell d.touched) touches) (λ p is. absurd (none-some (PageCell p) (sym touches ∙ is)))
reached file now d k (Some SerialCell) e lazy touches left =
    reached_same file.told d k e left.1 (ap (with_cell d.touched) touches) (λ p is. let no = sym touches ∙ is in absurd (cc))
reached file now d k (Some TimerCell) e lazy touches left =
    reached_same file.told d k e left.1 (ap (with_cell d.touched) touches) (λ p is. let no = sym touches ∙ is in absurd (cc))
reached file now d k (Some (PageCell p)) e lazy touches left = elim (cases_Bool (is_listed d.touched p)) as (λ _. Reached file.told d k e) [
  | inl is ↦
      (let here = subst (λ (b : Bool). LeavesReach file now d (if b then None else Some p) (Ok tt) e) is left in
      let stays : with_cell d.touched (Some (PageCell p)) ≡ d.touched = ap (λ (b : Bool). if b then d.touched else d.touched ++ p ∷ []) is in
      reached_same file.told d k e here.1 (ap (with_cell d.touched) touches ∙ stays) (λ q other. let same : p ≡ q = only p q (sym touches ∙ other) in subst (λ (x : ℕ). is_listed d.touched x ≡ true) same is))
  | inr new ↦
      (let here = subst (λ (b : Bool). LeavesReach file now d (if b then None else Some p) (Ok tt) e) new left in
      reached_put file.told d k p e lazy touches new here)
]
  where
    only : (p q : ℕ) → ◌≡◌ {A = Option CellName} (Some (PageCell p)) (Some (PageCell q)) → p ≡ q
    only p q is = cc

-- ---- The event

pub whole_on : (file : List ℕ) (d e : LazyData) → e.machine.shape ≡ d.machine.shape → e.peek ≡ d.peek → IsWhole file d → IsWhole file e
whole_on file d e shape peek whole = λ p lt cut. whole p (subst (λ s. p < total_pages_of s) shape lt) (subst (λ (q : PeekData). IsCutPage file q p) peek cut)

pub steps_on : (told : Option (List ℕ)) (d e : LazyData) (k : ℕ) (after : MachineData) → IsLazy e → Reached told d k e → next e.machine k ≡ Some after → Steps told d k (holding e after)
steps_on told d e k after lazy is moved =
    let keeps = next_keeps e.machine k after (machine_serves e.machine lazy.machine) moved in
    let cell = same_cell d.machine e.machine k is.shape is.vcpus in
    let before : steps_of e.machine k ≡ steps_of d.machine k = same_steps d.machine e.machine k is.vcpus in
    record {
      shown = when_told told (λ file. IsWhole file d → next (shown file d) k ≡ Some (shown file (holding e after))) (λ file told_is whole.
          subst (λ (m : MachineData). next m k ≡ Some (shown file (holding e after))) (is.shows file told_is whole)
          (event_shows file e lazy (whole_on file d e is.shape is.peek whole) k after moved (λ p touches. is.listed p (sym cell ∙ touches))));
      touched = is.touched;
      peek = is.peek;
      shape = keeps.shape ∙ is.shape;
      clock = keeps.clock ∙ ap (λ (n : ℕ). n + 1) is.clock;
      steps = omega (arith, steps_rise e.machine k after lazy.machine moved, before);
      others = λ j other. keeps.vcpus j other ∙ ap (λ (vs : List VcpuData). slice_get vs j) is.vcpus;
    }
  where
    same_steps : (m n : MachineData) (k : ℕ) → n.vcpus ≡ m.vcpus → steps_of n k ≡ steps_of m k
    same_steps m n k vcpus = ap (λ (vs : List VcpuData). steps_of (record m { vcpus = vs }) k) vcpus

pub step_leaves : (file now : FileState) (d e : LazyData) (k : ℕ) (stepped : Stepped) (answer : LazyStep) (after : MachineData) → answer ≡ step_of stepped → StepsTo e.machine k stepped after → IsLazy d → IsLazy e
    → LeavesReach file now d (new_page d (page_of_cell (event_cell d.machine k))) (Ok tt) e → LeavesStep file now d k answer (holding e after)
step_leaves file now d e k Event answer after is moved lazy ready left =
    let steps = steps_on file.told d e k after ready (reached file now d k (event_cell d.machine k) e lazy refl left) moved in
    subst (λ (a : LazyStep). LeavesStep file now d k a (holding e after)) (sym is) steps
step_leaves file now d e k Halted answer after is none lazy ready left =
    let there = reached file now d k (event_cell d.machine k) e lazy refl left in
    let nothing : event_cell d.machine k ≡ None = sym (same_cell d.machine e.machine k there.shape there.vcpus) ∙ nothing_touched e.machine k none.0 in
    let here = subst (λ (c : Option CellName). LeavesReach file now d (new_page d (page_of_cell c)) (Ok tt) e) nothing left in
    let same : holding e after ≡ d = ap (holding e) none.1 ∙ here.1 in
    subst (λ (a : LazyStep). LeavesStep file now d k a (holding e after)) (sym is) same

-- ---- What a step answers

-- a page that wasn't read is one of a vCPU that isn't halted
pub fails_running : (file now : FileState) (d e : LazyData) (k : ℕ) (fault : PageFault) (answer : LazyStep) → answer ≡ failed_step fault
    → LeavesReach file now d (new_page d (page_of_cell (event_cell d.machine k))) (Err fault) e → (answer ≡ answers.Halted → halted_at d.machine k ≡ true) × (halted_at d.machine k ≡ true → answer ≡ answers.Halted)
fails_running file now d e k fault answer is left = (λ halted. absurd (never fault (sym is ∙ halted)), λ halted. absurd (runs halted))
  where
    never : (f : PageFault) → failed_step f ≡ answers.Halted → ⊥
    never (pages.Truncated at) same = cc
    never pages.ReadFault same = cc

    runs : halted_at d.machine k ≡ true → ⊥
    runs halted =
        let nothing = nothing_touched d.machine k (halted_none d.machine k halted) in
        let here = subst (λ (c : Option CellName). LeavesReach file now d (new_page d (page_of_cell c)) (Err fault) e) nothing left in
        let no = here.0 in
        cc

-- no page of a whole file is cut
pub never_cut : (file now : FileState) (d e : LazyData) (k : ℕ) (answer : LazyStep) → LeavesStep file now d k answer e → IsLazy e → IfSome file.told (λ f. IsWhole f d → (at : ℕ) → answer ≢ answers.Truncated at)
never_cut file now d e k answer left ready = when_told file.told (λ f. IsWhole f d → (at : ℕ) → answer ≢ answers.Truncated at) (λ f told whole at is.
    let here = subst (λ (a : LazyStep). LeavesStep file now d k a e) is left in
    let lazy = subst IsLazy here.0 ready in
    let cut = here.1 in
    whole cut.page (event_there d.machine k cut.page lazy.machine cut.touches) (told_read (λ (g : List ℕ). IsCutPage g d.peek cut.page) file.told f told cut.cut.cut))
