-- Why pages are queued and picked, after each kind of step.
use Rattle.std.proofs.Common.{◌≡◌, ◌⊎◌, inl, inr, ⊎_elim, ℕ, ◌<◌, Bool, true, false, eqb, List, [], ◌∷◌, ◌++◌, length, set, Some, None, refl, sym, ◌∙◌, ap, subst, arith, length-append}
use Rattle.std.specs.Prelude.{if◌then◌else◌}
use Rattle.std.specs.List.{slice_get}
use mathlib.Core.Option.{some}
use lib.ListN.{get_elem?}
use Rattle.std.proofs.lemmas.Bool.{cases_eq, cases_Bool, or_cases, or_left, or_right, eqb-true, eq-eqb, true≢false, false≢true}
use Rattle.std.proofs.lemmas.List.{length-set, take_all, get_or_append_left}
use Rattle.std.proofs.lemmas.List.Folds.{list_any-append}
use Rattle.std.proofs.lemmas.Option.{none-some, same_Some, slice_get_within}
use Rattle.std.proofs.Math.Seq.{get_or-append_seam}
use Rattle.ram_block.specs.PageLinks.{is_listed}
use Rattle.rv64i_step.specs.Event.{request_of}
use Rattle.rv64i_step.specs.Request.{written_page}
use Rattle.rv64i_step.specs.Vcpu.{VcpuData}
use Rattle.flat_machine.specs.Laws.{event_written_page}
use Rattle.flat_machine.specs.Machine.{MachineData}
use Rattle.flat_machine.specs.Run.{run}
use Rattle.flat_machine.proofs.Events.{slice_get-set_same, slice_get-set_other}
use Rattle.flat_machine.proofs.Outcomes.{All-slice_get}
use Rattle.flat_machine.proofs.Runs.{run-take-push, take-push}
use Rattle.flat_machine.proofs.Written.{event_written_page-is}
use Rattle.wp_fault.specs.Queue.{queued}
use Rattle.wp_fault.proofs.Lists.{last_queued}
use Rattle.bus_rule.specs.Faults.{IsWritten, IsSought, NoneSought, IsWanted, IsWaiting, Faults}
use Rattle.bus_rule.specs.Plays.{with_event, with_stop}
use Rattle.bus_rule.specs.Views.{Task, Role, Working, tasks_of, IsTask, request_in}
use Rattle.bus_rule.proofs.Lists.{one_there}
use Rattle.bus_rule.proofs.Tasks.{own_task, is_own, working_task, task_came, task_comes, task_stays, task_added, task_kept}

-- ---- Event

-- what an event of the run wrote, it wrote
written-push : (i : MachineData) (o : List ℕ) (k p : ℕ) → IsWritten i o p → IsWritten i (o ++ k ∷ []) p
written-push i o k p was =
    let h = was.within in
    record {
      at = was.at;
      within = omega (arith, h, length-append o (k ∷ []));
      before = was.before;
      ran = run-take-push i o k was.at (omega (arith, h)) ∙ was.ran;
      writes = ap (event_written_page was.before) (get_or_append_left o (k ∷ []) 0 was.at h) ∙ was.writes;
    }

-- and the last event writes the page of its request
written-last : (i : MachineData) (o : List ℕ) (m : MachineData) (t : Task) (p : ℕ) → run i o ≡ Some m → slice_get m.vcpus t.who ≡ Some t.vcpu →
    t.shape ≡ m.shape → written_page (request_in t) ≡ Some p → IsWritten i (o ++ t.who ∷ []) p
written-last i o m t p ran stood shape aims = record {
  at = length o;
  within = omega (arith, length-append o (t.who ∷ []));
  before = m;
  ran = ap (run i) (take-push o t.who (length o) (omega arith) ∙ take_all (length o) o (omega arith)) ∙ ran;
  writes =
      ap (event_written_page m) (get_or-append_seam o t.who [] 0)
      ∙ event_written_page-is m t.who t.vcpu (request_in t) stood (ap (λ s. request_of s t.vcpu) (sym shape))
      ∙ aims;
}

-- an event of the vCPU of pass j
pub faults_event : (i : MachineData) (o : List ℕ) (m : MachineData) (writable : List Bool) (queue : List ℕ) (picked : List Bool) (roles : List Role) (j : ℕ) (t : Task) (v : VcpuData) (clock : ℕ) →
    Faults i o writable queue picked roles → get_elem? roles j ≡ some (Working t) → run i o ≡ Some m → slice_get m.vcpus t.who ≡ Some t.vcpu → t.shape ≡ m.shape →
    Faults i (o ++ t.who ∷ []) writable queue picked (set roles j (Working (with_event t v clock)))
faults_event i o m writable queue picked roles j t v clock faults was ran stood shape =
    let r = Working (with_event t v clock) in
    let mine = faults.waiting j 0 t (working_task roles j t was) in
    record {
      waiting = λ k a u task. elim (task_came roles j (Working t) r k a u was task) as (λ _. IsWaiting writable queue picked u) [
        | inl (here, is) ↦ subst (IsWaiting writable queue picked) (own_task (with_event t v clock) u a is).1 (record {
          reached = λ p wants. absurd (none-some p wants);
          aims = λ p wants. absurd (none-some p wants);
          calm = mine.calm;
        })
        | inr (other, before) ↦ faults.waiting k a u before
      ];
      below = faults.below;
      because = λ p sought. elim (faults.because p sought) as (λ _. IsWanted (set roles j r) p ⊎ IsWritten i (o ++ t.who ∷ []) p) [
        | inl wanted ↦
            elim (cases_eq wanted.pass j) as (λ _. IsWanted (set roles j r) p ⊎ IsWritten i (o ++ t.who ∷ []) p) [
              | inl here ↦
                  (let own = is_own roles j wanted.place t wanted.task was (subst (λ (x : ℕ). IsTask roles x wanted.place wanted.task) here wanted.known) in
                  let wants : t.wants ≡ Some p = ap (λ (x : Task). x.wants) own.1 ∙ wanted.wants in
                  inr (written-last i o m t p ran stood shape (mine.aims p wants)))
              | inr other ↦ inl (record {
                pass = wanted.pass;
                place = wanted.place;
                task = wanted.task;
                known = task_stays roles j r wanted.pass wanted.place wanted.task other wanted.known;
                wants = wanted.wants;
              })
            ]
        | inr written ↦ inr (written-push i o t.who p written)
      ];
    }

-- ---- The same vCPUs

-- in other passes, or at other places
pub faults_moved : (i : MachineData) (o : List ℕ) (writable : List Bool) (queue : List ℕ) (picked : List Bool) (roles others : List Role) →
    Faults i o writable queue picked roles → ((k a : ℕ) (u : Task) → IsTask others k a u → (l : ℕ) × (c : ℕ) × IsTask roles l c u) →
    ((k a : ℕ) (u : Task) → IsTask roles k a u → (l : ℕ) × (c : ℕ) × IsTask others l c u) → Faults i o writable queue picked others
faults_moved i o writable queue picked roles others faults were are = record {
  waiting = λ k a u task. (let w = were k a u task in faults.waiting w.0 w.1 u w.2);
  below = faults.below;
  because = λ p sought. elim (faults.because p sought) as (λ _. IsWanted others p ⊎ IsWritten i o p) [
    | inl wanted ↦
        (let w = are wanted.pass wanted.place wanted.task wanted.known in
        inl (record { pass = w.0; place = w.1; task = wanted.task; known = w.2; wants = wanted.wants }))
    | inr written ↦ inr written
  ];
}

-- a pass whose vCPUs are the same
pub faults_same : (i : MachineData) (o : List ℕ) (writable : List Bool) (queue : List ℕ) (picked : List Bool) (roles : List Role) (j : ℕ) (old r : Role) →
    Faults i o writable queue picked roles → get_elem? roles j ≡ some old → tasks_of r ≡ tasks_of old → Faults i o writable queue picked (set roles j r)
faults_same i o writable queue picked roles j old r faults was same =
    faults_moved i o writable queue picked roles (set roles j r) faults
    (λ k a u task. elim (task_came roles j old r k a u was task) as (λ _. (l : ℕ) × (c : ℕ) × IsTask roles l c u) [
      | inl (here, is) ↦ (j, a, record { role = old; pass = was; task = ap (λ ts. get_elem? ts a) (sym same) ∙ is })
      | inr (other, before) ↦ (k, a, before)
    ])
    (λ k a u task. elim (cases_eq k j) as (λ _. (l : ℕ) × (c : ℕ) × IsTask (set roles j r) l c u) [
      | inl here ↦
          (let at : get_elem? (tasks_of old) a ≡ some u = ap (λ x. get_elem? (tasks_of x) a) (one_there roles j old task.role was (ap (get_elem? roles) (sym here) ∙ task.pass)) ∙ task.task in
          (j, a, task_comes roles j old r a u was (ap (λ ts. get_elem? ts a) same ∙ at)))
      | inr other ↦ (k, a, task_stays roles j r k a u other task)
    ])

-- a pass comes whose vCPU wants nothing and was never stopped
pub faults_more : (i : MachineData) (o : List ℕ) (writable : List Bool) (queue : List ℕ) (picked : List Bool) (roles : List Role) (t : Task) →
    Faults i o writable queue picked roles → t.wants ≡ None → t.blocked ≡ 0 → Faults i o writable queue picked (roles ++ Working t ∷ [])
faults_more i o writable queue picked roles t faults wants blocked = record {
  waiting = λ k a u task. elim (task_added roles (Working t) k a u task) as (λ _. IsWaiting writable queue picked u) [
    | inl before ↦ faults.waiting k a u before
    | inr (place, is) ↦ subst (IsWaiting writable queue picked) (own_task t u a is).1 (record {
      reached = λ p some_page. absurd (none-some p (sym wants ∙ some_page));
      aims = λ p some_page. absurd (none-some p (sym wants ∙ some_page));
      calm = λ none. blocked;
    })
  ];
  below = faults.below;
  because = λ p sought. elim (faults.because p sought) as (λ _. IsWanted (roles ++ Working t ∷ []) p ⊎ IsWritten i o p) [
    | inl wanted ↦ inl (record {
      pass = wanted.pass;
      place = wanted.place;
      task = wanted.task;
      known = task_kept roles (Working t) wanted.pass wanted.place wanted.task wanted.known;
      wants = wanted.wants;
    })
    | inr written ↦ inr written
  ];
}

-- ---- The same roles

-- pages that were writable or sought are so still, and none is sought that was not
pub record Seeks (writable more : List Bool) (queue rest : List ℕ) (picked marked : List Bool) : Type 0 where
  pub reached : (p : ℕ) → slice_get writable p ≡ Some true → slice_get more p ≡ Some true
  pub sought : (p : ℕ) → IsSought queue picked p → IsSought rest marked p
  pub was : (p : ℕ) → IsSought rest marked p → IsSought queue picked p
  pub none : NoneSought rest marked → NoneSought queue picked
  pub below : ((p : ℕ) → is_listed queue p ≡ true → p < length picked) → (p : ℕ) → is_listed rest p ≡ true → p < length marked

pub faults_sought : (i : MachineData) (o : List ℕ) (writable more : List Bool) (queue rest : List ℕ) (picked marked : List Bool) (roles : List Role) →
    Faults i o writable queue picked roles → Seeks writable more queue rest picked marked → Faults i o more rest marked roles
faults_sought i o writable more queue rest picked marked roles faults seeks = record {
  waiting = λ k a u task.
      (let w = faults.waiting k a u task in
      record {
        reached = λ p wants. ⊎_elim (λ is. inl (seeks.reached p is)) (λ sought. inr (seeks.sought p sought)) (w.reached p wants);
        aims = w.aims;
        calm = λ none. w.calm (seeks.none none);
      });
  below = seeks.below faults.below;
  because = λ p sought. faults.because p (seeks.was p sought);
}

-- ---- Stop

-- a queue with one page more
queued_stays : (queue : List ℕ) (p q : ℕ) → is_listed queue q ≡ true → is_listed (queued queue p) q ≡ true
queued_stays queue p q is =
    elim (cases_Bool (is_listed queue p)) as (λ _. is_listed (queued queue p) q ≡ true) [
      | inl there ↦ ap (λ b. is_listed (if b then queue else queue ++ p ∷ []) q) there ∙ is
      | inr not ↦
          ap (λ b. is_listed (if b then queue else queue ++ p ∷ []) q) not
          ∙ list_any-append (eqb q) queue (p ∷ [])
          ∙ or_left (is_listed queue q) (is_listed (p ∷ []) q) is
    ]

queued_is : (queue : List ℕ) (p : ℕ) → is_listed (queued queue p) p ≡ true
queued_is queue p =
    elim (cases_Bool (is_listed queue p)) as (λ _. is_listed (queued queue p) p ≡ true) [
      | inl there ↦ ap (λ b. is_listed (if b then queue else queue ++ p ∷ []) p) there ∙ there
      | inr not ↦ ap (λ b. is_listed (if b then queue else queue ++ p ∷ []) p) not ∙ last_queued queue p
    ]

queued_was : (queue : List ℕ) (p q : ℕ) → is_listed (queued queue p) q ≡ true → (is_listed queue q ≡ true) ⊎ (q ≡ p)
queued_was queue p q is =
    elim (cases_Bool (is_listed queue p)) as (λ _. (is_listed queue q ≡ true) ⊎ (q ≡ p)) [
      | inl there ↦ inl (sym (ap (λ b. is_listed (if b then queue else queue ++ p ∷ []) q) there) ∙ is)
      | inr not ↦
          elim (or_cases (is_listed queue q) (is_listed (p ∷ []) q) (sym (list_any-append (eqb q) queue (p ∷ [])) ∙ sym (ap (λ b. is_listed (if b then queue else queue ++ p ∷ []) q) not) ∙ is)) as (λ _. (is_listed queue q ≡ true) ⊎ (q ≡ p)) [
            | inl before ↦ inl before
            | inr last ↦ elim (or_cases (eqb q p) false last) as (λ _. (is_listed queue q ≡ true) ⊎ (q ≡ p)) [
              | inl same ↦ inr (eqb-true q p same)
              | inr never ↦ absurd (false≢true never)
            ]
          ]
    ]

-- the vCPU of pass j was stopped on page p, which its next event writes
pub faults_stop : (i : MachineData) (o : List ℕ) (writable : List Bool) (queue : List ℕ) (picked : List Bool) (roles : List Role) (j : ℕ) (t : Task) (p : ℕ) →
    Faults i o writable queue picked roles → get_elem? roles j ≡ some (Working t) → written_page (request_in t) ≡ Some p → p < length picked →
    Faults i o writable (queued queue p) picked (set roles j (Working (with_stop t p)))
faults_stop i o writable queue picked roles j t p faults was aims within =
    let r = Working (with_stop t p) in
    let sought_still : (q : ℕ) → IsSought queue picked q → IsSought (queued queue p) picked q = λ q. ⊎_elim (λ is. inl (queued_stays queue p q is)) (λ is. inr is) in
    let some_page : NoneSought (queued queue p) picked → ⊥ = λ none. false≢true (ap (λ q. is_listed q p) (sym none.0) ∙ queued_is queue p) in
    let here_now : IsWanted (set roles j r) p = record {
      pass = j;
      place = 0;
      task = with_stop t p;
      known = task_comes roles j (Working t) r 0 (with_stop t p) was refl;
      wants = refl;
    } in
    record {
      waiting = λ k a u task. elim (task_came roles j (Working t) r k a u was task) as (λ _. IsWaiting writable (queued queue p) picked u) [
        | inl (here, is) ↦ subst (IsWaiting writable (queued queue p) picked) (own_task (with_stop t p) u a is).1 (record {
          reached = λ q wants. inr (inl (ap (is_listed (queued queue p)) (sym (same_Some p q wants)) ∙ queued_is queue p));
          aims = λ q wants. aims ∙ wants;
          calm = λ none. absurd (some_page none);
        })
        | inr (other, before) ↦
            (let w = faults.waiting k a u before in
            record {
              reached = λ q wants. ⊎_elim (λ is. inl is) (λ sought. inr (sought_still q sought)) (w.reached q wants);
              aims = w.aims;
              calm = λ none. absurd (some_page none);
            })
      ];
      below = λ q is. ⊎_elim (λ before. faults.below q before) (λ new. omega (arith, within, new)) (queued_was queue p q is);
      because = λ q sought.
          elim (sought_before q sought) as (λ _. IsWanted (set roles j r) q ⊎ IsWritten i o q) [
            | inl before ↦ elim (faults.because q before) as (λ _. IsWanted (set roles j r) q ⊎ IsWritten i o q) [
              | inl wanted ↦
                  elim (cases_eq wanted.pass j) as (λ _. IsWanted (set roles j r) q ⊎ IsWritten i o q) [
                    | inl here ↦
                        (let own = is_own roles j wanted.place t wanted.task was (subst (λ (x : ℕ). IsTask roles x wanted.place wanted.task) here wanted.known) in
                        let aimed = (faults.waiting wanted.pass wanted.place wanted.task wanted.known).aims q wanted.wants in
                        let same : p ≡ q = same_Some p q (sym aims ∙ ap (λ (x : Task). written_page (request_in x)) own.1 ∙ aimed) in
                        inl (subst (IsWanted (set roles j r)) same here_now))
                    | inr other ↦ inl (record {
                      pass = wanted.pass;
                      place = wanted.place;
                      task = wanted.task;
                      known = task_stays roles j r wanted.pass wanted.place wanted.task other wanted.known;
                      wants = wanted.wants;
                    })
                  ]
              | inr written ↦ inr written
            ]
            | inr new ↦ inl (subst (IsWanted (set roles j r)) (sym new) here_now)
          ];
    }
  where
    sought_before : (q : ℕ) → IsSought (queued queue p) picked q → IsSought queue picked q ⊎ (q ≡ p)
    sought_before q (inl is) = ⊎_elim (λ before. inl (inl before)) (λ new. inr new) (queued_was queue p q is)
    sought_before q (inr is) = inl (inr is)

-- ---- Pick and release

-- a flag that is set stays, whatever is set
pub set_stays : (flags : List Bool) (p q : ℕ) → slice_get flags q ≡ Some true → slice_get (set flags p true) q ≡ Some true
set_stays flags p q is =
    elim (cases_eq q p) as (λ _. slice_get (set flags p true) q ≡ Some true) [
      | inl here ↦
          ap (slice_get (set flags p true)) here ∙ slice_get-set_same flags p true (slice_get_within flags p true (ap (slice_get flags) (sym here) ∙ is))
      | inr other ↦ slice_get-set_other flags p q true other ∙ is
    ]

-- one that is set was set, or is this one
pub set_was : (flags : List Bool) (p q : ℕ) → slice_get (set flags p true) q ≡ Some true → (slice_get flags q ≡ Some true) ⊎ (q ≡ p)
set_was flags p q is =
    elim (cases_eq q p) as (λ _. (slice_get flags q ≡ Some true) ⊎ (q ≡ p)) [
      | inl here ↦ inr here
      | inr other ↦ inl (sym (slice_get-set_other flags p q true other) ∙ is)
    ]

-- a page is released
pub seeks_released : (writable : List Bool) (queue : List ℕ) (picked : List Bool) (p : ℕ) → Seeks writable (set writable p true) queue queue picked picked
seeks_released writable queue picked p = record {
  reached = λ q is. set_stays writable p q is;
  sought = λ q is. is;
  was = λ q is. is;
  none = λ none. none;
  below = λ below. below;
}

-- the front of the queue is picked
pub seeks_picked : (writable : List Bool) (p : ℕ) (queue : List ℕ) (picked : List Bool) → p < length picked → Seeks writable writable (p ∷ queue) queue picked (set picked p true)
seeks_picked writable p queue picked within =
    let marked : slice_get (set picked p true) p ≡ Some true = slice_get-set_same picked p true within in
    record {
      reached = λ q is. is;
      sought = λ q. ⊎_elim
          (λ is. ⊎_elim (λ front. inr (ap (slice_get (set picked p true)) (eqb-true q p front) ∙ marked)) (λ later. inl later) (or_cases (eqb q p) (is_listed queue q) is))
          (λ is. inr (set_stays picked p q is));
      was = λ q. ⊎_elim
          (λ is. inl (or_right (eqb q p) (is_listed queue q) is))
          (λ is. ⊎_elim (λ before. inr before) (λ here. inl (or_left (eqb q p) (is_listed queue q) (eq-eqb q p here))) (set_was picked p q is));
      none = λ none. absurd (true≢false (All-slice_get (λ x. x ≡ false) (set picked p true) p true none.1 marked));
      below = λ below q is. (let h = below q (or_right (eqb q p) (is_listed queue q) is) in omega (arith, h, length-set picked p true));
    }

-- nothing is sought or released
pub seeks_same : (writable : List Bool) (queue : List ℕ) (picked : List Bool) → Seeks writable writable queue queue picked picked
seeks_same writable queue picked = record {
  reached = λ q is. is;
  sought = λ q is. is;
  was = λ q is. is;
  none = λ none. none;
  below = λ below. below;
}
