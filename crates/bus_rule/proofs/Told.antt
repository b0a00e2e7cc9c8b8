-- What the passes know of the run, after each kind of step.
use Rattle.std.proofs.Common.{◌≡◌, ◌≢◌, inl, inr, ℕ, ◌+◌, ◌-◌, ◌<◌, ◌≤◌, false, List, [], ◌∷◌, ◌++◌, length, set, Some, refl, sym, ◌∙◌, ap, subst, arith, length-append}
use mathlib.Core.Option.{some, some-injective, some-ne-none}
use lib.ListN.{get_elem?}
use Rattle.std.specs.List.{slice_get}
use Rattle.std.proofs.lemmas.Bool.{cases_eq, cases_lt}
use Rattle.std.proofs.lemmas.List.{take_all, map-append}
use Rattle.rv64i_step.specs.Vcpu.{VcpuData}
use Rattle.flat_machine.specs.Laws.{ServesAll, KeepsRest}
use Rattle.flat_machine.specs.Machine.{MachineData}
use Rattle.flat_machine.specs.Next.{next}
use Rattle.flat_machine.specs.Run.{run, has_ended, steps_of}
use Rattle.flat_machine.specs.UnderWay.{IsUnderWay}
use Rattle.flat_machine.proofs.Frames.{next_keeps}
use Rattle.flat_machine.proofs.RoundPhases.{goes_on}
use Rattle.flat_machine.proofs.Runs.{run-push, run-take-push}
use Rattle.bus_rule.specs.Order.{places}
use Rattle.bus_rule.specs.Story.{numbers_of, Shows, IsTold, IsUntold, Story}
use Rattle.bus_rule.specs.Plays.{with_event}
use Rattle.bus_rule.specs.Views.{Entry, Task, Role, Working, tasks_of, IsTask}
use Rattle.bus_rule.proofs.Lists.{place_push}
use Rattle.bus_rule.proofs.Placed.{places-push, places-other}
use Rattle.bus_rule.proofs.Tasks.{own_task, working_task, task_came, task_comes, task_stays, task_added, task_kept, task_new}

-- ---- One vCPU, after an event

-- what was shown is shown still
shows-push : (i : MachineData) (o : List ℕ) (j k : ℕ) (e : Entry) → Shows i o k e → Shows i (o ++ j ∷ []) k e
shows-push i o j k e was = record {
  within = (let h = was.within in omega (arith, h, length-append o (j ∷ [])));
  after = was.after;
  ran = run-take-push i o j (e.0 + 1) (let h = was.within in omega (arith, h)) ∙ was.ran;
  vcpu = was.vcpu;
}

-- of a vCPU that makes none, all that was known is so still
told-other : (i : MachineData) (n : ℕ) (o : List ℕ) (m after : MachineData) (k : ℕ) (t : Task) → KeepsRest m k after → t.who ≢ k →
    IsTold i n o m t → IsTold i n (o ++ k ∷ []) after t
told-other i n o m after k t keeps other was = record {
  shape = was.shape;
  start = was.start;
  run = was.run;
  until = was.until;
  vcpu = keeps.vcpus t.who other ∙ was.vcpu;
  numbers = was.numbers ∙ sym (places-other t.who k o (λ e. other (sym e)));
  shows = λ a e at. shows-push i o k t.who e (was.shows a e at);
}

untold-other : (i : MachineData) (o : List ℕ) (m after : MachineData) (k j : ℕ) → KeepsRest m k after → j ≢ k → IsUntold i o m j → IsUntold i (o ++ k ∷ []) after j
untold-other i o m after k j keeps other was = record {
  places = places-other j k o (λ e. other (sym e)) ∙ was.places;
  vcpu = keeps.vcpus j other ∙ was.vcpu;
}

-- of the one that makes it, the entry of the event is known as well
told-mine : (i : MachineData) (n : ℕ) (o : List ℕ) (m after : MachineData) (t : Task) (v : VcpuData) (clock : ℕ) → IsTold i n o m t →
    run i o ≡ Some m → next m t.who ≡ Some after → slice_get after.vcpus t.who ≡ Some v → clock ≡ i.clock + length o →
    IsTold i n (o ++ t.who ∷ []) after (with_event t v clock)
told-mine i n o m after t v clock was ran moved stands counted =
    let drawn : clock - t.start ≡ length o = (let s = was.start in omega (arith, s, counted)) in
    let more : length (o ++ t.who ∷ []) ≡ length o + 1 = length-append o (t.who ∷ []) in
    record {
      shape = was.shape;
      start = was.start;
      run = was.run;
      until = was.until;
      vcpu = stands;
      numbers =
          map-append (λ (e : Entry). e.0) t.trace ((clock - t.start, v) ∷ [])
          ∙ ap (λ xs. xs ++ (clock - t.start) ∷ []) was.numbers
          ∙ ap (λ x. places t.who o ++ x ∷ []) drawn
          ∙ sym (places-push t.who o);
      shows = λ a e at. elim (place_push t.trace a (clock - t.start, v) e at) as (λ _. Shows i (o ++ t.who ∷ []) t.who e) [
        | inl before ↦ shows-push i o t.who t.who e (was.shows a e before)
        | inr (place, same) ↦
            subst (Shows i (o ++ t.who ∷ []) t.who) same (record {
              within = omega (arith, drawn, more);
              after = after;
              ran = ap (run i) (take_all (clock - t.start + 1) (o ++ t.who ∷ []) (omega (arith, drawn, more)))
                  ∙ run-push i m o t.who ran ∙ moved;
              vcpu = stands;
            })
      ];
    }

-- ---- The role of a pass changes

-- its vCPUs are the same, and what is known of each is so
pub record Retells (i : MachineData) (n : ℕ) (o : List ℕ) (m : MachineData) (split : ℕ) (roles : List Role) (j : ℕ) (old r : Role) (order : List ℕ) (now : MachineData) : Type 0 where
  pub was : get_elem? roles j ≡ some old
  pub comes : (a : ℕ) (u : Task) → get_elem? (tasks_of r) a ≡ some u → (t : Task) × (get_elem? (tasks_of old) a ≡ some t) × (t.who ≡ u.who) × IsTold i n order now u
  pub stays : (a : ℕ) (t : Task) → get_elem? (tasks_of old) a ≡ some t → (u : Task) × (get_elem? (tasks_of r) a ≡ some u) × (u.who ≡ t.who)
  pub others : (k a : ℕ) (u : Task) → k ≢ j → IsTask roles k a u → IsTold i n order now u
  pub untold : (k : ℕ) → split ≤ k → k < length i.vcpus → IsUntold i order now k
  pub way : IsUnderWay i n (record { machine = now; order = order })

module _ (i : MachineData) (n : ℕ) (o : List ℕ) (m : MachineData) (split : ℕ) (roles : List Role) (j : ℕ) (old r : Role) (order : List ℕ) (now : MachineData)
    (story : Story i n o m split roles) (re : Retells i n o m split roles j old r order now) where
  -- a task at its place before
  before : (k a : ℕ) (u : Task) → IsTask (set roles j r) k a u → (t : Task) × IsTask roles k a t × (t.who ≡ u.who) × IsTold i n order now u
  before k a u task =
      elim (task_came roles j old r k a u re.was task) as (λ _. (t : Task) × IsTask roles k a t × (t.who ≡ u.who) × IsTold i n order now u) [
        | inl (here, is) ↦
            (let c = re.comes a u is in
            (c.0, record { role = old; pass = ap (get_elem? roles) here ∙ re.was; task = c.1 }, c.2, c.3))
        | inr (other, was) ↦ (u, was, refl, re.others k a u other was)
      ]

  after : (k a : ℕ) (t : Task) → IsTask roles k a t → (u : Task) × IsTask (set roles j r) k a u × (u.who ≡ t.who)
  after k a t task =
      elim (cases_eq k j) as (λ _. (u : Task) × IsTask (set roles j r) k a u × (u.who ≡ t.who)) [
        | inl here ↦
            (let same : task.role ≡ old = some-injective task.role old (sym task.pass ∙ ap (get_elem? roles) here ∙ re.was) in
            let s = re.stays a t (ap (λ x. get_elem? (tasks_of x) a) (sym same) ∙ task.task) in
            (s.0, subst (λ (x : ℕ). IsTask (set roles j r) x a s.0) (sym here) (task_comes roles j old r a s.0 re.was s.1), s.2))
        | inr other ↦ (t, task_stays roles j r k a t other task, refl)
      ]

  -- so the story goes on
  pub retold : Story i n order now split (set roles j r)
  retold = record {
    way = re.way;
    told = λ k a u task.
        (let b = before k a u task in
        let h = (story.told k a b.0 b.1).0 in
        let e = b.2 in
        (omega (arith, h, e), b.3));
    once = λ k a l b t u task also same.
        (let x = before k a t task in
        let y = before l b u also in
        story.once k a l b x.0 y.0 x.1 y.1 (x.2 ∙ same ∙ sym y.2));
    each = λ k below.
        (let e = story.each k below in
        let x = after e.0 e.1 e.2 e.3 in
        (e.0, e.1, x.0, x.1, x.2 ∙ e.4));
    untold = re.untold;
  }

-- ---- Event

-- an event of the vCPU of pass j
pub told_event : (i : MachineData) (n : ℕ) (o : List ℕ) (m after : MachineData) (split : ℕ) (roles : List Role) (j : ℕ) (t : Task) (v : VcpuData) (clock : ℕ) →
    Story i n o m split roles → ServesAll m → get_elem? roles j ≡ some (Working t) → has_ended i n m t.who ≡ false →
    next m t.who ≡ Some after → slice_get after.vcpus t.who ≡ Some v → clock ≡ i.clock + length o →
    Story i n (o ++ t.who ∷ []) after split (set roles j (Working (with_event t v clock)))
told_event i n o m after split roles j t v clock story serves was going moved stands counted =
    let keeps = next_keeps m t.who after serves moved in
    let task = working_task roles j t was in
    let mine = story.told j 0 t task in
    retold i n o m split roles j (Working t) (Working (with_event t v clock)) (o ++ t.who ∷ []) after story (record {
      was = was;
      comes = λ a u is.
          (let own = own_task (with_event t v clock) u a is in (
            t,
            ap (get_elem? (t ∷ [])) own.0,
            ap (λ (x : Task). x.who) own.1,
            subst (IsTold i n (o ++ t.who ∷ []) after) own.1 (told-mine i n o m after t v clock mine.1 story.way.ran moved stands counted),
          ));
      stays = λ a u is.
          (let own = own_task t u a is in
          (with_event t v clock, ap (get_elem? (with_event t v clock ∷ [])) own.0, ap (λ (x : Task). x.who) own.1));
      others = λ k a u other its.
          told-other i n o m after t.who u keeps (λ e. other (story.once k a j 0 u t its task e).0) (story.told k a u its).1;
      untold = λ k from within. (let h = mine.0 in untold-other i o m after t.who k keeps (λ e. omega (arith, from, h, e)) (story.untold k from within));
      way = goes_on i n (record { machine = m; order = o }) t.who after story.way going moved;
    })

-- ---- Steps that tell nothing new of the run

-- a pass whose vCPUs are the same, but for what the run doesn't tell
pub told_same : (i : MachineData) (n : ℕ) (o : List ℕ) (m : MachineData) (split : ℕ) (roles : List Role) (j : ℕ) (old r : Role) →
    Story i n o m split roles → get_elem? roles j ≡ some old → tasks_of r ≡ tasks_of old → Story i n o m split (set roles j r)
told_same i n o m split roles j old r story was same =
    retold i n o m split roles j old r o m story (record {
      was = was;
      comes = λ a u is.
          (let at : get_elem? (tasks_of old) a ≡ some u = ap (λ ts. get_elem? ts a) (sym same) ∙ is in
          (u, at, refl, (story.told j a u (record { role = old; pass = was; task = at })).1));
      stays = λ a u is. (u, ap (λ ts. get_elem? ts a) same ∙ is, refl);
      others = λ k a u other its. (story.told k a u its).1;
      untold = story.untold;
      way = story.way;
    })

-- a stop
pub told_stop : (i : MachineData) (n : ℕ) (o : List ℕ) (m : MachineData) (split : ℕ) (roles : List Role) (j : ℕ) (t u : Task) →
    Story i n o m split roles → get_elem? roles j ≡ some (Working t) → u.who ≡ t.who → IsTold i n o m u → Story i n o m split (set roles j (Working u))
told_stop i n o m split roles j t u story was who told =
    retold i n o m split roles j (Working t) (Working u) o m story (record {
      was = was;
      comes = λ a x is.
          (let own = own_task u x a is in
          (t, ap (get_elem? (t ∷ [])) own.0, sym who ∙ ap (λ (y : Task). y.who) own.1, subst (IsTold i n o m) own.1 told));
      stays = λ a x is.
          (let own = own_task t x a is in
          (u, ap (get_elem? (u ∷ [])) own.0, who ∙ ap (λ (y : Task). y.who) own.1));
      others = λ k a x other its. (story.told k a x its).1;
      untold = story.untold;
      way = story.way;
    })

-- ---- Split

-- the pass of the next vCPU comes
pub told_split : (i : MachineData) (n : ℕ) (o : List ℕ) (m : MachineData) (split : ℕ) (roles : List Role) (t : Task) →
    Story i n o m split roles → t.who ≡ split → IsTold i n o m t → Story i n o m (split + 1) (roles ++ Working t ∷ [])
told_split i n o m split roles t story who told = record {
  way = story.way;
  told = λ k a u task. elim (task_added roles (Working t) k a u task) as (λ _. (u.who < split + 1) × IsTold i n o m u) [
    | inl before ↦ (let s = story.told k a u before in (let h = s.0 in omega (arith, h), s.1))
    | inr (place, is) ↦
        (let own = own_task t u a is in
        let e = ap (λ (x : Task). x.who) own.1 in
        (omega (arith, who, e), subst (IsTold i n o m) own.1 told))
  ];
  once = λ k a l b x y task also same. elim (task_added roles (Working t) k a x task) as (λ _. (k ≡ l) × (a ≡ b)) [
    | inl before ↦ elim (task_added roles (Working t) l b y also) as (λ _. (k ≡ l) × (a ≡ b)) [
      | inl and_before ↦ story.once k a l b x y before and_before same
      | inr (place, is) ↦
          (let h = (story.told k a x before).0 in
          let e = ap (λ (z : Task). z.who) (own_task t y b is).1 in
          absurd (omega (arith, h, who, e, same)))
    ]
    | inr (place, is) ↦ elim (task_added roles (Working t) l b y also) as (λ _. (k ≡ l) × (a ≡ b)) [
      | inl before ↦
          (let h = (story.told l b y before).0 in
          let e = ap (λ (z : Task). z.who) (own_task t x a is).1 in
          absurd (omega (arith, h, who, e, same)))
      | inr (other_place, other) ↦ (place ∙ sym other_place, (own_task t x a is).0 ∙ sym (own_task t y b other).0)
    ]
  ];
  each = λ k below. elim (cases_lt k split) as (λ _. (j : ℕ) × (a : ℕ) × (u : Task) × IsTask (roles ++ Working t ∷ []) j a u × (u.who ≡ k)) [
    | inl before ↦ (let e = story.each k before in (e.0, e.1, e.2, task_kept roles (Working t) e.0 e.1 e.2 e.3, e.4))
    | inr last ↦
        (let e : split ≡ k = omega (arith, below, last) in
        (length roles, 0, t, task_new roles (Working t) 0 t refl, who ∙ e))
  ];
  untold = λ k from within. story.untold k (omega (arith, from)) within;
}

-- what a pass that is split off knows
pub told_first : (i : MachineData) (n : ℕ) (o : List ℕ) (m : MachineData) (t : Task) → IsUntold i o m t.who → t.shape ≡ i.shape → t.start ≡ i.clock → t.run ≡ n →
    t.until ≡ steps_of i t.who + n → slice_get i.vcpus t.who ≡ Some t.vcpu → t.trace ≡ [] → IsTold i n o m t
told_first i n o m t was shape start run until vcpu trace = record {
  shape = shape;
  start = start;
  run = run;
  until = until;
  vcpu = was.vcpu ∙ vcpu;
  numbers = ap numbers_of trace ∙ sym was.places;
  shows = λ a e at. absurd (some-ne-none e (sym at ∙ ap (λ es. get_elem? es a) trace));
}
