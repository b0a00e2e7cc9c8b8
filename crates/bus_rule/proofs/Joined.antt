-- What the passes know of the run, when the saver's takes in a vCPU's; and that the saver's stays the first.
use Rattle.std.proofs.Common.{◌≡◌, ◌≢◌, inl, inr, ℕ, ◌≤◌, List, [], ◌∷◌, ◌++◌, length, set, refl, sym, ◌∙◌, ap, subst}
use mathlib.Core.Option.{some, some-ne-none}
use lib.ListN.{get_elem?}
use Rattle.std.proofs.lemmas.Bool.{cases_eq}
use Rattle.atomic_table.proofs.Lists.{set_here, set_else, at_longer, at_last}
use Rattle.flat_machine.specs.Machine.{MachineData}
use Rattle.bus_rule.specs.Story.{IsBooked, Story}
use Rattle.bus_rule.specs.Views.{Task, Book, Role, Spent, Working, Saving, tasks_of, IsTask}
use Rattle.bus_rule.proofs.Lists.{place_within, one_there, place_push, write_cases}
use Rattle.bus_rule.proofs.Tasks.{is_own, working_task}

module _ (roles : List Role) (j other : ℕ) (b : Book) (t : Task) (was : get_elem? roles j ≡ some (Saving b)) (is : get_elem? roles other ≡ some (Working t)) (elsewhere : other ≢ j) where
  -- the book with the vCPU that is taken in, and the roles then
  abbrev pub taken_in : Role
  taken_in = Saving (record b { joined = b.joined ++ t ∷ [] })

  abbrev pub roles_joined : List Role
  roles_joined = set (set roles j taken_in) other Spent

  -- where a task was: at its place, or in the pass that is taken in
  pub data Origin (k a : ℕ) (u : Task) : Type 0 where
    Stayed : k ≢ other → IsTask roles k a u → Origin k a u
    Came : k ≡ j → a ≡ length b.joined → t ≡ u → Origin k a u

  pub origin : (k a : ℕ) (u : Task) → IsTask roles_joined k a u → Origin k a u
  origin k a u task =
      let still : get_elem? (set roles j taken_in) other ≡ some (Working t) = set_else roles j other taken_in elsewhere ∙ is in
      elim (write_cases (set roles j taken_in) other k Spent (Working t) task.role still task.pass) as (λ _. Origin k a u) [
        | inl (here, spent) ↦ absurd (some-ne-none u (sym (ap (λ x. get_elem? (tasks_of x) a) spent ∙ task.task)))
        | inr (not_spent, at) ↦
            elim (write_cases roles j k taken_in (Saving b) task.role was at) as (λ _. Origin k a u) [
              | inl (here, same) ↦
                  elim (place_push b.joined a t u (ap (λ x. get_elem? (tasks_of x) a) same ∙ task.task)) as (λ _. Origin k a u) [
                    | inl before ↦ Stayed not_spent (record { role = Saving b; pass = ap (get_elem? roles) here ∙ was; task = before })
                    | inr (place, new) ↦ Came here place new
                  ]
              | inr (not_saver, before) ↦ Stayed not_spent (record { role = task.role; pass = before; task = task.task })
            ]
      ]

  -- where a task is now
  saver_task : (a : ℕ) (u : Task) → get_elem? (b.joined ++ t ∷ []) a ≡ some u → IsTask roles_joined j a u
  saver_task a u at = record {
    role = taken_in;
    pass = set_else (set roles j taken_in) other j Spent (λ e. elsewhere (sym e)) ∙ set_here roles j taken_in (place_within roles j (Saving b) was);
    task = at;
  }

  pub goes_to : (k a : ℕ) (u : Task) → IsTask roles k a u → (l : ℕ) × (c : ℕ) × IsTask roles_joined l c u
  goes_to k a u task =
      elim (cases_eq k other) as (λ _. (l : ℕ) × (c : ℕ) × IsTask roles_joined l c u) [
        | inl here ↦
            (let own = is_own roles other a t u is (subst (λ (x : ℕ). IsTask roles x a u) here task) in
            (j, length b.joined, saver_task (length b.joined) u (at_last b.joined t (length b.joined) refl ∙ ap some own.1)))
        | inr not_spent ↦
            elim (cases_eq k j) as (λ _. (l : ℕ) × (c : ℕ) × IsTask roles_joined l c u) [
              | inl here ↦
                  (let same = one_there roles j task.role (Saving b) (ap (get_elem? roles) (sym here) ∙ task.pass) was in
                  (j, a, saver_task a u (at_longer b.joined (t ∷ []) a u (ap (λ x. get_elem? (tasks_of x) a) (sym same) ∙ task.task))))
              | inr not_saver ↦ (
                k,
                a,
                record {
                  role = task.role;
                  pass = set_else (set roles j taken_in) other k Spent not_spent ∙ set_else roles j k taken_in not_saver ∙ task.pass;
                  task = task.task;
                },
              )
            ]
      ]

  -- every task was there
  pub was_task : (k a : ℕ) (u : Task) → IsTask roles_joined k a u → (l : ℕ) × (c : ℕ) × IsTask roles l c u
  was_task k a u task =
      elim (origin k a u task) [
        | Stayed not_spent before ↦ (k, a, before)
        | Came here place same ↦ (other, 0, subst (IsTask roles other 0) same (working_task roles other t is))
      ]

  -- no vCPU is in two places
  apart : (i : MachineData) (n : ℕ) (o : List ℕ) (m : MachineData) (split : ℕ) → Story i n o m split roles → (k a l c : ℕ) (x y : Task) →
      Origin k a x → Origin l c y → x.who ≡ y.who → (k ≡ l) × (a ≡ c)
  apart i n o m split story k a l c x y (Stayed not_spent before) (Stayed neither and_before) same = story.once k a l c x y before and_before same
  apart i n o m split story k a l c x y (Stayed not_spent before) (Came here place new) same =
      absurd (not_spent (story.once k a other 0 x t before (working_task roles other t is) (same ∙ ap (λ (z : Task). z.who) (sym new))).0)
  apart i n o m split story k a l c x y (Came here place new) (Stayed not_spent before) same =
      absurd (not_spent (story.once l c other 0 y t before (working_task roles other t is) (sym same ∙ ap (λ (z : Task). z.who) (sym new))).0)
  apart i n o m split story k a l c x y (Came here place new) (Came there also other_new) same = (here ∙ sym there, place ∙ sym also)

  -- the saver's pass takes in a vCPU's
  pub told_join : (i : MachineData) (n : ℕ) (o : List ℕ) (m : MachineData) (split : ℕ) → Story i n o m split roles → Story i n o m split roles_joined
  told_join i n o m split story = record {
    way = story.way;
    told = λ k a u task. (let w = was_task k a u task in story.told w.0 w.1 u w.2);
    once = λ k a l c x y task also same. apart i n o m split story k a l c x y (origin k a x task) (origin l c y also) same;
    each = λ k below.
        (let e = story.each k below in
        let g = goes_to e.0 e.1 e.2 e.3 in
        (g.0, g.1, e.2, g.2, e.4));
    untold = story.untold;
  }

-- ---- The saver's pass

-- a vCPU's pass, or one that is spent, is not the saver's
pub data IsNoSaver : Role → Type 0 where
  SpentIsNone : IsNoSaver Spent
  WorkingIsNone : (t : Task) → IsNoSaver (Working t)

no_saver : (r : Role) (b : Book) → IsNoSaver r → r ≡ Saving b → ⊥
no_saver Spent b is same = cc
no_saver (Working t) b is same = cc
no_saver (Saving c) b is same = elim is [ ]

-- the role of another pass changes
pub booked_other : (i : MachineData) (n : ℕ) (b : Book) (roles : List Role) (j : ℕ) (old r : Role) → IsBooked i n b roles → get_elem? roles j ≡ some old →
    j ≢ 0 → IsNoSaver r → IsBooked i n b (set roles j r)
booked_other i n b roles j old r booked was elsewhere none = record {
  first = set_else roles j 0 r (λ e. elsewhere (sym e)) ∙ booked.first;
  alone = λ k c at. elim (write_cases roles j k r old (Saving c) was at) as (λ _. k ≡ 0) [
    | inl (here, same) ↦ absurd (no_saver r c none same)
    | inr (other, before) ↦ booked.alone k c before
  ];
  instant = booked.instant;
  run = booked.run;
  split = booked.split;
}

-- a vCPU's pass is not the first
pub not_first : (i : MachineData) (n : ℕ) (b : Book) (roles : List Role) (j : ℕ) (t : Task) → IsBooked i n b roles → get_elem? roles j ≡ some (Working t) → j ≢ 0
not_first i n b roles j t booked was here =
    no_saver (Working t) b (WorkingIsNone t) (one_there roles 0 (Working t) (Saving b) (ap (get_elem? roles) (sym here) ∙ was) booked.first)

-- the saver's pass is the first, with the book
pub is_first : (i : MachineData) (n : ℕ) (b c : Book) (roles : List Role) (j : ℕ) → IsBooked i n b roles → get_elem? roles j ≡ some (Saving c) → (j ≡ 0) × (c ≡ b)
is_first i n b c roles j booked was =
    let here = booked.alone j c was in
    let same = one_there roles 0 (Saving c) (Saving b) (ap (get_elem? roles) (sym here) ∙ was) booked.first in
    (here, ap book_in same)
  where
    book_in : Role → Book
    book_in (Saving x) = x
    book_in _ = b

-- the saver writes in its book
pub rebooked : (i : MachineData) (n : ℕ) (b c : Book) (roles : List Role) → IsBooked i n b roles → c.instant ≡ b.instant → c.run ≡ b.run → c.split ≤ length i.vcpus →
    IsBooked i n c (set roles 0 (Saving c))
rebooked i n b c roles booked instant run split = record {
  first = set_here roles 0 (Saving c) (place_within roles 0 (Saving b) booked.first);
  alone = λ k d at. elim (write_cases roles 0 k (Saving c) (Saving b) (Saving d) booked.first at) as (λ _. k ≡ 0) [
    | inl (here, same) ↦ here
    | inr (other, before) ↦ booked.alone k d before
  ];
  instant = instant ∙ booked.instant;
  run = run ∙ booked.run;
  split = split;
}

-- a pass comes
pub booked_more : (i : MachineData) (n : ℕ) (b : Book) (roles : List Role) (t : Task) → IsBooked i n b roles → IsBooked i n b (roles ++ Working t ∷ [])
booked_more i n b roles t booked = record {
  first = at_longer roles (Working t ∷ []) 0 (Saving b) booked.first;
  alone = λ k d at. elim (place_push roles k (Working t) (Saving d) at) as (λ _. k ≡ 0) [
    | inl before ↦ booked.alone k d before
    | inr (place, same) ↦ absurd (no_saver (Working t) d (WorkingIsNone t) same)
  ];
  instant = booked.instant;
  run = booked.run;
  split = booked.split;
}
