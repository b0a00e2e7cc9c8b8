-- The vCPUs of which passes know, when the role of a pass changes, or a pass comes.
use Rattle.std.proofs.Common.{◌≡◌, ◌≢◌, ◌⊎◌, inl, inr, ℕ, zero, suc, List, [], ◌∷◌, ◌++◌, length, set, refl, sym, ◌∙◌, ap}
use mathlib.Core.Option.{some, some-injective, some-ne-none}
use lib.ListN.{get_elem?}
use Rattle.atomic_table.proofs.Lists.{set_here, set_else, at_longer, at_last}
use Rattle.bus_rule.specs.Views.{Task, Role, Working, tasks_of, IsTask}
use Rattle.bus_rule.proofs.Lists.{place_within, one_there, place_push, write_cases}

-- a vCPU's pass knows of its own alone
pub own_task : (t u : Task) (a : ℕ) → get_elem? (t ∷ []) a ≡ some u → (a ≡ 0) × (t ≡ u)
own_task t u zero is = (refl, some-injective t u is)
own_task t u (suc a) is = absurd (some-ne-none u (sym is))

-- a place has one task
pub one_task : (roles : List Role) (j a : ℕ) (t u : Task) → IsTask roles j a t → IsTask roles j a u → t ≡ u
one_task roles j a t u is also =
    let same = one_there roles j is.role also.role is.pass also.pass in
    one_there (tasks_of is.role) a t u is.task (ap (λ r. get_elem? (tasks_of r) a) same ∙ also.task)

-- the task of a vCPU's pass
pub working_task : (roles : List Role) (j : ℕ) (t : Task) → get_elem? roles j ≡ some (Working t) → IsTask roles j 0 t
working_task roles j t is = record { role = Working t; pass = is; task = refl }

pub is_own : (roles : List Role) (j a : ℕ) (t u : Task) → get_elem? roles j ≡ some (Working t) → IsTask roles j a u → (a ≡ 0) × (t ≡ u)
is_own roles j a t u is task =
    let same = one_there roles j task.role (Working t) task.pass is in
    own_task t u a (ap (λ r. get_elem? (tasks_of r) a) (sym same) ∙ task.task)

-- ---- The role of pass j changes

-- a task is one of the new role, or of another pass
pub task_came : (roles : List Role) (j : ℕ) (old r : Role) (k a : ℕ) (u : Task) → get_elem? roles j ≡ some old → IsTask (set roles j r) k a u →
    ((k ≡ j) × (get_elem? (tasks_of r) a ≡ some u)) ⊎ ((k ≢ j) × IsTask roles k a u)
task_came roles j old r k a u was task =
    elim (write_cases roles j k r old task.role was task.pass) as (λ _. ((k ≡ j) × (get_elem? (tasks_of r) a ≡ some u)) ⊎ ((k ≢ j) × IsTask roles k a u)) [
      | inl (here, same) ↦ inl (here, ap (λ x. get_elem? (tasks_of x) a) same ∙ task.task)
      | inr (other, before) ↦ inr (other, record { role = task.role; pass = before; task = task.task })
    ]

-- the tasks of the new role, and those of the others, are there
pub task_comes : (roles : List Role) (j : ℕ) (old r : Role) (a : ℕ) (u : Task) → get_elem? roles j ≡ some old → get_elem? (tasks_of r) a ≡ some u →
    IsTask (set roles j r) j a u
task_comes roles j old r a u was is = record { role = r; pass = set_here roles j r (place_within roles j old was); task = is }

pub task_stays : (roles : List Role) (j : ℕ) (r : Role) (k a : ℕ) (u : Task) → k ≢ j → IsTask roles k a u → IsTask (set roles j r) k a u
task_stays roles j r k a u other task = record { role = task.role; pass = set_else roles j k r other ∙ task.pass; task = task.task }

-- ---- A pass comes

pub task_added : (roles : List Role) (r : Role) (k a : ℕ) (u : Task) → IsTask (roles ++ r ∷ []) k a u →
    IsTask roles k a u ⊎ ((k ≡ length roles) × (get_elem? (tasks_of r) a ≡ some u))
task_added roles r k a u task =
    elim (place_push roles k r task.role task.pass) as (λ _. IsTask roles k a u ⊎ ((k ≡ length roles) × (get_elem? (tasks_of r) a ≡ some u))) [
      | inl before ↦ inl (record { role = task.role; pass = before; task = task.task })
      | inr (place, same) ↦ inr (place, ap (λ x. get_elem? (tasks_of x) a) same ∙ task.task)
    ]

pub task_kept : (roles : List Role) (r : Role) (k a : ℕ) (u : Task) → IsTask roles k a u → IsTask (roles ++ r ∷ []) k a u
task_kept roles r k a u task = record { role = task.role; pass = at_longer roles (r ∷ []) k task.role task.pass; task = task.task }

pub task_new : (roles : List Role) (r : Role) (a : ℕ) (u : Task) → get_elem? (tasks_of r) a ≡ some u → IsTask (roles ++ r ∷ []) (length roles) a u
task_new roles r a u is = record { role = r; pass = at_last roles r (length roles) refl; task = is }
