-- The counts of steps at which the phases end, one after another.
use Rattle.std.proofs.Common.{◌≡◌, ℕ, zero, suc, ◌+◌, ◌^◌, ◌≤◌, List, [], ◌∷◌, ◌++◌, length, map, take, Some, refl, sym, ◌∙◌, ap, arith}
use Rattle.std.specs.List.{slice_get}
use Rattle.std.proofs.lemmas.List.{take_all}
use Rattle.std.proofs.lemmas.Option.{none-some, same_Some}
use Rattle.rv64i_step.specs.Vcpu.{VcpuData}
use Rattle.flat_machine.specs.Machine.{MachineData, Rest}
use Rattle.flat_machine.specs.Run.{ends_of}
use Rattle.flat_machine.proofs.Outcomes.{All-slice_get}

-- those of the first vCPUs
unfoldable pub first_ends : MachineData → ℕ → ℕ → List ℕ
first_ends m run k = map (λ v. v.steps + run) (take k m.vcpus)

pub ends_none : (m : MachineData) (run : ℕ) → [] ≡ first_ends m run 0
unfolding first_ends
ends_none m run = refl

push_at : (vs : List VcpuData) (run k : ℕ) (v : VcpuData) → slice_get vs k ≡ Some v →
    map (λ (w : VcpuData). w.steps + run) (take k vs) ++ (v.steps + run) ∷ [] ≡ map (λ (w : VcpuData). w.steps + run) (take (suc k) vs)
push_at [] run k v stood = absurd (none-some v stood)
push_at (w ∷ vs) run zero v stood = ap (λ (x : VcpuData). (x.steps + run) ∷ []) (sym (same_Some w v stood))
push_at (w ∷ vs) run (suc k) v stood = ap (λ l. (w.steps + run) ∷ l) (push_at vs run k v stood)

pub ends_more : (m : MachineData) (run k : ℕ) (v : VcpuData) → slice_get m.vcpus k ≡ Some v →
    first_ends m run k ++ (v.steps + run) ∷ [] ≡ first_ends m run (k + 1)
unfolding first_ends
ends_more m run k v stood =
    push_at m.vcpus run k v stood ∙ ap (λ n. map (λ (w : VcpuData). w.steps + run) (take n m.vcpus)) (let e : suc k ≡ k + 1 = omega arith in e)

pub ends_all : (m : MachineData) (run k : ℕ) → length m.vcpus ≡ k → first_ends m run k ≡ ends_of m run
unfolding first_ends ends_of
ends_all m run k count = ap (map (λ (w : VcpuData). w.steps + run)) (take_all k m.vcpus (omega arith))

-- each has room for the phase
pub steps_room : (m : MachineData) (k : ℕ) (v : VcpuData) → Rest m → slice_get m.vcpus k ≡ Some v → v.steps ≤ 2 ^ 62
steps_room m k v rest stood = All-slice_get (λ (w : VcpuData). w.steps ≤ 2 ^ 62) m.vcpus k v rest.steps stood

pub ruleset ends_steps = (ends_none, ends_more, ends_all, steps_room)
