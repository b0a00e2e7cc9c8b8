-- Each way through the event ends with the vCPUs of one of its two parts.
use Rattle.std.proofs.Common.{ℕ, ◌+◌, ◌≤◌, List, All, sym, subst}
use Rattle.rv64i_step.specs.Vcpu.{VcpuData}
use Rattle.flat_machine.specs.Machine.{MachineData}
use Rattle.flat_machine.proofs.machine.Machine.step.Goals as goal
use Rattle.flat_machine.proofs.machine.Machine.step.Goals.{in-NoFetch, in-Fetch, in-Load2}

-- no vCPU of the machine has more steps
abbrev StepsWithin : ℕ → MachineData → Type 0
StepsWithin most m = All (λ (v : VcpuData). v.steps ≤ most) m.vcpus

pub returns-clause-steps : goal.returns-clause-steps
returns-clause-steps c = λ most before.
    let was = subst (StepsWithin most) (sym c.self.view_is) before in
    let now : StepsWithin (most + 1) c.match-request.self =
    elim c.match-request.branch [
      | in-NoFetch w ↦ subst (StepsWithin (most + 1)) (sym w.self-is) (w.fetch_into.ensures.steps most was)
      | in-Fetch w ↦ subst (StepsWithin (most + 1)) (sym w.self-is) (w.fetch_into-in-Fetch.ensures.steps most was)
      | in-Load2 w ↦
          (let served : StepsWithin most w.serve-value.new.self = subst (λ (vcpus : List VcpuData). All (λ (v : VcpuData). v.steps ≤ most) vcpus) (sym w.serve-value.ensures.vcpus) before in
          let kept = subst (StepsWithin most) (sym w.self-in-Load.view_is) served in
          subst (StepsWithin (most + 1)) (sym w.self-is) (w.access_into.ensures.steps most kept))
    ] in
    subst (StepsWithin (most + 1)) (sym c.self-2.view_is) now
