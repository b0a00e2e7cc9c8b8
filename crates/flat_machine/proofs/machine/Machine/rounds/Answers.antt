-- The rounds that were made are those of the definition, which are a phase.
use Rattle.std.proofs.Common.{◌≡◌, ℕ, ◌+◌, ◌*◌, List, [], length, map, Some, ap, subst, sym, ◌∙◌, arith}
use Rattle.rv64i_step.specs.Vcpu.{VcpuData}
use Rattle.flat_machine.specs.Machine.{MachineData}
use Rattle.flat_machine.specs.Run.{Phase, Progress, ends_of, rounds_on, rounds_run, run}
use Rattle.flat_machine.proofs.RoundPhases.{rounds_are_phase, rounds_ran}
use Rattle.flat_machine.proofs.machine.Machine.rounds.Goals as goal

-- the ends of the phases, and the rounds to them
made_rounds : (m : MachineData) (n : ℕ) (ends : List ℕ) (p : Progress) → ends ≡ map (λ (v : VcpuData). v.steps + n) m.vcpus →
    p ≡ rounds_on ends (2 * n) (record { machine = m; order = [] }) → p ≡ rounds_run m n
unfolding ends_of rounds_run
made_rounds m n ends p is made = made ∙ ap (λ e. rounds_on e (2 * n) (record { machine = m; order = [] })) is

pub returns-clause-run : goal.returns-clause-run
returns-clause-run c =
    let ends = c.deref-2.ensures.value ∙ (c.in_ok-ends.ensures {u = tt}) ∙ ap (map (λ (v : VcpuData). v.steps + c.args.n)) (c.deref.ensures.value ∙ ap (λ (m : MachineData). m.vcpus) c.self.view_is) in
    let whole = made_rounds c.args.self.now c.args.n c.deref-2.result.now _ ends c.make_rounds.ensures in
    ap (λ (p : Progress). run c.args.self.now p.order) whole ∙ rounds_ran c.args.self.now c.args.n c.requires.rest ∙ ap (λ (p : Progress). Some p.machine) (sym whole)

pub returns-clause-phase : goal.returns-clause-phase
returns-clause-phase c =
    let ends = c.deref-2.ensures.value ∙ (c.in_ok-ends.ensures {u = tt}) ∙ ap (map (λ (v : VcpuData). v.steps + c.args.n)) (c.deref.ensures.value ∙ ap (λ (m : MachineData). m.vcpus) c.self.view_is) in
    let whole = made_rounds c.args.self.now c.args.n c.deref-2.result.now _ ends c.make_rounds.ensures in
    let count : length c.args.self.now.vcpus ≡ c.args.self.now.shape.vcpus =
    omega (arith, ap (λ (m : MachineData). length m.vcpus) c.self.view_is, ap (λ (m : MachineData). m.shape.vcpus) c.self.view_is, ap length c.deref.ensures.value, c.deref.ensures.len, c.self.invariant.vcpus) in
    subst (λ (p : Progress). Phase c.args.self.now c.args.n p.order) (sym whole) (rounds_are_phase c.args.self.now c.args.n c.requires.rest count)
