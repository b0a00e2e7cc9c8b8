-- What a loop over rounds may count on at each event: the run so far, and bounds on its steps, its clock and its length.
use Rattle.std.proofs.Common.{◌≡◌, ℕ, ◌+◌, ◌*◌, ◌<◌, ◌≤◌, false, [], ◌∷◌, ◌++◌, length, take, sym, ◌∙◌, ap, subst, arith, length-append}
use Rattle.std.proofs.lemmas.List.{take_all}
use Rattle.std.proofs.lemmas.Option.{same_Some}
use Rattle.flat_machine.specs.Laws.{ServesAll}
use Rattle.flat_machine.specs.Machine.{MachineData, Rest}
use Rattle.flat_machine.specs.Run.{run, steps_of, has_ended, ends_of, Progress, turn}
use Rattle.flat_machine.specs.UnderWay.{left_at, IsUnderWay}
use Rattle.flat_machine.proofs.Phases.{moves, steps_at_most, going_next}
use Rattle.flat_machine.proofs.PhaseEnds.{comes, events_of}
use Rattle.flat_machine.proofs.RoundPhases.{goes_on, turned}
use Rattle.flat_machine.proofs.Servable.{run_keeps}

-- a turn leaves it so
pub turn_under_way : (i : MachineData) (n : ℕ) (p : Progress) (k : ℕ) → k < length i.vcpus → IsUnderWay i n p →
    IsUnderWay i n (turn (ends_of i n) p k)
turn_under_way i n p k h way = (turned i n p k h way).way

-- no vCPU has finished more instructions than the phase has
pub way_steps : (i : MachineData) (n : ℕ) (p : Progress) (k : ℕ) → IsUnderWay i n p → steps_of p.machine k ≤ steps_of i k + n
way_steps i n p k way = steps_at_most i n p.machine k way.on

-- the clock counts the events so far
pub way_clock : (i : MachineData) (n : ℕ) (p : Progress) → ServesAll i → IsUnderWay i n p → p.machine.clock ≡ i.clock + length p.order
way_clock i n p serves way = (run_keeps i p.order p.machine serves way.ran).clock

-- there are at most two for each instruction
pub way_length : (i : MachineData) (n : ℕ) (p : Progress) → Rest i → IsUnderWay i n p → length p.order ≤ 2 * n * length i.vcpus
way_length i n p rest way =
    let come = comes i n p.order (length p.order) rest way.each (omega arith) in
    omega (arith, come.left)

-- and fewer while the phase of a vCPU has not ended
pub way_room : (i : MachineData) (n : ℕ) (p : Progress) (k : ℕ) → Rest i → IsUnderWay i n p → has_ended i n p.machine k ≡ false →
    length p.order < 2 * n * length i.vcpus
way_room i n p k rest way still =
    let g = going_next i n p.machine k way.on still in
    let more = goes_on i n p k g.0 way still g.1 in
    let most = way_length i n (record { machine = g.0; order = p.order ++ k ∷ [] }) rest more in
    omega (arith, most, length-append p.order (k ∷ []))

-- of each vCPU fewer than two for each of its instructions, while its phase has not ended
pub way_own : (i : MachineData) (n : ℕ) (p : Progress) (k : ℕ) → Rest i → IsUnderWay i n p → has_ended i n p.machine k ≡ false →
    events_of k p.order < 2 * n
way_own i n p k rest way still =
    let g = going_next i n p.machine k way.on still in
    let m = moves i n p.machine k g.0 way.on still g.1 in
    let come = comes i n p.order (length p.order) rest way.each (omega arith) in
    let same : come.machine ≡ p.machine =
    same_Some come.machine p.machine (sym come.ran ∙ ap (run i) (take_all (length p.order) p.order (omega arith)) ∙ way.ran) in
    let own = subst (λ (a : MachineData). events_of k (take (length p.order) p.order) + left_at i n a k ≤ 2 * n) same (come.own k) in
    omega (arith, own, m.less, ap (events_of k) (take_all (length p.order) p.order (omega arith)))
