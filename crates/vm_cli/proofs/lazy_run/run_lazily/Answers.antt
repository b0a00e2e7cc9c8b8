-- The rounds to the ends of the phases are those of a run without a file.
use Rattle.std.proofs.Common.{◌*◌, ◌^◌, refl, ◌∙◌, arith}
use Rattle.std.proofs.lemmas.Nat.{mul-le}
use Rattle.flat_machine.proofs.Turns.{steps_of-le}
use Rattle.vm_cli.proofs.LazyRuns.{runs_phase}
use Rattle.vm_cli.proofs.lazy_run.run_lazily.Goals as goal

pub overflow_mul-len : goal.overflow_mul-len
overflow_mul-len g c = omega (arith, mul-le c.len.result (2 * c.args.n) 8 2000000 (omega (arith, c.len.ensures, c.in_ok-ends.ensures.few)) (omega (arith, c.requires.most)))

pub make_rounds-requires-clause-steps : goal.make_rounds-requires-clause-steps
make_rounds-requires-clause-steps g c = λ j. steps_of-le c.args.lazy.now.held.machine j (2 ^ 62) c.requires.rest.steps

pub returns-clause-ran : goal.returns-clause-ran
returns-clause-ran g c =
    runs_phase (g.M.Readable.told c.args.lazy.now.medium.now) c.args.lazy.now.held c.make_rounds.new.lazy.held c.args.n (2 * c.args.n) c.deref.result.now c.make_rounds.new.order.members (c.deref.ensures.value ∙ c.in_ok-ends.ensures.ends) c.requires.untouched refl
    c.in_default.ensures.rounds
