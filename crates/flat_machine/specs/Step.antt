-- What one call of `step` does (this project's own, docs/MACHINE.md).
use Rattle.std.specs.Prelude.{◌≡◌, ℕ, Some, None}
use Rattle.flat_machine.specs.Machine.{MachineData}
use Rattle.flat_machine.specs.Next.{next}
use Rattle.flat_machine.specs.declared.step.Stepped.{Stepped}
use Rattle.flat_machine.specs.declared.step.Stepped.TheVariants.{Event, Halted}

-- one event of vCPU k, or none and no change
abbrev pub StepsTo : MachineData → ℕ → Stepped → MachineData → Type 0
StepsTo m k Event after = next m k ≡ Some after
StepsTo m k Halted after = (next m k ≡ None) × (after ≡ m)
