-- The timer, whose time is the number of events (this project's own device, docs/MACHINE.md).
use Rattle.std.specs.Prelude.{ℕ, nat_le, if◌then◌else◌}
use Rattle.ram_block.specs.declared.place.TimerReg.{TimerReg}
use Rattle.ram_block.specs.declared.place.TimerReg.TheVariants.{Time, Cmp, Due}

-- what a load of a register gives at a compare value and a time
unfoldable pub timer_reads : TimerReg → ℕ → ℕ → ℕ
timer_reads Time cmp time = time
timer_reads Cmp cmp time = cmp
timer_reads Due cmp time = if nat_le cmp time then 1 else 0
