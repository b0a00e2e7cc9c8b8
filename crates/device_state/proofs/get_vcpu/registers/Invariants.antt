use Rattle.std.proofs.Common.{◌≡◌, length, take}
use Rattle.device_state.specs.Reading.{numbers_of}
use Rattle.device_state.proofs.get_vcpu.registers.Given as goal

abbrev pub invariant-loop-i : goal.invariant-loop-i
invariant-loop-i l = record { so_far : take l.i l.regs ≡ numbers_of l.i l.body; count : length l.regs ≡ 31 }
