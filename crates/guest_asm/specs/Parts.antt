-- What the values of the code that hold pieces of the text stand for (this project's own).
use Rattle.std.specs.Option.{option_copied}
use Rattle.guest_asm.specs.declared.line.LineParts.{LineParts}
use Rattle.guest_asm.specs.declared.operand.Operands.{Operands}
use Rattle.guest_asm.specs.declared.operand.Operands.TheVariants as code
use Rattle.guest_asm.specs.declared.operand.Target.{Target}
use Rattle.guest_asm.specs.declared.operand.Target.TheVariants as target
use Rattle.guest_asm.specs.Line.{Line}
use Rattle.guest_asm.specs.Operand as spec
use Rattle.guest_asm.specs.Statement as value

-- a line
abbrev pub parts_value : LineParts → Line
parts_value parts = record { label = option_copied parts.label; statement = parts.statement.now }

-- a target
abbrev pub target_value : Target → spec.Target
target_value (target.Number n) = spec.offset n
target_value (target.Label name) = spec.label name.now

-- operands
abbrev pub operands_value : Operands → value.Operands
operands_value code.Bare = value.bare
operands_value (code.Registers a b c) = value.registers a b c
operands_value (code.RegistersNumber a b n) = value.registers_number a b n
operands_value (code.RegistersTarget a b t) = value.registers_target a b (target_value t)
operands_value (code.RegisterNumber a n) = value.register_number a n
operands_value (code.RegisterTarget a t) = value.register_target a (target_value t)
operands_value (code.Number n) = value.number n
