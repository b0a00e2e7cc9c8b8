-- A statement's operands as values, by the form of its row (this project's own, docs/COMMAND_LINE.md, Assembler).
use Rattle.std.specs.Prelude.{ℕ, Bool, true, ◌&&◌, ◌==◌, List, length, ℤ, Option, Some, None, is_some, unwrap_or, if◌then◌else◌}
use Rattle.std.specs.Option.{option_and_then, option_map}
use Rattle.guest_asm.specs.declared.mnemonic.Form.{Form}
use Rattle.guest_asm.specs.declared.mnemonic.Form.TheVariants as form
use Rattle.guest_asm.specs.declared.operand.Registers.{Registers}
use Rattle.guest_asm.specs.Line.{cut}
use Rattle.guest_asm.specs.Number.{number_of}
use Rattle.guest_asm.specs.Operand.{Target, offset, indexed, register_at, register_in, target_in}

-- the operands of a statement in form. In a register's place stands the register, or none where the identifier is none
pub data Operands : Type 0 where
  bare : Operands
  registers : Option ℕ → Option ℕ → Option ℕ → Operands
  registers_number : Option ℕ → Option ℕ → ℤ → Operands
  registers_target : Option ℕ → Option ℕ → Target → Operands
  register_number : Option ℕ → ℤ → Operands
  register_target : Option ℕ → Target → Operands
  number : ℤ → Operands

-- two operands round the first comma, each read by its own rule
abbrev pub pair_of : {A B : Type 0} → (List ℕ → Option A) → (List ℕ → Option B) → List ℕ → Option (A × B)
pair_of first second text =
    option_and_then (λ p. option_and_then (λ a. option_map (λ b. (a, b)) (second p.1)) (first p.0)) (cut 44 text)

-- three operands, of which the first two are registers
abbrev pub triple_of : {A : Type 0} → (List ℕ → Option A) → List ℕ → Option (Option ℕ × (Option ℕ × A))
triple_of third text = pair_of register_in (pair_of register_in third) text

-- the operands that a text is in this form
unfoldable pub operands_of : Form → List ℕ → Option Operands
operands_of form.Bare text = if length text == 0 then Some bare else None
operands_of form.Registers text = option_map (λ p. registers p.0 p.1.0 p.1.1) (triple_of register_in text)
operands_of form.RegistersAt text = option_map (λ p. registers p.0 p.1.0 p.1.1) (triple_of register_at text)
operands_of form.RegistersNumber text = option_map (λ p. registers_number p.0 p.1.0 p.1.1) (triple_of number_of text)
operands_of form.Indexed text = option_map (λ p. registers_number p.0 p.1.1 p.1.0) (pair_of register_in indexed text)
operands_of form.RegistersTarget text = option_map (λ p. registers_target p.0 p.1.0 p.1.1) (triple_of target_in text)
operands_of form.RegisterTarget text = option_map (λ p. register_target p.0 p.1) (pair_of register_in target_in text)
operands_of form.RegisterNumber text = option_map (λ p. register_number p.0 p.1) (pair_of register_in number_of text)
operands_of form.Number text = option_map number (number_of text)

-- every identifier in a register's place is a register
abbrev pub are_registers : Operands → Bool
are_registers bare = true
are_registers (registers a b c) = is_some a && is_some b && is_some c
are_registers (registers_number a b n) = is_some a && is_some b
are_registers (registers_target a b t) = is_some a && is_some b
are_registers (register_number a n) = is_some a
are_registers (register_target a t) = is_some a
are_registers (number n) = true

-- the registers in the order in which they stand, where they are registers; 0 where there is none
abbrev pub numbered : Option ℕ → Option ℕ → Option ℕ → Registers
numbered a b c = record { first = unwrap_or a 0; second = unwrap_or b 0; third = unwrap_or c 0 }

abbrev pub registers_of : Operands → Registers
registers_of bare = numbered None None None
registers_of (registers a b c) = numbered a b c
registers_of (registers_number a b n) = numbered a b None
registers_of (registers_target a b t) = numbered a b None
registers_of (register_number a n) = numbered a None None
registers_of (register_target a t) = numbered a None None
registers_of (number n) = numbered None None None

-- the number or the target, where they have one
abbrev pub target_of : Operands → Option Target
target_of bare = None
target_of (registers a b c) = None
target_of (registers_number a b n) = Some (offset n)
target_of (registers_target a b t) = Some t
target_of (register_number a n) = Some (offset n)
target_of (register_target a t) = Some t
target_of (number n) = Some (offset n)
