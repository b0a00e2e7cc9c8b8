-- Bytes put behind others.
use Rattle.std.proofs.Common.{◌≡◌, ◌++◌, ℕ, List, ℤ, Result, Ok, Err, OnOk, refl}
use Rattle.guest_asm.specs.declared.mnemonic.Mnemonic.{Mnemonic}
use Rattle.guest_asm.specs.declared.mnemonic.Mnemonic.TheVariants.{Op, OpW, Imm, ImmW, Shift, ShiftW, Load, Jalr, Store, Branch, Jal, Lui, Auipc, Amo, Fence, Ecall, Ebreak, Data, Zero}
use Rattle.guest_asm.specs.declared.operand.Registers.{Registers}
use Rattle.guest_asm.specs.Bytes.{bytes_given, piece_of}
use Rattle.guest_asm.specs.Steps.{GivesBytes, PutsPiece}

-- the bytes of a statement that gives some were put behind the others
pub puts_given : (m : Mnemonic) (r : Registers) (n : ℤ) (old new : List ℕ) → GivesBytes m → new ≡ old ++ bytes_given m n →
    PutsPiece (piece_of m r n) old new
unfolding piece_of
puts_given (Op op) r n old new gives h = absurd gives
puts_given (OpW op) r n old new gives h = absurd gives
puts_given (Imm op) r n old new gives h = absurd gives
puts_given ImmW r n old new gives h = absurd gives
puts_given (Shift op) r n old new gives h = absurd gives
puts_given (ShiftW op) r n old new gives h = absurd gives
puts_given (Load op) r n old new gives h = absurd gives
puts_given Jalr r n old new gives h = absurd gives
puts_given (Store op) r n old new gives h = absurd gives
puts_given (Branch op) r n old new gives h = absurd gives
puts_given Jal r n old new gives h = absurd gives
puts_given Lui r n old new gives h = absurd gives
puts_given Auipc r n old new gives h = absurd gives
puts_given (Amo op wide order) r n old new gives h = absurd gives
puts_given Fence r n old new gives h = absurd gives
puts_given Ecall r n old new gives h = absurd gives
puts_given Ebreak r n old new gives h = absurd gives
puts_given (Data directive) r n old new gives h = record { added = bytes_given (Data directive) n; is_piece = refl; joined = h }
puts_given Zero r n old new gives h = record { added = bytes_given Zero n; is_piece = refl; joined = h }

-- the same of a call that may want memory
pub puts_given_on_ok : {A E : Type 0} (result : Result A E) (m : Mnemonic) (r : Registers) (n : ℤ) (old new : List ℕ) → GivesBytes m →
    OnOk result (new ≡ old ++ bytes_given m n) → OnOk result (PutsPiece (piece_of m r n) old new)
puts_given_on_ok (Ok x) m r n old new gives h = puts_given m r n old new gives h
puts_given_on_ok (Err e) m r n old new gives h = tt
