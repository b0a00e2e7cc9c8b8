use Rattle.std.proofs.Common.{◌≡◌, rules}
use Rattle.guest_asm.specs.Bytes.{instruction, piece_of}
use Rattle.guest_asm.proofs.Validity.{valid_instruction}
use Rattle.guest_asm.proofs.piece.put_instruction.Goals as goal

pub encode-requires : goal.encode-requires
encode-requires c =
    let piece : piece_of c.args.mnemonic c.args.r c.args.number ≡ instruction c.in-Some.instr = search rules in
    record {
      valid =
          valid_instruction c.args.mnemonic c.args.r c.args.number c.in-Some.instr c.requires.registers c.requires.order
          c.requires.number piece;
    }
