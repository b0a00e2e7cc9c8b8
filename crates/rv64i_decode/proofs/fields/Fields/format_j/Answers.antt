use Rattle.std.proofs.Common.{◌/◌, ◌^◌, rules, arith, w64}
use Rattle.std.proofs.lemmas.Int.{to_z-of_z}
use Rattle.std.proofs.lemmas.Nat.{and_mask}
use Rattle.rv64i_decode.proofs.Pieces.{immediate_j_put}
use Rattle.rv64i_decode.proofs.fields.Fields.format_j.Goals as goal

pub returns-clause-is : goal.returns-clause-is
returns-clause-is c =
    let bits = c.low_bits-bits.result in
    let complement = rw (to_z-of_z w64 c.args.off c.ranges.off) at c.low_bits-bits.ensures in
    record {
      opcode_is = search rules;
      rd_is = search rules;
      imm_is =
          immediate_j_put _ bits c.args.off c.requires.off complement
          (and_mask (bits / 2 ^ 12) 3)
          (and_mask (bits / 2 ^ 15) 5)
          (grind (arith, and_mask (bits / 2 ^ 11) 1, and_mask (bits / 2) 4))
          (grind (arith, and_mask (bits / 2 ^ 5) 6));
    }
