use Rattle.std.proofs.Common.{rules, arith, w64, FitsSigned}
use Rattle.std.proofs.lemmas.Int.{to_z-of_z}
use Rattle.std.proofs.lemmas.Nat.{and_mask}
use Rattle.rv64i_decode.proofs.Pieces.{immediate_j}
use Rattle.rv64i_decode.proofs.fields.Fields.imm_j.Goals as goal

pub returns-clause-row : goal.returns-clause-row
returns-clause-row c =
    let fits : FitsSigned w64 c.sign_extend.result = search rules in
    rw (to_z-of_z w64 c.sign_extend.result fits)
    (immediate_j c.args.self _ _ (grind (arith, and_mask c.self.inside.rs2 1, and_mask c.self.inside.funct7 6)) c.sign_extend.ensures.relation)
