use Rattle.std.proofs.Common.{rules, arith, w64, FitsSigned}
use Rattle.std.proofs.lemmas.Int.{to_z-of_z}
use Rattle.std.proofs.lemmas.Nat.{and_mask}
use Rattle.rv64i_decode.proofs.Pieces.{immediate_b}
use Rattle.rv64i_decode.proofs.fields.Fields.imm_b.Goals as goal

pub returns-clause-row : goal.returns-clause-row
returns-clause-row c =
    let fits : FitsSigned w64 c.sign_extend.result = search rules in
    rw (to_z-of_z w64 c.sign_extend.result fits)
    (immediate_b c.args.self _ _ (grind (arith, and_mask c.self.inside.rd 1, and_mask c.self.inside.funct7 6)) c.sign_extend.ensures.relation)
