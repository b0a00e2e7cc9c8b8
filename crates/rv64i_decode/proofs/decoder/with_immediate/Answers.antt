use Rattle.std.proofs.Common.{◌≡◌, ◌∙◌, ap, sym, refl, rules, w64, FitsSigned}
use Rattle.std.proofs.lemmas.Int.{to_z-of_z}
use Rattle.rv64i_decode.specs.Word.{WordFields}
use Rattle.rv64i_decode.proofs.WithImmediate.{imm_decoded}
use Rattle.rv64i_decode.proofs.decoder.with_immediate.Goals as goal

pub returns-in-Some-clause-row : goal.returns-in-Some-clause-row
returns-in-Some-clause-row c =
    let fits : FitsSigned w64 c.imm_i.result = search rules in
    let funct3 : c.f.inside.funct3 ≡ c.args.f.funct3 = ap (λ (v : WordFields). v.funct3) c.f.view_is in
    let rd : c.f-in-Some.inside.rd ≡ c.args.f.rd = ap (λ (v : WordFields). v.rd) c.f-in-Some.view_is in
    let rs1 : c.f-in-Some.inside.rs1 ≡ c.args.f.rs1 = ap (λ (v : WordFields). v.rs1) c.f-in-Some.view_is in
    let has_op = c.in-Some.ensures.op in
    rw (to_z-of_z w64 c.imm_i.result fits, rd, rs1)
    (imm_decoded c.args.f c.in-Some.op c.imm_i.result c.requires.opcode (sym funct3 ∙ (has_op c.in-Some.op).0 refl) (λ other e. cc ((has_op other).1 (funct3 ∙ e))) c.imm_i.ensures.row)
