-- The fields of a word are one, and with them its row.
use Rattle.std.proofs.Common.{◌≡◌, ◌↔◌, ℕ, Option, Some, IfSome, None, refl, subst, arith}
use Rattle.rv64i_decode.specs.declared.instr.Instr.{Instr}
use Rattle.rv64i_decode.specs.Row.{HasFields, IsDecoded, Row}
use Rattle.rv64i_decode.specs.Valid.{IsValid}
use Rattle.rv64i_decode.specs.Word.{IsInRange, IsWord, WordFields}
use Rattle.rv64i_decode.proofs.OneEncoding.{same_fields}
use Rattle.rv64i_decode.proofs.Ranges.{IsValid-HasFields}

-- a word has its fields only
pub one_word : (w : ℕ) (f g : WordFields) → IsWord w f → IsWord w g → f ≡ g
one_word w f g a b =
    let funct7 : f.funct7 ≡ g.funct7 = omega arith in
    let rs2 : f.rs2 ≡ g.rs2 = omega arith in
    let rs1 : f.rs1 ≡ g.rs1 = omega arith in
    let funct3 : f.funct3 ≡ g.funct3 = omega arith in
    let rd : f.rd ≡ g.rd = omega arith in
    let opcode : f.opcode ≡ g.opcode = omega arith in
    same_fields f g opcode rd funct3 rs1 rs2 funct7

-- what the fields of a word decode to is the row of the word
pub Row-IsDecoded : (w : ℕ) (f : WordFields) (r : Option Instr) → IsWord w f → IsDecoded f r →
    (i : Instr) → (r ≡ Some i) ↔ Row w i
Row-IsDecoded w f r word decoded i = (
  (λ e. record { fields = f; word = word; row = decoded.sound i e }),
  (λ row. decoded.whole i (subst (λ g. HasFields g i) (one_word w row.fields f row.word word) row.row)),
)

-- what fields in their ranges decode to is valid
pub IsValid-IsDecoded : (f : WordFields) (r : Option Instr) → IsInRange f → IsDecoded f r →
    IfSome r IsValid
IsValid-IsDecoded f None in_range decoded = tt
IsValid-IsDecoded f (Some i) in_range decoded = IsValid-HasFields f i in_range (decoded.sound i refl)
