-- A text has one answer: the bytes of its pieces, or its first wrong line.
use Rattle.std.proofs.Common.{◌≡◌, ◌∙◌, ℕ, ◌++◌, List, [], ◌∷◌, ap, sym, subst}
use Rattle.std.specs.Int.{to_le_bytes, w32}
use Rattle.rv64i_decode.proofs.OneEncoding.{one_encoding}
use Rattle.guest_asm.specs.declared.fault.AsmFault.{AsmFault}
use Rattle.guest_asm.specs.declared.fault.AsmFault.TheVariants as fault
use Rattle.guest_asm.specs.Assemble.{IsAssembled, IsFaultOf}
use Rattle.guest_asm.specs.Bytes.{ArePieces, IsPiece, Piece, given, instruction}

-- a piece has one list of bytes, as an instruction has one word
one_piece : (piece : Piece) (a b : List ℕ) → IsPiece piece a → IsPiece piece b → a ≡ b
one_piece (instruction i) a b x y =
    let word : x.0 ≡ y.0 = one_encoding i x.0 y.0 x.1 y.1 in
    x.2 ∙ ap (to_le_bytes w32) word ∙ sym y.2
one_piece (given content) a b x y = x ∙ sym y

-- and so have pieces that are joined
one_joined : (pieces : List Piece) (a b : List ℕ) → ArePieces pieces a → ArePieces pieces b → a ≡ b
one_joined [] a b x y = x ∙ sym y
one_joined (piece ∷ pieces) a b x y =
    let front : x.0 ≡ y.0 = one_piece piece x.0 y.0 x.2 y.2 in
    let rest : x.1 ≡ y.1 = one_joined pieces x.1 y.1 x.3 y.3 in
    x.4 ∙ ap (λ (bytes : List ℕ). bytes ++ x.1) front ∙ ap (λ (bytes : List ℕ). y.0 ++ bytes) rest ∙ sym y.4

-- a text assembles to one list of bytes
pub one_answer : (text a b : List ℕ) → IsAssembled text a → IsAssembled text b → a ≡ b
one_answer text a b x y =
    let same : x.placed ≡ y.placed = cc (x.answer, y.answer) in
    one_joined y.placed a b (subst (λ pieces. ArePieces pieces a) same x.joined) y.joined

-- a text that assembles has no wrong line
pub no_wrong_line : (text a : List ℕ) (wrong : AsmFault) → IsAssembled text a → IsFaultOf text wrong → wrong ≡ fault.NoMemory
no_wrong_line text a (fault.Line line kind) x h = cc (x.answer, h)
no_wrong_line text a fault.NoMemory x h = cc
