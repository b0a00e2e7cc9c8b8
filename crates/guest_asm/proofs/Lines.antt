-- Each line of a listing places the bytes that it lists.
use Rattle.std.proofs.Common.{◌≡◌, ℕ, ◌^◌, ◌%◌, ◌<◌, ◌++◌, Bool, true, false, IsTrue, cond, List, [], ◌∷◌, codes, Option, Some, None, IfSome, ℤ, pos, ◌≤ℤ◌, refl, ap, sym, subst, arith}
use Rattle.std.specs.Fmt.{decimal}
use Rattle.std.specs.Int.{to_le_bytes, w8, w32}
use Rattle.std.specs.Option.{option_and_then, option_map_or}
use Rattle.rv64i_decode.specs.declared.instr.Instr.{Instr}
use Rattle.rv64i_decode.specs.declared.instr.Instr.TheVariants as instr
use Rattle.rv64i_decode.specs.Decode.{instr_of}
use Rattle.rv64i_decode.specs.Immediate.{IsUpperImmediate}
use Rattle.rv64i_decode.specs.Row.{Row}
use Rattle.rv64i_decode.specs.Valid.{IsValid}
use Rattle.guest_asm.specs.declared.directive.Directive.TheVariants.{Byte, Word}
use Rattle.guest_asm.specs.declared.mnemonic.Mnemonic.TheVariants.{Amo, Auipc, Branch, Data, Ebreak, Ecall, Fence, Imm, ImmW, Jal, Jalr, Load, Lui, Op, OpW, Shift, ShiftW, Store}
use Rattle.guest_asm.specs.Bytes.{Piece, instruction, given, piece_of}
use Rattle.guest_asm.specs.Listing.{byte_line, hex_digits, is_full_fence, register_text, statement_text, two_operands, upper_number, word_line}
use Rattle.guest_asm.specs.Mnemonic.{amo_text, branch_text, imm_text, load_text, reg_text, reg_w_text, shift_text, shift_w_text, store_text, suffix_text}
use Rattle.rv64i_decode.proofs.Decoded.{decoded_row}
use Rattle.guest_asm.proofs.Amos.{amo_names}
use Rattle.guest_asm.proofs.Forms.{IsNumberText}
use Rattle.guest_asm.proofs.InRange.{amount_range, in_range, negative, small_12, small_target, upper_again, upper_small, wide_target}
use Rattle.guest_asm.proofs.Listed.{Places, PlacesBytes}
use Rattle.guest_asm.proofs.Listings.{at_places, bare_places, given_places, indexed_places, jump_places, numbered_places, registers_places, target_places, upper_places}
use Rattle.guest_asm.proofs.ReadBack.{hex_byte_read, hex_word_read}
use Rattle.guest_asm.proofs.Names.{auipc_name, branch_names, byte_name, ebreak_name, ecall_name, fence_name, imm_names, imm_w_name, jal_name, jalr_name, load_names, lui_name, reg_names, reg_w_names, shift_names, shift_w_names, store_names, word_name}

-- ---- The statement of an instruction, where it has one

-- a statement that places the instruction
abbrev PlacesSome : Option (List ℕ) → Instr → Type 0
PlacesSome text i = IfSome text (λ line. Places line (instruction i) 4)

-- what is no jump need not be even
not_jump : {A : Type 0} → IsTrue false → A
not_jump h = cc

-- the one fence
fence_places : (rd rs1 bits : ℕ) (b : Bool) → is_full_fence rd rs1 bits ≡ b →
    PlacesSome (cond b (Some (codes "fence")) None) (instr.Fence rd rs1 bits)
unfolding piece_of
fence_places rd rs1 bits false h = tt
fence_places rd rs1 bits true h =
    let destination : rd ≡ 0 = grind (arith, h) in
    let source : rs1 ≡ 0 = grind (arith, h) in
    let all : bits ≡ 0b1111_1111 = grind (arith, h) in
    let full : instruction (instr.Fence 0 0 0b1111_1111) ≡ instruction (instr.Fence rd rs1 bits) = cc in
    subst (λ (piece : Piece). Places (codes "fence") piece 4) full (bare_places (codes "fence") Fence fence_name refl)

-- the number of an upper immediate is one that its statement takes, since it is among the first 2 ^ 20
upper_range : (z : ℤ) → IsUpperImmediate z → (pos 0 ≤ℤ pos (upper_number z)) × (pos (upper_number z) ≤ℤ pos 1048575)
upper_range z h = amount_range (upper_number z) 1048575 (omega (arith, upper_small z h))

-- lui
lui_places : (rd : ℕ) (imm : ℤ) → rd < 32 → IsUpperImmediate imm →
    Places (two_operands (codes "lui") (register_text rd) (decimal (upper_number imm))) (instruction (instr.Lui rd imm)) 4
unfolding piece_of
lui_places rd imm small h =
    let range = upper_range imm h in
    let text = two_operands (codes "lui") (register_text rd) (decimal (upper_number imm)) in
    subst (λ (z : ℤ). Places text (instruction (instr.Lui rd z)) 4) (upper_again imm h)
    (upper_places (codes "lui") Lui rd (upper_number imm) lui_name refl small (omega (arith, upper_small imm h))
    (in_range Lui (pos (upper_number imm)) (record { least = range.0; most = range.1; even = not_jump })))

-- auipc
auipc_places : (rd : ℕ) (imm : ℤ) → rd < 32 → IsUpperImmediate imm →
    Places (two_operands (codes "auipc") (register_text rd) (decimal (upper_number imm))) (instruction (instr.Auipc rd imm)) 4
unfolding piece_of
auipc_places rd imm small h =
    let range = upper_range imm h in
    let text = two_operands (codes "auipc") (register_text rd) (decimal (upper_number imm)) in
    subst (λ (z : ℤ). Places text (instruction (instr.Auipc rd z)) 4) (upper_again imm h)
    (upper_places (codes "auipc") Auipc rd (upper_number imm) auipc_name refl small (omega (arith, upper_small imm h))
    (in_range Auipc (pos (upper_number imm)) (record { least = range.0; most = range.1; even = not_jump })))

-- the statement of each valid instruction places it
instruction_places : (i : Instr) → IsValid i → PlacesSome (statement_text i) i
unfolding piece_of statement_text
instruction_places (instr.Lui rd imm) v = lui_places rd imm v.0 v.1
instruction_places (instr.Auipc rd imm) v = auipc_places rd imm v.0 v.1
instruction_places (instr.Jal rd off) v =
    jump_places (codes "jal") Jal rd off jal_name refl v.0 (small_target off v.1.0)
    (in_range Jal off (record { least = v.1.0.0; most = v.1.0.1; even = λ jump. v.1.1 }))
instruction_places (instr.Jalr rd rs1 off) v =
    indexed_places (codes "jalr") Jalr rd off rs1 jalr_name refl v.0 v.1 (small_12 off v.2)
    (in_range Jalr off (record { least = v.2.0; most = v.2.1; even = not_jump }))
instruction_places (instr.Branch op rs1 rs2 off) v =
    target_places (branch_text op) (Branch op) rs1 rs2 off (branch_names op) refl v.0 v.1 (small_target off (wide_target off v.2.0))
    (in_range (Branch op) off (record { least = v.2.0.0; most = v.2.0.1; even = λ jump. v.2.1 }))
instruction_places (instr.Load op rd rs1 off) v =
    indexed_places (load_text op) (Load op) rd off rs1 (load_names op) refl v.0 v.1 (small_12 off v.2)
    (in_range (Load op) off (record { least = v.2.0; most = v.2.1; even = not_jump }))
instruction_places (instr.Store op rs1 rs2 off) v =
    indexed_places (store_text op) (Store op) rs2 off rs1 (store_names op) refl v.1 v.0 (small_12 off v.2)
    (in_range (Store op) off (record { least = v.2.0; most = v.2.1; even = not_jump }))
instruction_places (instr.Imm op rd rs1 imm) v =
    numbered_places (imm_text op) (Imm op) rd rs1 imm (imm_names op) refl v.0 v.1 (small_12 imm v.2)
    (in_range (Imm op) imm (record { least = v.2.0; most = v.2.1; even = not_jump }))
instruction_places (instr.Shift op rd rs1 amount) v =
    let range = amount_range amount 63 v.2 in
    numbered_places (shift_text op) (Shift op) rd rs1 (pos amount) (shift_names op) refl v.0 v.1 (omega arith)
    (in_range (Shift op) (pos amount) (record { least = range.0; most = range.1; even = not_jump }))
instruction_places (instr.ImmW rd rs1 imm) v =
    numbered_places (codes "addiw") ImmW rd rs1 imm imm_w_name refl v.0 v.1 (small_12 imm v.2)
    (in_range ImmW imm (record { least = v.2.0; most = v.2.1; even = not_jump }))
instruction_places (instr.ShiftW op rd rs1 amount) v =
    let range = amount_range amount 31 v.2 in
    numbered_places (shift_w_text op) (ShiftW op) rd rs1 (pos amount) (shift_w_names op) refl v.0 v.1 (omega arith)
    (in_range (ShiftW op) (pos amount) (record { least = range.0; most = range.1; even = not_jump }))
instruction_places (instr.Op op rd rs1 rs2) v = registers_places (reg_text op) (Op op) rd rs1 rs2 (reg_names op) refl v.0 v.1 v.2
instruction_places (instr.OpW op rd rs1 rs2) v = registers_places (reg_w_text op) (OpW op) rd rs1 rs2 (reg_w_names op) refl v.0 v.1 v.2
instruction_places (instr.Fence rd rs1 bits) v = fence_places rd rs1 bits (is_full_fence rd rs1 bits) refl
instruction_places instr.Ecall v = bare_places (codes "ecall") Ecall ecall_name refl
instruction_places instr.Ebreak v = bare_places (codes "ebreak") Ebreak ebreak_name refl
instruction_places (instr.Amo op wide rd rs1 rs2 order) v =
    at_places (amo_text op ++ codes "." ++ suffix_text (wide, order)) (Amo op wide order) rd rs2 rs1 (amo_names op wide order v.3) refl
    v.0 v.2 v.1

-- ---- The line of a word, and of a byte

-- a word that is given by its digits
word_given : (digits : List ℕ) (word : ℕ) → word < 2 ^ 32 → IsNumberText (codes "0x" ++ digits) (pos word) →
    Places (codes ".word 0x" ++ digits) (given (to_le_bytes w32 word)) 4
unfolding piece_of
word_given digits word small h =
    let range = amount_range word 4294967295 (omega arith) in
    given_places (codes ".word") (codes "0x" ++ digits) (Data Word) (pos word) word_name refl h
    (in_range (Data Word) (pos word) (record { least = negative 2147483647 word; most = range.1; even = not_jump }))

-- a byte that is given by its digits
byte_given : (digits : List ℕ) (byte : ℕ) → byte < 2 ^ 8 → IsNumberText (codes "0x" ++ digits) (pos byte) →
    Places (codes ".byte 0x" ++ digits) (given (to_le_bytes w8 byte)) 1
unfolding piece_of
byte_given digits byte small h =
    let range = amount_range byte 255 (omega arith) in
    given_places (codes ".byte") (codes "0x" ++ digits) (Data Byte) (pos byte) byte_name refl h
    (in_range (Data Byte) (pos byte) (record { least = negative 127 byte; most = range.1; even = not_jump }))

-- the line of a word, by the statement of its instruction or by its digits
by_statement : (word : ℕ) (i : Instr) (text : Option (List ℕ)) (other : List ℕ) → Row word i → PlacesSome text i →
    Places other (given (to_le_bytes w32 word)) 4 → PlacesBytes (option_map_or (λ t. t) text other ++ 10 ∷ []) (to_le_bytes w32 word)
by_statement word i None other row places h =
    record { line = other; piece = given (to_le_bytes w32 word); ended = refl; places = h; is_piece = refl }
by_statement word i (Some line) other row places h =
    record { line = line; piece = instruction i; ended = refl; places = places; is_piece = (word, row, refl) }

-- the same, by the instruction that the word is, if it is one
by_instruction : (word : ℕ) (found : Option Instr) (other : List ℕ) →
    ((i : Instr) → found ≡ Some i → Row word i × IsValid i) → Places other (given (to_le_bytes w32 word)) 4 →
    PlacesBytes (option_map_or (λ t. t) (option_and_then statement_text found) other ++ 10 ∷ []) (to_le_bytes w32 word)
by_instruction word None other facts h =
    record { line = other; piece = given (to_le_bytes w32 word); ended = refl; places = h; is_piece = refl }
by_instruction word (Some i) other facts h =
    let fact = facts i refl in
    by_statement word i (statement_text i) other fact.0 (instruction_places i fact.1) h

-- the line of a word places its four bytes
pub word_places : (word : ℕ) → word < 2 ^ 32 → PlacesBytes (word_line word) (to_le_bytes w32 word)
unfolding word_line
word_places word small =
    by_instruction word (instr_of word) (codes ".word 0x" ++ hex_digits 8 word) (decoded_row word small)
    (word_given (hex_digits 8 word) word small (hex_word_read word small))

-- the line of a byte places the byte
pub byte_places : (byte : ℕ) → byte < 2 ^ 8 → PlacesBytes (byte_line byte) (byte ∷ [])
byte_places byte small =
    let low : byte % 256 ≡ byte = omega arith in
    record {
      line = codes ".byte 0x" ++ hex_digits 2 byte;
      piece = given (to_le_bytes w8 byte);
      ended = refl;
      places = byte_given (hex_digits 2 byte) byte small (hex_byte_read byte small);
      is_piece = ap (λ (b : ℕ). b ∷ []) (sym low);
    }
