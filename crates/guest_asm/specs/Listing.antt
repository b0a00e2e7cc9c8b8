-- The text that assembles to given bytes (this project's own, docs/COMMAND_LINE.md, Assembler).
use Rattle.std.specs.Prelude.{◌≡◌, ℕ, zero, suc, ◌+◌, ◌-◌, ◌*◌, ◌/◌, ◌%◌, ◌^◌, ◌<◌, All, Bool, ◌&&◌, ◌==◌, nat_lt, List, [], ◌∷◌, ◌++◌, length, take, drop, codes, ℤ, pos, negsuc, Option, Some, None, if◌then◌else◌}
use Rattle.std.specs.Fmt.{decimal, signed_decimal}
use Rattle.std.specs.Int.{from_le_bytes, w32}
use Rattle.std.specs.List.{flat_map, range_with_len}
use Rattle.std.specs.Option.{option_and_then, option_map_or}
use Rattle.rv64i_decode.specs.declared.instr.Instr.{Instr}
use Rattle.rv64i_decode.specs.declared.instr.Instr.TheVariants as instr
use Rattle.rv64i_decode.specs.Decode.{instr_of}
use Rattle.guest_asm.specs.Mnemonic.{amo_text, branch_text, imm_text, load_text, reg_text, reg_w_text, shift_text, shift_w_text, store_text, suffix_text}

-- ---- The parts of a statement

abbrev pub register_text : ℕ → List ℕ
register_text r = codes "x" ++ decimal r

-- the upper 20 bits of an immediate of lui or auipc, without a sign
abbrev pub upper_number : ℤ → ℕ
upper_number (pos n) = n / 4096
upper_number (negsuc n) = 1048576 - (n + 1) / 4096

-- a mnemonic and its operands, by their form
abbrev pub two_operands : List ℕ → List ℕ → List ℕ → List ℕ
two_operands name a b = name ++ codes " " ++ a ++ codes ", " ++ b

abbrev pub three_operands : List ℕ → List ℕ → List ℕ → List ℕ → List ℕ
three_operands name a b c = two_operands name a b ++ codes ", " ++ c

abbrev pub registers_text : List ℕ → ℕ → ℕ → ℕ → List ℕ
registers_text name a b c = three_operands name (register_text a) (register_text b) (register_text c)

abbrev pub numbered_text : List ℕ → ℕ → ℕ → ℤ → List ℕ
numbered_text name a b n = three_operands name (register_text a) (register_text b) (signed_decimal n)

abbrev pub at_register : ℕ → List ℕ
at_register r = codes "(" ++ register_text r ++ codes ")"

abbrev pub indexed_text : List ℕ → ℕ → ℤ → ℕ → List ℕ
indexed_text name a n base = two_operands name (register_text a) (signed_decimal n ++ at_register base)

-- ---- A statement

-- the one fence that has a statement: all before it, all after it
abbrev pub is_full_fence : ℕ → ℕ → ℕ → Bool
is_full_fence rd rs1 bits = rd == 0 && rs1 == 0 && bits == 0b1111_1111

-- the statement of an instruction, where it has one
unfoldable pub statement_text : Instr → Option (List ℕ)
statement_text (instr.Lui rd imm) = Some (two_operands (codes "lui") (register_text rd) (decimal (upper_number imm)))
statement_text (instr.Auipc rd imm) = Some (two_operands (codes "auipc") (register_text rd) (decimal (upper_number imm)))
statement_text (instr.Jal rd off) = Some (two_operands (codes "jal") (register_text rd) (signed_decimal off))
statement_text (instr.Jalr rd rs1 off) = Some (indexed_text (codes "jalr") rd off rs1)
statement_text (instr.Branch op rs1 rs2 off) = Some (numbered_text (branch_text op) rs1 rs2 off)
statement_text (instr.Load op rd rs1 off) = Some (indexed_text (load_text op) rd off rs1)
statement_text (instr.Store op rs1 rs2 off) = Some (indexed_text (store_text op) rs2 off rs1)
statement_text (instr.Imm op rd rs1 imm) = Some (numbered_text (imm_text op) rd rs1 imm)
statement_text (instr.Shift op rd rs1 amount) = Some (numbered_text (shift_text op) rd rs1 (pos amount))
statement_text (instr.ImmW rd rs1 imm) = Some (numbered_text (codes "addiw") rd rs1 imm)
statement_text (instr.ShiftW op rd rs1 amount) = Some (numbered_text (shift_w_text op) rd rs1 (pos amount))
statement_text (instr.Op op rd rs1 rs2) = Some (registers_text (reg_text op) rd rs1 rs2)
statement_text (instr.OpW op rd rs1 rs2) = Some (registers_text (reg_w_text op) rd rs1 rs2)
statement_text (instr.Fence rd rs1 bits) = if is_full_fence rd rs1 bits then Some (codes "fence") else None
statement_text instr.Ecall = Some (codes "ecall")
statement_text instr.Ebreak = Some (codes "ebreak")
statement_text (instr.Amo op wide rd rs1 rs2 order) =
    Some (three_operands (amo_text op ++ codes "." ++ suffix_text (wide, order)) (register_text rd) (register_text rs2) (at_register rs1))

-- ---- The lines

-- a hexadecimal digit, in lower case
abbrev pub hex_digit : ℕ → ℕ
hex_digit n = if nat_lt n 10 then 48 + n else 87 + n

-- so many hexadecimal digits of a number, with leading zeros
abbrev pub hex_digits : ℕ → ℕ → List ℕ
hex_digits zero n = []
hex_digits (suc count) n = hex_digits count (n / 16) ++ hex_digit (n % 16) ∷ []

-- the line of a word
unfoldable pub word_line : ℕ → List ℕ
word_line word =
    option_map_or (λ text. text) (option_and_then statement_text (instr_of word)) (codes ".word 0x" ++ hex_digits 8 word) ++ 10 ∷ []

-- the line of a byte
abbrev pub byte_line : ℕ → List ℕ
byte_line byte = codes ".byte 0x" ++ hex_digits 2 byte ++ 10 ∷ []

-- the word number i, of four bytes
abbrev pub word_at : List ℕ → ℕ → ℕ
word_at bytes i = from_le_bytes w32 (take 4 (drop (4 * i) bytes))

-- the listing: a line for each whole word, then one for each byte that is left
unfoldable pub list_of : List ℕ → List ℕ
list_of bytes =
    flat_map (λ i. word_line (word_at bytes i)) (range_with_len 0 (length bytes / 4))
    ++ flat_map byte_line (drop (4 * (length bytes / 4)) bytes)

-- bytes, and the text that is their listing
pub record IsListingOf (text bytes : List ℕ) : Type 0 where
  pub small : All (λ byte. byte < 2 ^ 8) bytes
  pub listing : text ≡ list_of bytes
