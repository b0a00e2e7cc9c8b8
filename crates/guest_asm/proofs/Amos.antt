-- The names of the AMO instructions read back: an operation, a dot, the width and the order.
use Rattle.std.proofs.Common.{◌≡◌, ℕ, ◌<◌, ◌++◌, ◌==◌, Bool, true, false, List, [], ◌∷◌, codes, Some, None, refl, ◌∙◌, zero, suc, append_assoc, length-append, subst, sym, arith}
use Rattle.std.proofs.Math.Seq.{take-append_seam, drop-append-add}
use Rattle.rv64i_decode.specs.declared.op.AmoOp.{AmoOp}
use Rattle.rv64i_decode.specs.declared.op.AmoOp.TheVariants as amo
use Rattle.guest_asm.specs.declared.mnemonic.Mnemonic.{Mnemonic}
use Rattle.guest_asm.specs.declared.mnemonic.Mnemonic.TheVariants.{Amo}
use Rattle.guest_asm.specs.Line.{is_blank}
use Rattle.guest_asm.specs.Mnemonic.{amo_named, amo_op_named, amo_text, amo_with, mnemonic_named, plain_named, suffix_named, suffix_text}
use Rattle.guest_asm.proofs.Listed.{are_plain, is_plain}
use Rattle.guest_asm.proofs.Names.{Names}
use Rattle.guest_asm.proofs.Texts.{all_fail, fails_append, position_at}

-- none of the other mnemonics begins with the name of an AMO operation
not_plain : (op : AmoOp) (suffix : List ℕ) → plain_named (amo_text op ++ 46 ∷ suffix) ≡ None
not_plain amo.Add suffix = refl
not_plain amo.Swap suffix = refl
not_plain amo.Xor suffix = refl
not_plain amo.Or suffix = refl
not_plain amo.And suffix = refl
not_plain amo.Min suffix = refl
not_plain amo.Max suffix = refl
not_plain amo.Minu suffix = refl
not_plain amo.Maxu suffix = refl

-- each operation by its name
op_named : (op : AmoOp) → amo_op_named (amo_text op) ≡ Some op
op_named amo.Add = refl
op_named amo.Swap = refl
op_named amo.Xor = refl
op_named amo.Or = refl
op_named amo.And = refl
op_named amo.Min = refl
op_named amo.Max = refl
op_named amo.Minu = refl
op_named amo.Maxu = refl

-- which has no dot in it
no_dot : (op : AmoOp) → all_fail (λ b. b == 46) (amo_text op) ≡ true
no_dot amo.Add = refl
no_dot amo.Swap = refl
no_dot amo.Xor = refl
no_dot amo.Or = refl
no_dot amo.And = refl
no_dot amo.Min = refl
no_dot amo.Max = refl
no_dot amo.Minu = refl
no_dot amo.Maxu = refl

-- and is of plain bytes
op_plain : (op : AmoOp) → are_plain (amo_text op) ≡ true
unfolding is_plain is_blank
op_plain amo.Add = refl
op_plain amo.Swap = refl
op_plain amo.Xor = refl
op_plain amo.Or = refl
op_plain amo.And = refl
op_plain amo.Min = refl
op_plain amo.Max = refl
op_plain amo.Minu = refl
op_plain amo.Maxu = refl

-- each suffix by its name
suffix_read : (wide : Bool) (order : ℕ) → order < 4 → suffix_named (suffix_text (wide, order)) ≡ Some (wide, order)
suffix_read false zero h = refl
suffix_read false (suc zero) h = refl
suffix_read false (suc (suc zero)) h = refl
suffix_read false (suc (suc (suc zero))) h = refl
suffix_read false (suc (suc (suc (suc n)))) h = absurd (omega arith)
suffix_read true zero h = refl
suffix_read true (suc zero) h = refl
suffix_read true (suc (suc zero)) h = refl
suffix_read true (suc (suc (suc zero))) h = refl
suffix_read true (suc (suc (suc (suc n)))) h = absurd (omega arith)

-- and is of plain bytes, with the dot before it
suffix_plain : (wide : Bool) (order : ℕ) → order < 4 → are_plain (46 ∷ suffix_text (wide, order)) ≡ true
unfolding is_plain is_blank
suffix_plain false zero h = refl
suffix_plain false (suc zero) h = refl
suffix_plain false (suc (suc zero)) h = refl
suffix_plain false (suc (suc (suc zero))) h = refl
suffix_plain false (suc (suc (suc (suc n)))) h = absurd (omega arith)
suffix_plain true zero h = refl
suffix_plain true (suc zero) h = refl
suffix_plain true (suc (suc zero)) h = refl
suffix_plain true (suc (suc (suc zero))) h = refl
suffix_plain true (suc (suc (suc (suc n)))) h = absurd (omega arith)

-- an operation, a dot and a suffix
read_with : (word suffix : List ℕ) (op : AmoOp) (wide : Bool) (order : ℕ) → amo_op_named word ≡ Some op →
    suffix_named suffix ≡ Some (wide, order) → amo_with word suffix ≡ Some (Amo op wide order)
read_with word suffix op wide order is_op is_suffix = rw (is_op, is_suffix)

-- a word is read round its first dot
read_parts : (word suffix : List ℕ) → all_fail (λ b. b == 46) word ≡ true → amo_named (word ++ 46 ∷ suffix) ≡ amo_with word suffix
read_parts word suffix undotted =
    rw (position_at (λ b. b == 46) word 46 suffix undotted refl, take-append_seam word (46 ∷ suffix), drop-append-add word (46 ∷ suffix) 1)

-- what no other mnemonic is, and an AMO instruction is, is that instruction
read_amo : (word : List ℕ) (m : Mnemonic) → plain_named word ≡ None → amo_named word ≡ Some m → mnemonic_named word ≡ Some m
unfolding mnemonic_named
read_amo word m other is_amo = rw (other, is_amo)

-- an operation, a dot and a suffix are the name of their instruction
amo_joined : (op : AmoOp) (wide : Bool) (order : ℕ) → order < 4 → Names (amo_text op ++ 46 ∷ suffix_text (wide, order)) (Amo op wide order)
amo_joined op wide order small =
    let word = amo_text op in
    let suffix = suffix_text (wide, order) in
    record {
      named =
          read_amo (word ++ 46 ∷ suffix) (Amo op wide order) (not_plain op suffix)
          (read_parts word suffix (no_dot op) ∙ read_with word suffix op wide order (op_named op) (suffix_read wide order small));
      plain = record {
        plain = fails_append is_plain word (46 ∷ suffix) (op_plain op) (suffix_plain wide order small);
        some = omega (arith, length-append word (46 ∷ suffix));
      };
    }

-- the same, as a listing writes them
pub amo_names : (op : AmoOp) (wide : Bool) (order : ℕ) → order < 4 →
    Names (amo_text op ++ codes "." ++ suffix_text (wide, order)) (Amo op wide order)
amo_names op wide order small =
    subst (λ (name : List ℕ). Names name (Amo op wide order)) (sym (append_assoc (amo_text op) (46 ∷ []) (suffix_text (wide, order))))
    (amo_joined op wide order small)
