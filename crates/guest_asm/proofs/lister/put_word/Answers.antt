use Rattle.std.proofs.Common.{◌≡◌, ℕ, ◌++◌, false, List, [], ◌∷◌, Option, Some, None, is_some, codes, Result, refl, sym, ap, subst, ◌∙◌, OnOk}
use Rattle.std.specs.Option.{option_and_then, option_map_or}
use Rattle.rv64i_decode.specs.declared.instr.Instr.{Instr}
use Rattle.rv64i_decode.specs.Decode.{instr_of}
use Rattle.guest_asm.specs.Listing.{hex_digits, statement_text, word_line}
use Rattle.guest_asm.proofs.lister.put_word.Goals as goal
use Rattle.guest_asm.proofs.lister.put_word.Goals.{in_default-via-in-Some+else-has_statement, in_default-via-in_default}

-- what is not some is none
none_by : {A : Type 0} (o : Option A) → is_some o ≡ false → o ≡ None
none_by None h = refl
none_by (Some x) h = absurd cc

-- the line of a word whose instruction, if it has one, has no statement
data_line : (word : ℕ) (found : Option Instr) → found ≡ instr_of word → option_and_then statement_text found ≡ None →
    codes ".word 0x" ++ hex_digits 8 word ++ 10 ∷ [] ≡ word_line word
unfolding word_line
data_line word found is none =
    let lacks : option_and_then statement_text (instr_of word) ≡ None = ap (option_and_then statement_text) (sym is) ∙ none in
    ap (λ (o : Option (List ℕ)). option_map_or (λ text. text) o (codes ".word 0x" ++ hex_digits 8 word) ++ 10 ∷ []) (sym lacks)

-- a text behind another, told otherwise
told : {A E : Type 0} (result : Result A E) (old new text line : List ℕ) → text ≡ line → OnOk result (new ≡ old ++ text) → OnOk result (new ≡ old ++ line)
told result old new text line same = subst (λ (t : List ℕ). OnOk result (new ≡ old ++ t)) same

pub returns-in_default : goal.returns-in_default
returns-in_default c =
    let word = c.args.word in
    let line : codes ".word 0x" ++ hex_digits 8 word ++ 10 ∷ [] ≡ word_line word =
    elim c.in_default.branch [
      | in_default-via-in-Some+else-has_statement w ↦
          let none : statement_text w.in-Some.instr ≡ None = none_by (statement_text w.in-Some.instr) (sym w.has_statement.ensures ∙ w.if-has_statement.false) in
          data_line word (Some w.in-Some.instr) (sym w.in-Some.is ∙ c.decode.ensures.value) none
      | in_default-via-in_default w ↦ data_line word None (sym w.in_default.is ∙ c.decode.ensures.value) refl
    ] in
    told c.put_data.result _ _ _ _ line c.put_data.ensures
