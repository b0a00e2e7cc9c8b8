-- The word that gives a value, in a line with no fault.
use Rattle.std.proofs.Common.{◌≡◌, ℕ, suc, ◌+◌, ◌<◌, Bool, true, false, cond, List, [], ◌∷◌, ◌++◌, length, take, drop, get_or, codes, Option, Some, None, refl, sym, ap, ◌∙◌, arith, inl, inr, subst, append_assoc}
use Rattle.std.specs.List.{list_any, position_or_len, starts_with}
use Rattle.std.specs.Option.{option_map_or, option_or}
use Rattle.std.proofs.Common.{nat_eq}
use Rattle.std.proofs.Math.Seq.{take-append_seam, drop-append-add}
use Rattle.std.proofs.lemmas.Bool.{cases_Bool, or_parts}
use Rattle.std.proofs.lemmas.List.{take-append-drop}
use Rattle.std.proofs.lemmas.Slice.Eq.{bytes_eq-Decides}
use Rattle.vm_words.specs.declared.fault.UsageKind.TheVariants.{Key, Twice, Value}
use Rattle.vm_words.specs.declared.command.CommandName.{CommandName}
use Rattle.vm_words.specs.declared.key.KeyName.{KeyName}
use Rattle.vm_words.specs.Command.{key_named}
use Rattle.vm_words.specs.Form.{is_of_form}
use Rattle.vm_words.specs.Key.{key_text}
use Rattle.vm_words.specs.Line.{given, value_kind, is_clash}
use Rattle.vm_words.specs.Word.{is_equals, key_part, value_part, after, value_after, value_in}
use Rattle.vm_words.proofs.FewWords.{passed_equals}
use Rattle.vm_words.proofs.NoFaults.{Passes}

-- a value stands in a word
pub given_by : (rest : List (List ℕ)) (key value : List ℕ) → value_in rest key ≡ Some value → (i : ℕ) × (i < length rest) × (value_after (get_or rest i []) key ≡ Some value)
given_by [] key value e = cc
given_by (word ∷ rest) key value e = at_first (value_after word key) refl (λ h. given_by rest key value h) e
  where
    at_first : (o : Option (List ℕ)) → value_after word key ≡ o
        → (value_in rest key ≡ Some value → (i : ℕ) × (i < length rest) × (value_after (get_or rest i []) key ≡ Some value))
        → option_or o (value_in rest key) ≡ Some value → (i : ℕ) × (i < length (word ∷ rest)) × (value_after (get_or (word ∷ rest) i []) key ≡ Some value)
    at_first (Some v) is further h = (0, omega arith, is ∙ h)
    at_first None is further h =
        let later = further h in
        (suc later.0, omega (arith, later.1), later.2)

-- a text is its front and what follows
after_is : (text front rest : List ℕ) → after text front ≡ Some rest → text ≡ front ++ rest
after_is text front rest e = elim (cases_Bool (starts_with nat_eq text front)) [
  | inl begins ↦
      let same : take (length front) text ≡ front = sym ((bytes_eq-Decides front (take (length front) text)).0 begins) in
      let left = rw begins at e in
      let behind : drop (length front) text ≡ rest = cc in
      sym (take-append-drop (length front) text) ∙ ap (λ (xs : List ℕ). xs ++ drop (length front) text) same ∙ ap (λ (ys : List ℕ). front ++ ys) behind
  | inr differs ↦
      let none = rw differs at e in
      cc
]

-- the first `=` of a word stands behind a key that has none
equals_at : (key value : List ℕ) → list_any is_equals key ≡ false → position_or_len is_equals ((key ++ codes "=") ++ value) ≡ length key
equals_at [] value none = refl
equals_at (x ∷ key) value none =
    let parts = or_parts (is_equals x) (list_any is_equals key) none in
    rw (parts.0, equals_at key value parts.1) (omega arith)

-- so the key stands before it
key_part_is : (key value : List ℕ) → list_any is_equals key ≡ false → key_part ((key ++ codes "=") ++ value) ≡ key
key_part_is key value none =
    ap (λ (n : ℕ). take n ((key ++ codes "=") ++ value)) (equals_at key value none)
    ∙ ap (take (length key)) (append_assoc key (codes "=") value) ∙ take-append_seam key (codes "=" ++ value)

-- and the value behind it
value_part_is : (key value : List ℕ) → list_any is_equals key ≡ false → value_part ((key ++ codes "=") ++ value) ≡ value
value_part_is key value none =
    ap (λ (n : ℕ). drop (n + 1) ((key ++ codes "=") ++ value)) (equals_at key value none)
    ∙ ap (drop (length key + 1)) (append_assoc key (codes "=") value) ∙ drop-append-add key (codes "=" ++ value) 1

-- a key that isn't there twice, with a value of its form
form_of : (twice form : Bool) → cond twice (Some Twice) (cond form None (Some Value)) ≡ None → form ≡ true
form_of true form e = cc
form_of false true e = refl
form_of false false e = cc

-- a word that passes has a value of the form of its key
word_form : (command : CommandName) (before : List (List ℕ)) (value : List ℕ) (found : Option KeyName) (key : KeyName) → found ≡ Some key →
    option_map_or (value_kind command before value) found (Some Key) ≡ None → is_of_form command key value ≡ true
word_form command before value None key is passes = cc
word_form command before value (Some other) key is passes =
    let same : other ≡ key = cc in
    rw (← same) (form_of _ (is_of_form command other value) passes)

-- a value that is given is of the form of its key
pub given_form : (command : CommandName) (rest : List (List ℕ)) (key : KeyName) (value : List ℕ) → Passes command rest → key_named command (key_text key) ≡ Some key →
    list_any is_equals (key_text key) ≡ false → given rest key ≡ Some value → is_of_form command key value ≡ true
given_form command rest key value passes named none e =
    let at = given_by rest (key_text key) value e in
    let word = get_or rest at.0 [] in
    let is : word ≡ (key_text key ++ codes "=") ++ value = after_is word (key_text key ++ codes "=") value at.2 in
    let part : key_part word ≡ key_text key = ap key_part is ∙ key_part_is (key_text key) value none in
    let behind : value_part word ≡ value = ap value_part is ∙ value_part_is (key_text key) value none in
    let kind = passes.words at.0 at.1 in
    let found : key_named command (key_part word) ≡ Some key = ap (key_named command) part ∙ named in
    subst (λ (v : List ℕ). is_of_form command key v ≡ true) behind
    (word_form command (take at.0 rest) (value_part word) (key_named command (key_part word)) key found (rw (passed_equals command (take at.0 rest) word kind) at kind))

-- one where there's no clash
no_clash : (clash : Bool) → cond clash (Some Value) None ≡ None → clash ≡ false
no_clash true e = cc
no_clash false e = refl

-- a word that gives a value goes together with the others
pub given_together : (command : CommandName) (rest : List (List ℕ)) (key : KeyName) (value : List ℕ) → Passes command rest → given rest key ≡ Some value →
    (word : List ℕ) × (value_after word (key_text key) ≡ Some value) × (is_clash command rest word ≡ false)
given_together command rest key value passes e =
    let at = given_by rest (key_text key) value e in
    (get_or rest at.0 [], at.2, no_clash (is_clash command rest (get_or rest at.0 [])) (passes.together at.0 at.1))
