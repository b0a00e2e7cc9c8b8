-- Few words pass, since no key may stand twice.
use Rattle.std.proofs.Common.{◌≡◌, ℕ, zero, suc, ◌+◌, ◌≤◌, ◌<◌, Bool, true, false, List, [], ◌∷◌, ◌++◌, length, take, get_or, codes, cond, Option, Some, None, is_some, refl, ap, ◌∙◌, arith, inl, inr, find}
use Rattle.std.specs.List.{position_or_len}
use Rattle.std.specs.Option.{option_or, option_map_or}
use Rattle.std.specs.Str.{bytes_eq}
use Rattle.std.proofs.lemmas.Bool.{cases_Bool, eqb-true}
use Rattle.std.proofs.lemmas.List.{take_more}
use Rattle.std.proofs.lemmas.Slice.Eq.{bytes_eq-Decides}
use Rattle.vm_words.specs.declared.fault.UsageKind.TheVariants.{Key}
use Rattle.vm_words.specs.declared.command.CommandName.{CommandName}
use Rattle.vm_words.specs.declared.command.CommandName.TheVariants.{Save, Restore, Check, Asm, Workload, Peek, Layer, Join, Record, Replay}
use Rattle.vm_words.specs.declared.key.KeyName.{KeyName}
use Rattle.vm_words.specs.Command.{required_of, optional_of, key_named}
use Rattle.vm_words.specs.Key.{key_text}
use Rattle.vm_words.specs.Line.{given, value_kind, word_kind, kind_at}
use Rattle.vm_words.specs.Word.{is_equals, has_equals, key_part, value_part, after, value_after, value_in}
use Rattle.vm_words.proofs.Prefixes.{after_front}

-- ---- Counts

-- how many elements pass a test
abbrev count : {X : Type 0} → (X → Bool) → List X → ℕ
count p [] = 0
count p (x ∷ xs) = cond (p x) 1 0 + count p xs

-- at most all
count-le-length : {X : Type 0} (p : X → Bool) (xs : List X) → count p xs ≤ length xs
count-le-length p [] = omega arith
count-le-length p (x ∷ xs) = elim (cases_Bool (p x)) [
  | inl passes ↦ rw passes (omega (arith, count-le-length p xs))
  | inr fails ↦ rw fails (omega (arith, count-le-length p xs))
]

-- a test that passes wherever another does counts as many
count_le : {X : Type 0} (p q : X → Bool) (xs : List X) → ((x : X) → p x ≡ true → q x ≡ true) → count p xs ≤ count q xs
count_le p q [] h = omega arith
count_le p q (x ∷ xs) h = elim (cases_Bool (p x)) [
  | inl passes ↦ rw (passes, h x passes) (omega (arith, count_le p q xs h))
  | inr fails ↦ rw fails (omega (arith, count_le p q xs h))
]

-- and one more where it passes an element that the other doesn't
count_more : {X : Type 0} (p q r : X → Bool) (x : X) (xs : List X) → ((y : X) → p y ≡ true → q y ≡ true) → find r xs ≡ Some x → p x ≡ false → q x ≡ true → count p xs + 1 ≤ count q xs
count_more p q r x [] h found old new = cc
count_more p q r x (y ∷ ys) h found old new = elim (cases_Bool (r y)) [
  | inl here ↦
      let first = rw here at found in
      let same : y ≡ x = cc in
      rw (same, old, new) (omega (arith, count_le p q ys h))
  | inr further ↦
      let rest = rw further at found in
      elim (cases_Bool (p y)) [
        | inl passes ↦ rw (passes, h y passes) (omega (arith, count_more p q r x ys h rest old new))
        | inr fails ↦ rw fails (omega (arith, count_more p q r x ys h rest old new))
      ]
]

-- what is found passes
found_passes : {X : Type 0} (r : X → Bool) (x : X) (xs : List X) → find r xs ≡ Some x → r x ≡ true
found_passes r x [] found = cc
found_passes r x (y ∷ ys) found = elim (cases_Bool (r y)) [
  | inl here ↦
      let first = rw here at found in
      let same : y ≡ x = cc in
      rw (← same) here
  | inr further ↦ found_passes r x ys (rw further at found)
]

-- ---- Values

or_none : {X : Type 0} (a : Option X) → option_or a None ≡ a
or_none None = refl
or_none (Some x) = refl

or_assoc : {X : Type 0} (a b c : Option X) → option_or a (option_or b c) ≡ option_or (option_or a b) c
or_assoc None b c = refl
or_assoc (Some x) b c = refl

some_left : {X : Type 0} (a b : Option X) → is_some a ≡ true → is_some (option_or a b) ≡ true
some_left None b h = cc
some_left (Some x) b h = refl

some_right : {X : Type 0} (a b : Option X) (x : X) → b ≡ Some x → is_some (option_or a b) ≡ true
some_right None b x h = rw h refl
some_right (Some y) b x h = refl

-- the value of a key in one more word
value_in-push : (words : List (List ℕ)) (word key : List ℕ) → value_in (words ++ word ∷ []) key ≡ option_or (value_in words key) (value_after word key)
value_in-push [] word key = or_none (value_after word key)
value_in-push (w ∷ words) word key =
    ap (option_or (value_after w key)) (value_in-push words word key) ∙ or_assoc (value_after w key) (value_in words key) (value_after word key)

-- a word is its key, the `=` and its value
split_word : (word : List ℕ) → has_equals word ≡ true → word ≡ (key_part word ++ codes "=") ++ value_part word
split_word [] has = cc
split_word (x ∷ xs) has = elim (cases_Bool (is_equals x)) [
  | inl passes ↦ rw passes (ap (λ (n : ℕ). n ∷ xs) (eqb-true x 61 passes))
  | inr fails ↦
      let has_rest = rw fails at has in
      let e : 1 + position_or_len is_equals xs ≡ suc (position_or_len is_equals xs) = omega arith in
      let f : suc (position_or_len is_equals xs) + 1 ≡ suc (position_or_len is_equals xs + 1) = omega arith in
      rw (fails, e, f) (ap (λ (ys : List ℕ). x ∷ ys) (split_word xs has_rest))
]

-- ---- Words

-- a word whose key was found passes only where the key is new
new_key : (command : CommandName) (before : List (List ℕ)) (value : List ℕ) (found : Option KeyName) → option_map_or (value_kind command before value) found (Some Key) ≡ None → (key : KeyName) × (found ≡ Some key) × (is_some (given before key) ≡ false)
new_key command before value None passes = cc
new_key command before value (Some key) passes = (
  key,
  refl,
  elim (cases_Bool (is_some (given before key))) [
    | inl old ↦ let twice = rw old at passes in cc
    | inr new ↦ new
  ],
)

-- a word that passes has a `=`
pub passed_equals : (command : CommandName) (before : List (List ℕ)) (word : List ℕ) → word_kind command before word ≡ None → has_equals word ≡ true
passed_equals command before word passes = elim (cases_Bool (has_equals word)) [
  | inl has ↦ has
  | inr hasnt ↦ let kind = rw hasnt at passes in cc
]

-- and a new key
passed_key : (command : CommandName) (before : List (List ℕ)) (word : List ℕ) → word_kind command before word ≡ None → (key : KeyName) × (key_named command (key_part word) ≡ Some key) × (is_some (given before key) ≡ false)
passed_key command before word passes =
    new_key command before (value_part word) (key_named command (key_part word)) (rw (passed_equals command before word passes) at passes)

-- how many keys of a command are given
given_count : CommandName → List (List ℕ) → ℕ
given_count command words = count (λ key. is_some (given words key)) (required_of command ++ optional_of command)

-- each word that passes gives one more
given_more : (command : CommandName) (rest : List (List ℕ)) (n : ℕ) → n < length rest → kind_at command rest n ≡ None → given_count command (take n rest) + 1 ≤ given_count command (take (n + 1) rest)
unfolding given_count
given_more command rest n within passes =
    let word = get_or rest n [] in
    let passed = passed_key command (take n rest) word passes in
    let key = passed.0 in
    let has = passed_equals command (take n rest) word passes in
    let named = found_passes (λ (k : KeyName). bytes_eq (key_text k) (key_part word)) key (required_of command ++ optional_of command) passed.1 in
    let same : key_text key ≡ key_part word = (bytes_eq-Decides (key_text key) (key_part word)).0 named in
    let value : value_after word (key_text key) ≡ Some (value_part word) =
    ap (value_after word) same ∙ ap (λ (w : List ℕ). after w (key_part word ++ codes "=")) (split_word word has) ∙ after_front (key_part word ++ codes "=") (value_part word) in
    let grown : (k : KeyName) → given (take (n + 1) rest) k ≡ option_or (given (take n rest) k) (value_after word (key_text k)) =
    λ k. ap (λ (words : List (List ℕ)). value_in words (key_text k)) (take_more rest n [] within) ∙ value_in-push (take n rest) word (key_text k) in
    count_more (λ k. is_some (given (take n rest) k)) (λ k. is_some (given (take (n + 1) rest) k)) (λ k. bytes_eq (key_text k) (key_part word)) key (required_of command ++ optional_of command)
    (λ k old. ap is_some (grown k) ∙ some_left (given (take n rest) k) (value_after word (key_text k)) old)
    passed.1 passed.2
    (ap is_some (grown key) ∙ some_right (given (take n rest) key) (value_after word (key_text key)) (value_part word) value)

-- so no fewer keys are given than words passed
given_all : (command : CommandName) (rest : List (List ℕ)) (n : ℕ) → n ≤ length rest → ((k : ℕ) → k < n → kind_at command rest k ≡ None) → n ≤ given_count command (take n rest)
given_all command rest zero within passed = omega arith
given_all command rest (suc n) within passed =
    let e : suc n ≡ n + 1 = omega arith in
    let before : n ≤ given_count command (take n rest) = given_all command rest n (omega arith) (λ k h. passed k (omega arith)) in
    let more : given_count command (take n rest) + 1 ≤ given_count command (take (n + 1) rest) = given_more command rest n (omega arith) (passed n (omega arith)) in
    rw e (omega arith)

-- no command has more than 12 keys
few_keys : (command : CommandName) → length (required_of command ++ optional_of command) ≤ 12
few_keys Save = omega arith
few_keys Restore = omega arith
few_keys Check = omega arith
few_keys Asm = omega arith
few_keys Workload = omega arith
few_keys Peek = omega arith
few_keys Layer = omega arith
few_keys Join = omega arith
few_keys Record = omega arith
few_keys Replay = omega arith

-- at most 12 words pass
pub few_words : (command : CommandName) (rest : List (List ℕ)) (n : ℕ) → n ≤ length rest → ((k : ℕ) → k < n → kind_at command rest k ≡ None) → n ≤ 12
unfolding given_count
few_words command rest n within passed =
    omega (arith, given_all command rest n within passed, count-le-length (λ key. is_some (given (take n rest) key)) (required_of command ++ optional_of command), few_keys command)
