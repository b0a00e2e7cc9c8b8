-- The memory that segments make, segment after segment and piece after piece.
use Rattle.std.proofs.Common.{◌≡◌, ℕ, ◌+◌, ◌-◌, ◌<◌, ◌≤◌, Bool, true, false, List, [], ◌++◌, length, map, get_or, refl, sym, ap, ◌∙◌, subst, inl, inr, arith, add-one, length-append}
use Rattle.std.specs.Prelude.{slice_index, if◌then◌else◌}
use Rattle.std.specs.List.{range_with_len}
use Rattle.std.proofs.lemmas.Bool.{cases_lt, false≢true}
use Rattle.std.proofs.lemmas.List.{ext_get_or, get_or_append_left, get_or-append_right}
use Rattle.std.proofs.lemmas.List.FromFn.{length-map-range_with_len, get_or-map-range_with_len, fill_by_all}
use Rattle.image_file.specs.Elf.{e_phnum, program_header, covers, segment_byte, memory_byte, memory}

-- one more layer over a byte
over_byte : (covered : Bool) (byte old was new : ℕ) → new ≡ (if covered then byte else old) → (covered ≡ false → old ≡ was) → new ≡ (if covered then byte else was)
over_byte true byte old was new is below = is
over_byte false byte old was new is below = is ∙ below refl

-- a byte of memory, with one program header more
pub memory_byte-more : (file : List ℕ) (j address : ℕ)
    → memory_byte file (j + 1) address ≡ (if covers (program_header file j) address then segment_byte file (program_header file j) address else memory_byte file j address)
unfolding memory_byte
memory_byte-more file j address = rw add-one refl

-- memory before the first program header is zeros
pub memory_byte-none : (file : List ℕ) (address : ℕ) → memory_byte file 0 address ≡ 0
unfolding memory_byte
memory_byte-none file address = refl

-- one segment more, where the bytes are settled that it doesn't cover
pub placed_more : (file : List ℕ) (first j address old new : ℕ)
    → new ≡ (if covers (program_header file j) address then segment_byte file (program_header file j) address else old)
    → (0 < first → covers (program_header file first) address ≡ true)
    → ((0 < first → first < j) → old ≡ memory_byte file j address)
    → (0 < first → first < j + 1) → new ≡ memory_byte file (j + 1) address
placed_more file first j address old new is over before settled =
    let later : covers (program_header file j) address ≡ false → 0 < first → first < j = λ none some.
    elim (cases_lt first j) [
      | inl less ↦ less
      | inr more ↦
          let same : first ≡ j = omega (arith, settled some) in
          absurd (false≢true (sym none ∙ subst (λ i. covers (program_header file i) address ≡ true) same (over some)))
    ] in
    over_byte (covers (program_header file j) address) _ _ _ _ is (λ none. before (later none)) ∙ sym (memory_byte-more file j address)

-- the first segment that counts is one of them, or the first of all
pub first_within : (first n : ℕ) → (0 < first → first < n) → first ≤ n
first_within first n within = elim (cases_lt 0 first) [ inl some ↦ omega (arith, within some) | inr none ↦ omega arith ]

-- a first segment that counts before it is in place is the first of all
pub first_none : (first : ℕ) → (0 < first → first < first) → first ≡ 0
first_none first later = elim (cases_lt 0 first) [ inl some ↦ absurd (omega (arith, later some)) | inr none ↦ omega arith ]

-- all bytes of a piece are those of the memory
pub memory-from : (file piece : List ℕ) (from : ℕ) → ((k : ℕ) → k < length piece → slice_index piece k ≡ memory_byte file (e_phnum file) (from + k)) → piece ≡ memory file from (length piece)
unfolding memory
memory-from file piece from each = fill_by_all (λ k. memory_byte file (e_phnum file) (from + k)) piece (length piece) 0 refl each

-- memory has as many bytes as were asked for
pub length-memory : (file : List ℕ) (from n : ℕ) → length (memory file from n) ≡ n
unfolding memory
length-memory file from n = length-map-range_with_len (λ k. memory_byte file (e_phnum file) (from + k)) 0 n

-- a byte of a piece of memory is that of its address
get_or-memory : (file : List ℕ) (from n k : ℕ) → k < n → get_or (memory file from n) k 0 ≡ memory_byte file (e_phnum file) (from + k)
unfolding memory
get_or-memory file from n k less = get_or-map-range_with_len (λ i. memory_byte file (e_phnum file) (from + i)) 0 n k k 0 less (omega arith)

-- no bytes of memory
pub memory-none : (file : List ℕ) (from n : ℕ) → n ≡ 0 → [] ≡ memory file from n
unfolding memory
memory-none file from n none = ap (λ i. map (λ k. memory_byte file (e_phnum file) (from + k)) (range_with_len 0 i)) (sym none)

-- one piece after another
pub memory-append : (file : List ℕ) (from a b : ℕ) → memory file from a ++ memory file (from + a) b ≡ memory file from (a + b)
memory-append file from a b =
    let front = memory file from a in
    let back = memory file (from + a) b in
    let long : length (front ++ back) ≡ a + b = simp (length-append, length-memory) in
    ext_get_or 0 (front ++ back) (memory file from (a + b)) (long ∙ sym (length-memory file from (a + b)))
    (λ k within. elim (cases_lt k a) [
      | inl less ↦
          let inside : k < length front = omega (arith, length-memory file from a) in
          let less_all : k < a + b = omega arith in
          get_or_append_left front back 0 k inside ∙ get_or-memory file from a k less ∙ sym (get_or-memory file from (a + b) k less_all)
      | inr more ↦
          let less_all : k < a + b = omega (arith, long) in
          let here : k - a < b = omega arith in
          let same : (from + a) + (k - a) ≡ from + k = omega arith in
          get_or-append_right front back a k 0 (length-memory file from a) more ∙ get_or-memory file (from + a) b (k - a) here
          ∙ ap (memory_byte file (e_phnum file)) same ∙ sym (get_or-memory file from (a + b) k less_all)
    ])
