-- What the checks of the program headers leave.
use Rattle.std.proofs.Common.{◌≡◌, ℕ, zero, suc, ◌+◌, ◌-◌, ◌<◌, ◌≤◌, Bool, true, false, not, ◌&&◌, List, length, Option, Some, None, Ok, Err, refl, sym, ap, ◌∙◌, arith, add-one, zero-add, max}
use Rattle.std.specs.Prelude.{nat_lt, nat_eq, if◌then◌else◌}
use Rattle.std.specs.Option.{option_or}
use Rattle.std.proofs.lemmas.Bool.Decides.{nat_tests}
use Rattle.image_file.specs.declared.image_refusal.ImageRefusal.{ImageRefusal}
use Rattle.image_file.specs.declared.image_refusal.ImageRefusal.TheVariants.{Elf}
use Rattle.image_file.specs.declared.elf_kind.ElfKind.TheVariants.{Table}
use Rattle.image_file.specs.declared.program_header.ProgramHeader.{ProgramHeader}
use Rattle.image_file.specs.Elf.{header_place, program_header, is_placed, lies_in, segment_fault, header_fault, table_fault, reach_of, image_len, e_phnum, file_header_fault, memory, elf_of, IsSoundHeader}
use Rattle.ram_block.specs.declared.limits.TheConstants.{MAX_RAM}

-- the fault of a test that doesn't come
not_taken : {A : Type 0} (b : Bool) (x : A) (rest : Option A) → (if b then Some x else rest) ≡ None → (b ≡ false) × (rest ≡ None)
not_taken true x rest h = cc
not_taken false x rest h = (refl, h)

-- the test that stands before a loadable segment's
loadable : {A : Type 0} (b : Bool) (rest : Option A) → b ≡ true → (if not b then None else rest) ≡ None → rest ≡ None
loadable true rest is h = h
loadable false rest is h = cc

-- a placed segment without a fault
pub record IsFaultless (file : List ℕ) (ram : ℕ) (h : ProgramHeader) : Type 0 where
  pub sizes : h.p_filesz ≤ h.p_memsz
  pub range : h.p_offset + h.p_filesz ≤ length file
  pub place : lies_in h ram ≡ true

-- where two tests hold, the first does
both_left : (a b : Bool) → a && b ≡ true → a ≡ true
both_left true b h = refl
both_left false b h = cc

-- where the first test holds, and not "the first but not the second", the second holds
and_not : (a b : Bool) → a ≡ true → (a && not b) ≡ false → b ≡ true
and_not true true p q = refl
and_not true false p q = cc
and_not false b p q = cc

-- a placed segment whose header has no fault
faultless : (file : List ℕ) (ram at : ℕ) (h : ProgramHeader) → is_placed h ≡ true → segment_fault file ram at h ≡ None → IsFaultless file ram h
faultless file ram at h placed none =
    let tests = loadable (nat_eq h.p_type 1) _ (both_left _ _ placed) none in
    let sizes = not_taken (nat_lt h.p_memsz h.p_filesz) _ _ tests in
    let range = not_taken (nat_lt (length file) (h.p_offset + h.p_filesz)) _ _ sizes.1 in
    let place = not_taken (is_placed h && not (lies_in h ram)) _ _ range.1 in
    record { sizes = grind (arith, nat_tests, sizes.0); range = grind (arith, nat_tests, range.0); place = and_not _ _ placed place.0 }

-- a program header without a fault is sound
pub sound_header : (file : List ℕ) (ram j : ℕ) → ram ≤ MAX_RAM → header_fault file ram j ≡ None → IsSoundHeader file j
unfolding header_fault
sound_header file ram j small none =
    let tests = not_taken (nat_lt (length file) (header_place file j + 56)) (Elf Table 32) (segment_fault file ram (header_place file j) (program_header file j)) none in
    record {
      in_file = grind (arith, nat_tests, tests.0);
      segment = λ placed. let h = faultless file ram (header_place file j) (program_header file j) placed tests.1 in record { sizes = h.sizes; range = h.range; end = grind (arith, nat_tests, h.place) };
    }

-- a fact of both branches, with what the test says
by_test : (P : ℕ → Type 0) (b : Bool) (x y : ℕ) → (b ≡ true → P x) → (b ≡ false → P y) → P (if b then x else y)
by_test P true x y p q = p refl
by_test P false x y p q = q refl

-- a segment that lies in RAM ends in RAM
reach_within : (h : ProgramHeader) (ram : ℕ) → (is_placed h ≡ true → lies_in h ram ≡ true) → reach_of h ≤ ram
reach_within h ram lies = by_test (λ n. n ≤ ram) (is_placed h) _ _ (λ placed. grind (arith, nat_tests, lies placed)) (λ _. omega arith)

-- its end is in RAM
pub reach_fits : (file : List ℕ) (ram j : ℕ) → header_fault file ram j ≡ None → reach_of (program_header file j) ≤ ram
unfolding header_fault
reach_fits file ram j none =
    let tests = not_taken (nat_lt (length file) (header_place file j + 56)) (Elf Table 32) (segment_fault file ram (header_place file j) (program_header file j)) none in
    reach_within (program_header file j) ram (λ placed. (faultless file ram (header_place file j) (program_header file j) placed tests.1).place)

-- the first fault, with one program header more
pub table_fault-more : (file : List ℕ) (ram j : ℕ) → table_fault file ram (j + 1) ≡ option_or (table_fault file ram j) (header_fault file ram j)
unfolding table_fault
table_fault-more file ram j = rw add-one refl

-- the highest end, with one program header more
pub image_len-more : (file : List ℕ) (j : ℕ) → image_len file (j + 1) ≡ max (image_len file j) (reach_of (program_header file j))
unfolding image_len
image_len-more file j = rw add-one refl

-- no fault before the first program header
pub table_fault-none : (file : List ℕ) (ram : ℕ) → table_fault file ram 0 ≡ None
unfolding table_fault
table_fault-none file ram = refl

-- no end before the first program header
pub image_len-none : (file : List ℕ) → image_len file 0 ≡ 0
unfolding image_len
image_len-none file = refl

-- the first fault stays the first
stays : (file : List ℕ) (ram j n : ℕ) (r : ImageRefusal) → table_fault file ram j ≡ Some r → table_fault file ram (n + j) ≡ Some r
stays file ram j zero r is = ap (table_fault file ram) (zero-add j) ∙ is
stays file ram j (suc n) r is =
    let next : suc n + j ≡ (n + j) + 1 = omega arith in
    ap (table_fault file ram) next ∙ table_fault-more file ram (n + j) ∙ ap (λ o. option_or o (header_fault file ram (n + j))) (stays file ram j n r is)

-- so it is that of the whole table
pub table_fault-first : (file : List ℕ) (ram j n : ℕ) (r : ImageRefusal) → j < n → table_fault file ram j ≡ None → Some r ≡ header_fault file ram j → Some r ≡ table_fault file ram n
table_fault-first file ram j n r less none is =
    let here : table_fault file ram (j + 1) ≡ Some r = table_fault-more file ram j ∙ ap (λ o. option_or o (header_fault file ram j)) none ∙ sym is in
    let rest : (n - (j + 1)) + (j + 1) ≡ n = omega arith in
    sym (ap (table_fault file ram) (sym rest) ∙ stays file ram (j + 1) (n - (j + 1)) r here)

-- the image, or the first fault
pub elf_of-header : (file : List ℕ) (ram : ℕ) (r : ImageRefusal) → Some r ≡ file_header_fault file → elf_of file ram ≡ Err r
unfolding elf_of
elf_of-header file ram r is = rw (← is) refl

-- a fault of the program headers, behind a file header without one
pub elf_of-table : (file : List ℕ) (ram : ℕ) (r : ImageRefusal) → None ≡ file_header_fault file → Some r ≡ table_fault file ram (e_phnum file) → elf_of file ram ≡ Err r
unfolding elf_of
elf_of-table file ram r none is = rw (← none, ← is) refl

-- an image, where there is no fault
pub elf_of-ok : (file : List ℕ) (ram : ℕ) → None ≡ file_header_fault file → None ≡ table_fault file ram (e_phnum file) → elf_of file ram ≡ Ok (memory file 0x80000000 (image_len file (e_phnum file)))
unfolding elf_of
elf_of-ok file ram none clear = rw (← none, ← clear) refl
