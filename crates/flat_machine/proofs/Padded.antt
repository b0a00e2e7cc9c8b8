-- Bytes with zeros behind them, page by page.
use Rattle.std.proofs.Common.{◌≡◌, inl, inr, ℕ, ◌+◌, ◌-◌, ◌*◌, ◌^◌, ◌<◌, ◌≤◌, min, List, [], ◌∷◌, ◌++◌, length, take, drop, map, replicate, All, None, refl, sym, ◌∙◌, ap, subst, arith, append_assoc, append-nil, length-append}
use Rattle.std.proofs.lemmas.Bool.{cases_lt}
use Rattle.std.proofs.lemmas.List.{length-drop, length-take-le, length-replicate, take-append-le, drop-append-le, take_all, drop_all, take-replicate, drop-replicate}
use Rattle.std.proofs.lemmas.List.FromFn.{map-range_with_len_more, length-map-range_with_len, get_or-map-range_with_len}
use Rattle.std.specs.List.{range_with_len}
use lib.Seq.{take-append-add, drop-append-add, take-add}
use Rattle.ram_block.specs.Shape.{ShapeData}
use Rattle.ram_block.specs.declared.page_buf.TheConstants.{PAGE}
use Rattle.rv64i_step.specs.Event.{IsServable}
use Rattle.rv64i_step.specs.Vcpu.{VcpuData, boot_vcpu}
use Rattle.flat_machine.specs.Machine.{MachineData, Rest}
use Rattle.flat_machine.specs.Page.{joined}

-- bytes, and zeros up to a length
abbrev pub padded : List ℕ → ℕ → List ℕ
padded bytes total = bytes ++ replicate (total - length bytes) 0

-- the first n of bytes that have enough zeros behind them
take_zeros : (n : ℕ) (d : List ℕ) (k : ℕ) → n ≤ length d + k → take n (d ++ replicate k 0) ≡ padded (take n d) n
take_zeros n d k h =
    elim (cases_lt (length d) n) as (λ _. take n (d ++ replicate k 0) ≡ padded (take n d) n) [
      | inl past ↦
          (let j = n - length d in
          let e : n ≡ length d + j = omega arith in
          let whole : take n d ≡ d = take_all n d (omega arith) in
          let le : j ≤ k = omega arith in
          ap (λ m. take m (d ++ replicate k 0)) e ∙ take-append-add d (replicate k 0) j
          ∙ ap (λ l. d ++ l) (take-replicate j k 0 le)
          ∙ ap (λ l. l ++ replicate (n - length l) 0) (sym whole))
      | inr within ↦
          (let len : length (take n d) ≡ n = length-take-le n d within in
          let none : n - length (take n d) ≡ 0 = omega arith in
          take-append-le n d (replicate k 0) within
          ∙ sym (append-nil (take n d)) ∙ ap (λ m. take n d ++ replicate m 0) (sym none))
    ]

-- what stands behind the first m
drop_zeros : (m : ℕ) (d : List ℕ) (k : ℕ) → drop m (d ++ replicate k 0) ≡ drop m d ++ replicate (k - (m - length d)) 0
drop_zeros m d k =
    elim (cases_lt (length d) m) as (λ _. drop m (d ++ replicate k 0) ≡ drop m d ++ replicate (k - (m - length d)) 0) [
      | inl past ↦
          (let j = m - length d in
          let e : m ≡ length d + j = omega arith in
          let nothing : drop m d ≡ [] = drop_all m d (omega arith) in
          ap (λ n. drop n (d ++ replicate k 0)) e ∙ drop-append-add d (replicate k 0) j
          ∙ drop-replicate j k 0 ∙ ap (λ l. l ++ replicate (k - j) 0) (sym nothing))
      | inr within ↦
          (let none : k - (m - length d) ≡ k = omega arith in
          drop-append-le m d (replicate k 0) within ∙ ap (λ n. drop m d ++ replicate n 0) (sym none))
    ]

-- page p of padded bytes is their part there, padded to a page
pub page_of_padded : (bytes : List ℕ) (total p : ℕ) → length bytes ≤ total → PAGE * p + PAGE ≤ total →
    take PAGE (drop (PAGE * p) (padded bytes total)) ≡ padded (take PAGE (drop (PAGE * p) bytes)) PAGE
page_of_padded bytes total p fits within =
    ap (take PAGE) (drop_zeros (PAGE * p) bytes (total - length bytes))
    ∙ take_zeros PAGE (drop (PAGE * p) bytes) (total - length bytes - (PAGE * p - length bytes)) (omega (arith, length-drop (PAGE * p) bytes))

-- a page more
pub joined_push : (pages : List (List ℕ)) (page : List ℕ) → joined (pages ++ page ∷ []) ≡ joined pages ++ page
unfolding joined
joined_push [] page = append-nil page
joined_push (first ∷ pages) page = ap (λ l. first ++ l) (joined_push pages page) ∙ sym (append_assoc first (joined pages) page)

-- no page
pub joined_none : joined [] ≡ []
unfolding joined
joined_none = refl

-- the pages so far, and one more, of padded bytes
pub joined_padded : (pages : List (List ℕ)) (bytes page : List ℕ) (total p : ℕ) → length bytes ≤ total → PAGE * p + PAGE ≤ total →
    joined pages ≡ take (PAGE * p) (padded bytes total) → page ≡ padded (take PAGE (drop (PAGE * p) bytes)) PAGE →
    joined (pages ++ page ∷ []) ≡ take (PAGE * (p + 1)) (padded bytes total)
joined_padded pages bytes page total p fits within so_far is =
    joined_push pages page
    ∙ ap (λ l. l ++ page) so_far
    ∙ ap (λ l. take (PAGE * p) (padded bytes total) ++ l) (is ∙ sym (page_of_padded bytes total p fits within))
    ∙ sym (take-add (PAGE * p) PAGE (padded bytes total))
    ∙ ap (λ n. take n (padded bytes total)) (let e : PAGE * p + PAGE ≡ PAGE * (p + 1) = omega arith in e)

-- all of them
pub take_padded : (bytes : List ℕ) (total : ℕ) → length bytes ≤ total → take total (padded bytes total) ≡ padded bytes total
take_padded bytes total fits =
    take_all total (padded bytes total) (omega (arith, length-append bytes (replicate (total - length bytes) 0), length-replicate {A = ℕ} (total - length bytes) 0))

-- the part of a list between two places that are cut at its end
pub part_between : (xs : List ℕ) (a n start end : ℕ) → start ≡ min (length xs) a → end ≡ min (length xs) (a + n) →
    take (end - start) (drop start xs) ≡ take n (drop a xs)
part_between xs a n start end is_start is_end =
    elim (cases_lt (length xs) a) as (λ _. take (end - start) (drop start xs) ≡ take n (drop a xs)) [
      | inl past ↦
          (let none : end - start ≡ 0 = omega arith in
          ap (λ m. take m (drop start xs)) none ∙ sym (ap (take n) (drop_all a xs (omega arith)) ∙ take_all n [] (omega arith)))
      | inr begun ↦
          (let at : start ≡ a = omega arith in
          let len = length-drop a xs in
          ap (λ m. take (end - start) (drop m xs)) at
          ∙ elim (cases_lt (length xs) (a + n)) as (λ _. take (end - start) (drop a xs) ≡ take n (drop a xs)) [
            | inl cut ↦ take_all (end - start) (drop a xs) (omega arith) ∙ sym (take_all n (drop a xs) (omega arith))
            | inr whole ↦ ap (λ m. take m (drop a xs)) (let e : end - start ≡ n = omega arith in e)
          ])
    ]

-- a vCPU more at boot
pub vcpus_more : (before after : List VcpuData) (v : VcpuData) (n : ℕ) → after ≡ before ++ v ∷ [] → v ≡ boot_vcpu n →
    before ≡ map boot_vcpu (range_with_len 0 n) → after ≡ map boot_vcpu (range_with_len 0 (n + 1))
vcpus_more before after v n pushed is so_far =
    pushed ∙ ap (λ l. l ++ v ∷ []) so_far ∙ ap (λ w. map boot_vcpu (range_with_len 0 n) ++ w ∷ []) is
    ∙ sym (map-range_with_len_more boot_vcpu 0 n n (omega arith))

-- what holds of each vCPU at boot holds of all
all_boot : (P : VcpuData → Type 0) (n : ℕ) → ((number : ℕ) → P (boot_vcpu number)) → All P (map boot_vcpu (range_with_len 0 n))
all_boot P n each = λ k d h.
    (let below : k < n = omega (arith, h, length-map-range_with_len boot_vcpu 0 n) in
    subst P (sym (get_or-map-range_with_len boot_vcpu 0 n k k d below (omega arith))) (each k))

-- a machine at boot is at rest
pub boot_rests : (m : MachineData) (n : ℕ) → m.vcpus ≡ map boot_vcpu (range_with_len 0 n) → m.clock ≡ 0 → Rest m
boot_rests m n is clock = record {
  none_pending = subst (All (λ v. v.pending ≡ None)) (sym is) (all_boot (λ v. v.pending ≡ None) n (λ number. refl));
  steps = subst (All (λ v. v.steps ≤ 2 ^ 62)) (sym is) (all_boot (λ v. v.steps ≤ 2 ^ 62) n (λ number. omega arith));
  clock = omega (arith, clock);
}

-- no vCPU at boot has a pending access
pub boot_servable : (shape : ShapeData) (n : ℕ) (vcpus : List VcpuData) → vcpus ≡ map boot_vcpu (range_with_len 0 n) → All (IsServable shape) vcpus
boot_servable shape n vcpus is = subst (All (IsServable shape)) (sym is) (all_boot (IsServable shape) n (λ number. tt))
