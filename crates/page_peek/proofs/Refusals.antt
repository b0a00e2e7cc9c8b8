-- The first head piece that is refused, from block to block.
use Rattle.std.proofs.Common.{◌≡◌, ◌↔◌, ℕ, zero, suc, ◌+◌, ◌-◌, ◌<◌, ◌≤◌, List, Option, Some, None, refl, sym, ◌∙◌, ap, arith}
use Rattle.ram_block.specs.Shape.{ShapeData, IsShape}
use Rattle.page_peek.specs.Heads.{Heads, head_refusal, heads_refusal, or_else, refusal_from}
use Rattle.page_peek.specs.declared.fault.PeekRefusal.{PeekRefusal}
use Rattle.page_peek.proofs.HeadPieces.{head_is, head_passes, heads_are, heads_have}

-- of one block more
pub refusal_next : (file : List ℕ) (s : ShapeData) (block left : ℕ) → block < left → refusal_from file s block (left - block) ≡ or_else (head_refusal file s block) (refusal_from file s (block + 1) (left - (block + 1)))
unfolding refusal_from
refusal_next file s block left lt =
    let more : left - block ≡ suc (left - (block + 1)) = omega arith in
    ap (refusal_from file s block) more

-- a block that is right
pub refusal_on : (file : List ℕ) (s : ShapeData) (block left : ℕ) → block < left → head_refusal file s block ≡ None → refusal_from file s block (left - block) ≡ refusal_from file s (block + 1) (left - (block + 1))
refusal_on file s block left lt none =
    refusal_next file s block left lt ∙ ap (λ (r : Option PeekRefusal). or_else r (refusal_from file s (block + 1) (left - (block + 1)))) none

-- one that is refused
pub refusal_here : (file : List ℕ) (s : ShapeData) (block left : ℕ) (refusal : PeekRefusal) → block < left → head_refusal file s block ≡ Some refusal → refusal_from file s block (left - block) ≡ Some refusal
refusal_here file s block left refusal lt is =
    refusal_next file s block left lt ∙ ap (λ (r : Option PeekRefusal). or_else r (refusal_from file s (block + 1) (left - (block + 1)))) is

-- behind the last block
pub refusal_none : (file : List ℕ) (s : ShapeData) (block left : ℕ) → left ≤ block → refusal_from file s block (left - block) ≡ None
unfolding refusal_from
refusal_none file s block left le =
    let nothing : left - block ≡ 0 = omega arith in
    ap (refusal_from file s block) nothing

-- no block is refused where none of them is
pub none_refused : (file : List ℕ) (s : ShapeData) (block n : ℕ) → ((j : ℕ) → block ≤ j → j < block + n → head_refusal file s j ≡ None) → refusal_from file s block n ≡ None
unfolding refusal_from
none_refused file s block zero each = refl
none_refused file s block (suc n) each =
    ap (λ (r : Option PeekRefusal). or_else r (refusal_from file s (block + 1) n)) (each block (omega arith) (omega arith))
    ∙ none_refused file s (block + 1) n (λ j from to. each j (omega (arith, from)) (omega (arith, to)))

both_none : (first later : Option PeekRefusal) → or_else first later ≡ None → (first ≡ None) × (later ≡ None)
both_none None later none = (refl, none)
both_none (Some refusal) later none = absurd (cc)

each_passes : (file : List ℕ) (s : ShapeData) (block n : ℕ) → refusal_from file s block n ≡ None → (j : ℕ) → j < n → head_refusal file s (block + j) ≡ None
unfolding refusal_from
each_passes file s block zero none j lt = absurd (omega (arith, lt))
each_passes file s block (suc n) none zero lt =
    let here : block ≡ block + 0 = omega arith in
    ap (head_refusal file s) (sym here) ∙ (both_none (head_refusal file s block) (refusal_from file s (block + 1) n) none).0
each_passes file s block (suc n) none (suc j) lt =
    let there : block + 1 + j ≡ block + suc j = omega arith in
    ap (head_refusal file s) (sym there) ∙ each_passes file s (block + 1) n (both_none (head_refusal file s block) (refusal_from file s (block + 1) n) none).1 j (omega (arith, lt))

-- a file has its heads exactly where none is refused
pub heads_or_refusal : (file : List ℕ) (s : ShapeData) → IsShape s → Heads file s ↔ (heads_refusal file s ≡ None)
heads_or_refusal file s is = (
  λ heads. none_refused file s 0 s.blocks (λ j from to. head_passes file s j (heads_have file s heads j (omega (arith, to)))),
  λ none. heads_are file s is (λ block lt.
      let here : 0 + block ≡ block = omega arith in
      head_is file s block (ap (head_refusal file s) (sym here) ∙ each_passes file s 0 s.blocks none block lt)),
)

-- so far none was refused, so there are heads
pub heads_found : (file : List ℕ) (s : ShapeData) → IsShape s → heads_refusal file s ≡ None → Heads file s
heads_found file s is none = (heads_or_refusal file s is).1 none
