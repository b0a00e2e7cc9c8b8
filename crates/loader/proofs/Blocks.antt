-- Reading goes on from block to block.
use Rattle.std.proofs.Common.{◌≡◌, inl, inr, ℕ, zero, suc, ◌+◌, ◌*◌, ◌<◌, List, ◌∷◌, ◌++◌, [], Ok, Err, Result, IfOk, ap, sym, subst, arith}
use Rattle.std.proofs.lemmas.Bool.{cases_lt}
use Rattle.ram_block.specs.declared.page_buf.TheConstants.{PAGE}
use Rattle.mig_stream.specs.Checks.{and_then}
use Rattle.page_bitmap.specs.Bitmap.{BitmapData}
use Rattle.file_plan.specs.Plan.{record_place}
use Rattle.file_plan.specs.declared.plan.TheConstants.{FIRST_RECORD}
use Rattle.loader.specs.declared.refusal.LoadFault.{LoadFault}
use Rattle.loader.specs.declared.refusal.Refusal.{Refusal}
use Rattle.loader.specs.Piece.{Refuses}
use Rattle.loader.specs.Frame.{blocks_in, later_in}
use Rattle.loader.specs.Stands.{HasBlock, HasBlocks, HasHeader, HasLater, HasUsed}

-- a block that was read
pub goes_on : (file : List ℕ) (pages block n : ℕ) (so_far : List BitmapData) (bitmap : BitmapData) → later_in file pages block ≡ Ok bitmap
    → blocks_in file pages block (suc n) so_far ≡ blocks_in file pages (block + 1) n (so_far ++ bitmap ∷ [])
unfolding blocks_in
goes_on file pages block n so_far bitmap found = ap (λ (r : Result BitmapData Refusal). and_then r (λ (b : BitmapData). blocks_in file pages (block + 1) n (so_far ++ b ∷ []))) found

-- a block that is refused
pub is_refused : (file : List ℕ) (pages block n : ℕ) (so_far : List BitmapData) (refusal : Refusal) → later_in file pages block ≡ Err refusal
    → blocks_in file pages block (suc n) so_far ≡ Err refusal
unfolding blocks_in
is_refused file pages block n so_far refusal found = ap (λ (r : Result BitmapData Refusal). and_then r (λ (b : BitmapData). blocks_in file pages (block + 1) n (so_far ++ b ∷ []))) found

-- a step that was refused is the answer of the whole
pub refused_on : (found before : Result (List BitmapData) Refusal) (fault : LoadFault) → found ≡ before → Refuses before fault → Refuses found fault
refused_on found before fault same refused = subst (λ (r : Result (List BitmapData) Refusal). Refuses r fault) (sym same) refused

-- the numbers of a record, of what its two parts tell
pub has_block : {T : Type 0} (result : Result T LoadFault) (file : List ℕ) (pages block at v : ℕ) → at ≡ record_place pages block → v ≡ PAGE * pages
    → HasUsed file block at v → IfOk result (λ _. HasHeader file pages block) → IfOk result (λ _. HasBlock file pages block)
has_block (Ok value) file pages block at v place whole used header = record {
  used = subst (λ (k : ℕ). HasUsed file block (record_place pages block) k) whole (subst (λ (k : ℕ). HasUsed file block k v) place used);
  header = header;
}
has_block (Err fault) file pages block at v place whole used header = tt

-- those of all blocks
pub all_blocks : (file : List ℕ) (pages blocks v : ℕ) → PAGE * pages ≡ v → HasUsed file 0 FIRST_RECORD v → HasHeader file pages 0 → HasLater file pages blocks → HasBlocks file pages blocks
unfolding record_place
all_blocks file pages blocks v whole used header later zero lt = record { used = subst (λ (k : ℕ). HasUsed file 0 FIRST_RECORD k) (sym whole) used; header = header }
all_blocks file pages blocks v whole used header later (suc block) lt = later (suc block) (omega arith) lt

-- one block more
pub one_more : (file : List ℕ) (pages n : ℕ) → ((block : ℕ) → 0 < block → block < n → HasBlock file pages block) → HasBlock file pages n
    → (block : ℕ) → 0 < block → block < n + 1 → HasBlock file pages block
one_more file pages n before here block some lt = elim (cases_lt block n) [
  | inl less ↦ before block some less
  | inr more ↦ let same : n ≡ block = omega arith in subst (HasBlock file pages) same here
]

-- no block is left
pub none_left : (file : List ℕ) (pages block n : ℕ) (so_far : List BitmapData) → n ≡ 0 → blocks_in file pages block n so_far ≡ Ok so_far
unfolding blocks_in
none_left file pages block n so_far none = ap (λ (k : ℕ). blocks_in file pages block k so_far) none
