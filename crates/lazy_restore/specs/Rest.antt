-- The pages that weren't touched, read into their places (this project's own, docs/ARCHITECTURE.md).
use Rattle.std.specs.Prelude.{◌≡◌, ◌≢◌, ℕ, ◌<◌, true, false, List, [], get_or, Option, IfSome, Result, Ok, Err, if◌then◌else◌}
use Rattle.medium.specs.Count.{HasRisen}
use Rattle.medium.specs.States.{FileState}
use Rattle.ram_block.specs.PageLinks.{is_listed}
use Rattle.ram_block.specs.Shape.{total_pages_of}
use Rattle.file_plan.specs.Plan.{page_place}
use Rattle.page_peek.specs.Peeked.{IsCutPage, PeekData, bit_of, page_in}
use Rattle.page_peek.specs.declared.fault.PageFault.{PageFault}
use Rattle.page_peek.specs.declared.fault.PageFault.TheVariants.{Truncated, ReadFault}

-- the file has a page, which would stand at this place, and ends in it
pub record IsCutPageAt (told : Option (List ℕ)) (q : PeekData) (p at : ℕ) : Type 0 where
  pub saved : bit_of q p ≡ true
  pub place : at ≡ page_place q.shape.pages p
  pub cut : IfSome told (λ file. IsCutPage file q p)

-- a page once it is read, where it wasn't touched
abbrev pub rest_page : List ℕ → PeekData → List ℕ → List (List ℕ) → ℕ → List ℕ
rest_page file q touched old p = if is_listed touched p then get_or old p [] else page_in file q p

-- one page was read, and the others stay
pub record ReadsOne (told : Option (List ℕ)) (q : PeekData) (touched : List ℕ) (p : ℕ) (old new : List (List ℕ)) : Type 0 where
  pub others : (j : ℕ) → j ≢ p → get_or new j [] ≡ get_or old j []
  pub here : IfSome told (λ file. get_or new p [] ≡ rest_page file q touched old p)
  pub uncut : IfSome told (λ file. is_listed touched p ≡ false → ¬ IsCutPage file q p)

abbrev pub LeavesOne : FileState → FileState → PeekData → List ℕ → ℕ → List (List ℕ) → Result (Unit {0}) PageFault → List (List ℕ) → Type 0
LeavesOne file now q touched p old (Ok done) new = ReadsOne file.told q touched p old new
LeavesOne file now q touched p old (Err (Truncated at)) new = (is_listed touched p ≡ false) × IsCutPageAt file.told q p at
LeavesOne file now q touched p old (Err ReadFault) new = HasRisen file.faults now.faults

-- all of them were read
pub record ReadsRest (told : Option (List ℕ)) (q : PeekData) (touched : List ℕ) (old new : List (List ℕ)) : Type 0 where
  pub pages : IfSome told (λ file. (p : ℕ) → p < total_pages_of q.shape → get_or new p [] ≡ rest_page file q touched old p)
  pub uncut : IfSome told (λ file. (p : ℕ) → p < total_pages_of q.shape → is_listed touched p ≡ false → ¬ IsCutPage file q p)

-- the first of them in which the file ends
pub record IsFirstCut (told : Option (List ℕ)) (q : PeekData) (touched : List ℕ) (at : ℕ) : Type 0 where
  pub page : ℕ
  pub within : page < total_pages_of q.shape
  pub new : is_listed touched page ≡ false
  pub cut : IsCutPageAt told q page at
  pub first : IfSome told (λ file. (p : ℕ) → p < page → is_listed touched p ≡ false → ¬ IsCutPage file q p)

abbrev pub LeavesRest : FileState → FileState → PeekData → List ℕ → List (List ℕ) → Result (Unit {0}) PageFault → List (List ℕ) → Type 0
LeavesRest file now q touched old (Ok done) new = ReadsRest file.told q touched old new
LeavesRest file now q touched old (Err (Truncated at)) new = IsFirstCut file.told q touched at
LeavesRest file now q touched old (Err ReadFault) new = HasRisen file.faults now.faults
