-- Pages in cells: the RAM that they hold, which are writable, and what an event makes of one of them.
use Rattle.std.proofs.Common.{◌≡◌, ℕ, suc, ◌<◌, not, Bool, true, false, List, [], ◌∷◌, ◌++◌, All, length, map, reverse, get_or, replicate, inl, inr, slice_set, Option, Some, None, refl, sym, ◌∙◌, ap, subst, arith}
use Rattle.std.specs.Prelude.{if◌then◌else◌}
use Rattle.std.specs.List.{slice_get}
use Rattle.std.proofs.Math.Seq.{map-set_same}
use Rattle.std.proofs.lemmas.List.{append-nil, map-set, length-map, get_or-map}
use Rattle.std.proofs.lemmas.List.Elements.{All-cons, All-nil, All-set}
use Rattle.std.proofs.lemmas.Option.{slice_get_cases}
use Rattle.ram_block.specs.Shape.{ShapeData, ram_bytes_of, total_pages_of}
use Rattle.ram_block.specs.declared.page_buf.TheConstants.{PAGE}
use Rattle.ram_block.specs.declared.place.Place.TheVariants as places
use Rattle.rv64i_step.specs.Request.{written_page}
use Rattle.rv64i_step.specs.Event.{request_of}
use Rattle.rv64i_step.specs.Vcpu.{VcpuData}
use Rattle.rv64i_step.specs.declared.request.Request.{Request}
use Rattle.rv64i_step.specs.declared.request.Request.TheVariants as requests
use Rattle.flat_machine.specs.Cell.{PageCell, page_after, page_gives}
use Rattle.flat_machine.specs.Fits.{FitsPage}
use Rattle.flat_machine.specs.Laws.{event_written_page}
use Rattle.flat_machine.specs.Next.{cell_of}
use Rattle.flat_machine.specs.Page.{joined, page_at, with_page}
use Rattle.flat_machine.proofs.Pages as flat
use Rattle.flat_machine.proofs.Written.{event_written_page-is}
use Rattle.flat_machine.proofs.Pages.{AreWhole, page_at-joined, joined-set}
use Rattle.page_cell.specs.Cell.{FitsCell, IsCell, bytes_in, cell_after, cell_gives, phase_in, stops_at, writes}
use Rattle.page_cell.specs.Core.{is_protected, protected_page, stopped_page}
use Rattle.page_cell.specs.declared.cell.Cell.{Cell}
use Rattle.page_cell.specs.declared.cell.Cell.TheVariants.{Page}
use Rattle.page_cell.specs.declared.phase.Phase.{Phase}
use Rattle.page_cell.specs.declared.phase.Phase.TheVariants.{Protected, Writable}
use Rattle.plain_bus.specs.Cells.{CellsData, IsWholePage, is_writable, writable_in, ram_of, flags_of}

-- ---- One page

whole_page : (x : Cell) → IsWholePage x → length (bytes_in x) ≡ PAGE
whole_page (Page bytes phase) whole = whole
whole_page _ whole = absurd whole

-- what an event gives and makes of it
pub record Applied (r : Request) (x : Cell) (time : ℕ) : Type 0 where
  pub fits : FitsCell r x
  pub gives : cell_gives r x time ≡ page_gives r (bytes_in x)
  pub after : bytes_in (cell_after r x) ≡ page_after r (bytes_in x)
  pub flag : writable_in (cell_after r x) ≡ writable_in x

pub applied : (r : Request) (x : Cell) (time : ℕ) → IsWholePage x → FitsPage r → Applied r x time
unfolding cell_gives cell_after
applied r (Page bytes phase) time whole fits = record { fits = fits; gives = refl; after = refl; flag = refl }
applied r _ time whole fits = absurd whole

-- a store or an AMO is stopped exactly where the page is protected
pub stops-write : (r : Request) (x : Cell) → IsWholePage x → writes r ≡ true → stops_at r x ≡ not (writable_in x)
stops-write r (Page bytes Protected) whole writes = writes
stops-write r (Page bytes Writable) whole writes = refl
stops-write r _ whole writes = absurd whole

-- nothing else is stopped
pub stops-read : (r : Request) (x : Cell) → writes r ≡ false → stops_at r x ≡ false
stops-read r (Page bytes Protected) reads = reads
stops-read r (Page bytes Writable) reads = refl
stops-read r _ reads = refl

-- a write of a page's cell is one of the page
written-is : (r : Request) (p : ℕ) → cell_of r ≡ Some (PageCell p) → writes r ≡ true → written_page r ≡ Some p
unfolding cell_of
written-is requests.Nothing p touches is = absurd (cc)
written-is (requests.NoFetch cause) p touches is = absurd (cc)
written-is (requests.Fetch page off) p touches is = absurd (cc)
written-is (requests.Load place width) p touches is = absurd (cc)
written-is (requests.Store (places.Ram page off) width value) p touches is = cc
written-is (requests.Store _ width value) p touches is = absurd (cc)
written-is (requests.Amo (places.Ram page off) width op value) p touches is = cc
written-is (requests.Amo _ width op value) p touches is = absurd (cc)

-- ---- All pages

rest_whole : (x : Cell) (cells : List Cell) → All IsWholePage (x ∷ cells) → All IsWholePage cells
rest_whole x cells whole = λ k d h. whole (suc k) d (omega arith)

pub whole_bytes : (cells : List Cell) → All IsWholePage cells → AreWhole (map bytes_in cells)
whole_bytes [] whole = All-nil (λ (page : List ℕ). length page ≡ PAGE)
whole_bytes (x ∷ cells) whole =
    All-cons (λ (page : List ℕ). length page ≡ PAGE) (bytes_in x) (map bytes_in cells) (whole_page x (whole 0 x (omega arith))) (whole_bytes cells (rest_whole x cells whole))

-- the RAM has as many bytes as its shape says
pub ram_len : (shape : ShapeData) (cells : List Cell) → All IsWholePage cells → length cells ≡ total_pages_of shape → length (ram_of cells) ≡ ram_bytes_of shape
unfolding ram_of
ram_len shape cells whole count = flat.ram_len shape (map bytes_in cells) (whole_bytes cells whole) (length-map cells bytes_in ∙ count)

-- it is the pages, one after another
pub joined-bytes : (cells : List Cell) → joined (map bytes_in cells) ≡ ram_of cells
unfolding ram_of
joined-bytes cells = refl

-- a page of it is the bytes of its cell
pub page_at-ram_of : (cells : List Cell) (p : ℕ) (d : Cell) → All IsWholePage cells → p < length cells → page_at (ram_of cells) p ≡ bytes_in (get_or cells p d)
unfolding ram_of
page_at-ram_of cells p d whole h =
    page_at-joined (map bytes_in cells) p [] (whole_bytes cells whole) (subst (λ (n : ℕ). p < n) (sym (length-map cells bytes_in)) h) ∙ get_or-map bytes_in cells p d [] h

-- a page replaced
pub ram_of-set : (cells : List Cell) (p : ℕ) (x : Cell) → All IsWholePage cells → p < length cells → ram_of (slice_set cells p x) ≡ with_page (ram_of cells) p (bytes_in x)
unfolding ram_of
ram_of-set cells p x whole h =
    ap joined (map-set bytes_in cells p x) ∙ joined-set (map bytes_in cells) p (bytes_in x) (whole_bytes cells whole) (subst (λ (n : ℕ). p < n) (sym (length-map cells bytes_in)) h)

-- a page whose bytes stay
pub ram_of-same : (cells : List Cell) (p : ℕ) (x d : Cell) → bytes_in x ≡ bytes_in (get_or cells p d) → ram_of (slice_set cells p x) ≡ ram_of cells
unfolding ram_of
ram_of-same cells p x d same = ap joined (map-set_same bytes_in cells p x d same)

-- the flags
pub length-flags_of : (cells : List Cell) → length (flags_of cells) ≡ length cells
unfolding flags_of
length-flags_of cells = length-map cells writable_in

pub flags_of-set : (cells : List Cell) (p : ℕ) (x : Cell) → flags_of (slice_set cells p x) ≡ slice_set (flags_of cells) p (writable_in x)
unfolding flags_of
flags_of-set cells p x = map-set writable_in cells p x

pub flags_of-same : (cells : List Cell) (p : ℕ) (x d : Cell) → writable_in x ≡ writable_in (get_or cells p d) → flags_of (slice_set cells p x) ≡ flags_of cells
unfolding flags_of
flags_of-same cells p x d same = map-set_same writable_in cells p x d same

-- whether a page is protected, its cell says
pub protected_cell : (cells : List Cell) (p : ℕ) (d : Cell) → p < length cells → is_protected (flags_of cells) p ≡ not (writable_in (get_or cells p d))
unfolding flags_of
protected_cell cells p d h = ap not (get_or-map writable_in cells p d true h)

-- a write is stopped exactly where its page is protected
pub stops-is : (cells : List Cell) (r : Request) (p : ℕ) (d : Cell) → All IsWholePage cells → p < length cells → writes r ≡ true →
    stops_at r (get_or cells p d) ≡ is_protected (flags_of cells) p
stops-is cells r p d whole h is = stops-write r (get_or cells p d) (whole p d h) is ∙ sym (protected_cell cells p d h)

not_stopped : (b : Bool) (p : ℕ) → (if b then Some p else None) ≡ None → b ≡ false
not_stopped true p none = absurd (cc)
not_stopped false p none = refl

free_by : (cells : List Cell) (r : Request) (p : ℕ) (d : Cell) (b : Bool) → writes r ≡ b → All IsWholePage cells → p < length cells →
    cell_of r ≡ Some (PageCell p) → protected_page (flags_of cells) (written_page r) ≡ None → stops_at r (get_or cells p d) ≡ false
free_by cells r p d false is whole h touches free = stops-read r (get_or cells p d) is
free_by cells r p d true is whole h touches free =
    stops-is cells r p d whole h is
    ∙ not_stopped (is_protected (flags_of cells) p) p (ap (protected_page (flags_of cells)) (sym (written-is r p touches is)) ∙ free)

-- so where no page stops a request, its cell doesn't
pub free_cell : (cells : List Cell) (r : Request) (p : ℕ) (d : Cell) → All IsWholePage cells → p < length cells →
    cell_of r ≡ Some (PageCell p) → protected_page (flags_of cells) (written_page r) ≡ None → stops_at r (get_or cells p d) ≡ false
free_cell cells r p d whole h touches free = free_by cells r p d (writes r) refl whole h touches free

-- the page that stops a request, if its cell does
pub stopped_is : (cells : List Cell) (r : Request) (p : ℕ) (x : Cell) (b : Bool) → x ≡ get_or cells p x → All IsWholePage cells → p < length cells →
    writes r ≡ true → written_page r ≡ Some p → stops_at r x ≡ b → (if b then Some p else None) ≡ protected_page (flags_of cells) (written_page r)
stopped_is cells r p x b here whole h is page stops =
    let same : b ≡ is_protected (flags_of cells) p = sym stops ∙ ap (stops_at r) here ∙ stops-is cells r p x whole h is in
    ap (λ b. if b then Some p else None) same ∙ ap (protected_page (flags_of cells)) (sym page)

-- it is the page written where its cell stops the request, and none where it doesn't
pub stopped_then : (cells : List Cell) (r : Request) (p : ℕ) (x : Cell) → written_page r ≡ Some p → x ≡ get_or cells p x → All IsWholePage cells →
    p < length cells → writes r ≡ true → stops_at r x ≡ true → Some p ≡ protected_page (flags_of cells) (written_page r)
stopped_then cells r p x page here whole h is stops = stopped_is cells r p x true here whole h is page stops

pub stopped_else : (cells : List Cell) (r : Request) (p : ℕ) (x : Cell) → written_page r ≡ Some p → x ≡ get_or cells p x → All IsWholePage cells →
    p < length cells → writes r ≡ true → stops_at r x ≡ false → None ≡ protected_page (flags_of cells) (written_page r)
stopped_else cells r p x page here whole h is stops = stopped_is cells r p x false here whole h is page stops

pub ruleset stopping = (stopped_then, stopped_else)

-- ---- The cell of a page

-- it doesn't stop the request
pub free_at : (cells : List Cell) (r : Request) (p : ℕ) (x : Cell) → x ≡ get_or cells p x → All IsWholePage cells → p < length cells →
    cell_of r ≡ Some (PageCell p) → protected_page (flags_of cells) (written_page r) ≡ None → stops_at r x ≡ false
free_at cells r p x here whole h touches free = ap (stops_at r) here ∙ free_cell cells r p x whole h touches free

whole_at : (cells : List Cell) (p : ℕ) (x : Cell) → x ≡ get_or cells p x → All IsWholePage cells → p < length cells → IsWholePage x
whole_at cells p x here whole h = subst IsWholePage (sym here) (whole p x h)

pub bytes_at : (cells : List Cell) (p : ℕ) (x : Cell) → x ≡ get_or cells p x → All IsWholePage cells → p < length cells → bytes_in x ≡ page_at (ram_of cells) p
bytes_at cells p x here whole h = ap bytes_in here ∙ sym (page_at-ram_of cells p x whole h)

-- what it gives is what the page of RAM gives
pub gives_at : (cells : List Cell) (r : Request) (p : ℕ) (x : Cell) (time : ℕ) → x ≡ get_or cells p x → All IsWholePage cells → p < length cells →
    FitsPage r → cell_gives r x time ≡ page_gives r (page_at (ram_of cells) p)
gives_at cells r p x time here whole h fits =
    (applied r x time (whole_at cells p x here whole h) fits).gives ∙ ap (page_gives r) (bytes_at cells p x here whole h)

-- and what it becomes, too
pub ram_at : (cells : List Cell) (r : Request) (p : ℕ) (x y : Cell) → x ≡ get_or cells p x → y ≡ cell_after r x → All IsWholePage cells → p < length cells →
    FitsPage r → ram_of (slice_set cells p y) ≡ with_page (ram_of cells) p (page_after r (page_at (ram_of cells) p))
ram_at cells r p x y here is whole h fits =
    ram_of-set cells p y whole h
    ∙ ap (with_page (ram_of cells) p) (ap bytes_in is ∙ (applied r x 0 (whole_at cells p x here whole h) fits).after ∙ ap (page_after r) (bytes_at cells p x here whole h))

pub flags_at : (cells : List Cell) (r : Request) (p : ℕ) (x y : Cell) → x ≡ get_or cells p x → y ≡ cell_after r x → All IsWholePage cells → p < length cells →
    FitsPage r → flags_of (slice_set cells p y) ≡ flags_of cells
flags_at cells r p x y here is whole h fits =
    flags_of-same cells p y x (ap writable_in is ∙ (applied r x 0 (whole_at cells p x here whole h) fits).flag ∙ ap writable_in here)

whole_after : (r : Request) (x : Cell) → IsWholePage x → IsCell (cell_after r x) → IsWholePage (cell_after r x)
unfolding cell_after
whole_after r (Page bytes phase) whole limits = limits
whole_after r _ whole limits = absurd whole

-- each page stays whole
pub pages_at : (cells : List Cell) (r : Request) (p : ℕ) (x y : Cell) → x ≡ get_or cells p x → y ≡ cell_after r x → IsCell y → All IsWholePage cells →
    p < length cells → All IsWholePage (slice_set cells p y)
pages_at cells r p x y here is limits whole h =
    All-set IsWholePage cells p y (subst IsWholePage (sym is) (whole_after r x (whole_at cells p x here whole h) (subst IsCell is limits))) whole

-- whether the page is protected, the phase says
pub protected_at : (cells : List Cell) (p : ℕ) (x : Cell) (phase : Phase) → x ≡ get_or cells p x → p < length cells → phase_in x ≡ phase →
    is_protected (flags_of cells) p ≡ not (is_writable phase)
protected_at cells p x phase here h is = protected_cell cells p x h ∙ ap (λ y. not (writable_in y)) (sym here) ∙ ap (λ ph. not (is_writable ph)) is

-- ---- Into cells

-- a page as a cell
abbrev pub cell_in : Phase → List ℕ → Cell
cell_in phase bytes = Page bytes phase

pub ram_of-cells : (phase : Phase) (pages : List (List ℕ)) → ram_of (map (cell_in phase) pages) ≡ joined pages
unfolding ram_of
ram_of-cells phase pages = ap joined (bytes_back phase pages)
  where
    bytes_back : (phase : Phase) (pages : List (List ℕ)) → map bytes_in (map (cell_in phase) pages) ≡ pages
    bytes_back phase [] = refl
    bytes_back phase (page ∷ pages) = ap (λ l. page ∷ l) (bytes_back phase pages)

pub flags_of-cells : (phase : Phase) (pages : List (List ℕ)) → flags_of (map (cell_in phase) pages) ≡ replicate (length pages) (is_writable phase)
unfolding flags_of
flags_of-cells phase [] = refl
flags_of-cells phase (page ∷ pages) = ap (λ l. is_writable phase ∷ l) (flags_of-cells phase pages)

pub whole_cells : (phase : Phase) (pages : List (List ℕ)) → AreWhole pages → All IsWholePage (map (cell_in phase) pages)
whole_cells phase [] whole = All-nil IsWholePage
whole_cells phase (page ∷ pages) whole =
    All-cons IsWholePage (cell_in phase page) (map (cell_in phase) pages) (whole 0 page (omega arith)) (whole_cells phase pages (flat.rest_whole page pages whole))

-- when nothing is left to move, all was moved
pub all_moved : {X Y : Type 0} (f : X → Y) (done : List Y) (left all : List X) → done ++ map f (reverse left) ≡ map f all → length left ≡ 0 → done ≡ map f all
all_moved f done [] all moved none = sym (append-nil done) ∙ moved
all_moved f done (x ∷ left) all moved none = absurd (omega arith)

-- ---- Steps

-- the page that stops the next event of vCPU k is the one that stops its request
pub step_stopped : (d : CellsData) (vcpus : List VcpuData) (flags : List Bool) (k : ℕ) (r : Request) (page : Option ℕ) → vcpus ≡ d.machine.vcpus →
    flags ≡ d.writable → k < length d.machine.vcpus → ((v : VcpuData) → slice_get vcpus k ≡ Some v → r ≡ request_of d.machine.shape v) →
    page ≡ protected_page flags (written_page r) → page ≡ stopped_page d.machine d.writable k
unfolding stopped_page
step_stopped d vcpus flags k r page same flagged within asks is =
    elim ((slice_get_cases d.machine.vcpus k).1) as (λ _. page ≡ protected_page d.writable (event_written_page d.machine k)) [
      | inl there ↦
          (let stood : slice_get d.machine.vcpus k ≡ Some there.0 = there.2 in
          let asked : r ≡ request_of d.machine.shape there.0 = asks there.0 (ap (λ vs. slice_get vs k) same ∙ stood) in
          is ∙ ap (λ w. protected_page w (written_page r)) flagged
          ∙ ap (protected_page d.writable) (sym (event_written_page-is d.machine k there.0 r stood (sym asked))))
      | inr past ↦ absurd (let le = past.0 in omega arith)
    ]
