-- The pages of a range of RAM, one after another: whether one is cut, and their bytes.
use Rattle.std.proofs.Common.{◌≡◌, inl, inr, true, false, ℕ, suc, ◌+◌, ◌-◌, ◌/◌, ◌%◌, ◌<◌, ◌≤◌, Bool, List, ◌++◌, length, Option, Some, None, Ok, Err, IfSome, refl, sym, ◌∙◌, ap, subst, arith}
use Rattle.std.specs.Prelude.{◌&&◌, nat_lt, if◌then◌else◌}
use Rattle.std.specs.List.{flat_map, range_with_len}
use Rattle.std.proofs.lemmas.Bool.{cases_lt, le-ltb, lt-ltb}
use Rattle.file_plan.specs.Layout.{page_bit}
use Rattle.file_plan.specs.Plan.{block_places, page_place}
use Rattle.medium.proofs.Told.{when_told}
use Rattle.medium.specs.Count.{HasRisen}
use Rattle.medium.specs.States.{FileState, Leaves}
use Rattle.page_peek.specs.Heads.{or_else}
use Rattle.page_peek.specs.Peeked.{IsCutPage, PeekData, Peeks, page_in, peek_of, peeked}
use Rattle.page_peek.specs.declared.fault.PageFault.{PageFault}
use Rattle.page_peek.specs.declared.fault.PageFault.TheVariants as pages
use Rattle.page_peek.specs.declared.fault.PeekRefusal.{PeekRefusal}
use Rattle.page_peek.specs.declared.fault.PeekRefusal.TheVariants.{Truncated}
use Rattle.page_peek.proofs.PagesOf.{bit_told, page_told}
use Rattle.ram_block.specs.Shape.{ShapeData, total_pages_of}
use Rattle.vm_cli.specs.Jobs.Peek.{IsRangeUnread, cut_refusal, cuts_from, page_fault_of}
use Rattle.vm_cli.proofs.Causes.{told_fact}
use Rattle.vm_report.proofs.Ranges.{range_more}

-- ---- Cut pages

cut_by : (saved : Bool) (len at : ℕ) → saved ≡ true → len - at < 4096 → (if saved && nat_lt (len - at) 4096 then Some (Truncated at) else None) ≡ Some (Truncated at)
cut_by saved len at is short = ap (λ (b : Bool). if b && nat_lt (len - at) 4096 then Some (Truncated at) else None) is ∙ ap (λ (b : Bool). if b then Some (Truncated at) else None) (lt-ltb (len - at) 4096 short)

uncut_by : (saved : Bool) (len at : ℕ) → (saved ≡ true → len - at < 4096 → ⊥) → (if saved && nat_lt (len - at) 4096 then Some (Truncated at) else None) ≡ None
uncut_by false len at none = refl
uncut_by true len at none = elim (cases_lt (len - at) 4096) as (λ _. (if nat_lt (len - at) 4096 then Some (Truncated at) else None) ≡ None) [
  | inl short ↦ absurd (none refl short)
  | inr long ↦ ap (λ (b : Bool). if b then Some (Truncated at) else None) (le-ltb _ _ long)
]

-- by what is known of the bitmaps
pub cut_is : (file : List ℕ) (s : ShapeData) (p : ℕ) → p < total_pages_of s → IsCutPage file (peek_of file s) p → cut_refusal file s p ≡ Some (Truncated (page_place s.pages p))
unfolding peek_of
cut_is file s p lt cut = cut_by (page_bit file (block_places s.pages (p / s.pages)).bitmap (p % s.pages)) (length file) (page_place s.pages p) (sym (bit_told file s p lt) ∙ cut.saved) cut.cut

pub uncut_is : (file : List ℕ) (s : ShapeData) (p : ℕ) → p < total_pages_of s → (IsCutPage file (peek_of file s) p → ⊥) → cut_refusal file s p ≡ None
unfolding peek_of
uncut_is file s p lt none =
    uncut_by (page_bit file (block_places s.pages (p / s.pages)).bitmap (p % s.pages)) (length file) (page_place s.pages p)
    (λ saved short. none (record { saved = bit_told file s p lt ∙ saved; cut = short }))

-- the first of those from a page on, where the page is the next of them
pub cuts_next : (file : List ℕ) (s : ShapeData) (p end : ℕ) → p < end → cuts_from file s p (end - p) ≡ or_else (cut_refusal file s p) (cuts_from file s (p + 1) (end - (p + 1)))
unfolding cuts_from
cuts_next file s p end lt =
    let more : end - p ≡ suc (end - (p + 1)) = omega arith in
    ap (cuts_from file s p) more

pub cuts_on : (file : List ℕ) (s : ShapeData) (p end : ℕ) → p < end → cut_refusal file s p ≡ None → cuts_from file s p (end - p) ≡ cuts_from file s (p + 1) (end - (p + 1))
cuts_on file s p end lt none = cuts_next file s p end lt ∙ ap (λ (r : Option PeekRefusal). or_else r (cuts_from file s (p + 1) (end - (p + 1)))) none

pub cuts_here : (file : List ℕ) (s : ShapeData) (p end at : ℕ) → p < end → cut_refusal file s p ≡ Some (Truncated at) → cuts_from file s p (end - p) ≡ Some (Truncated at)
cuts_here file s p end at lt is = cuts_next file s p end lt ∙ ap (λ (r : Option PeekRefusal). or_else r (cuts_from file s (p + 1) (end - (p + 1)))) is

pub cuts_none : (file : List ℕ) (s : ShapeData) (p end : ℕ) → end ≤ p → cuts_from file s p (end - p) ≡ None
unfolding cuts_from
cuts_none file s p end le =
    let nothing : end - p ≡ 0 = omega arith in
    ap (cuts_from file s p) nothing

-- ---- The bytes of the pages

-- with one page more
pub pages_more : (file : List ℕ) (s : ShapeData) (first p : ℕ) (before page after : List ℕ) → first ≤ p → before ≡ flat_map (peeked file s) (range_with_len first (p - first)) → page ≡ peeked file s p
    → after ≡ before ++ page → after ≡ flat_map (peeked file s) (range_with_len first (p + 1 - first))
pages_more file s first p before page after le so_far is now =
    let on : p - first + 1 ≡ p + 1 - first = omega arith in
    now ∙ ap (λ (l : List ℕ). l ++ page) so_far ∙ ap (λ (l : List ℕ). flat_map (peeked file s) (range_with_len first (p - first)) ++ l) is
    ∙ sym (range_more (peeked file s) first (p - first) p (omega arith)) ∙ ap (λ n. flat_map (peeked file s) (range_with_len first n)) on

-- ---- A page after another

-- the cuts so far, of a file that is told and whose bitmaps are known
abbrev pub CutsFrom : Option (List ℕ) → PeekData → ℕ → ℕ → ℕ → Type 0
CutsFrom told d first count p = (file : List ℕ) → told ≡ Some file → d ≡ peek_of file d.shape → cuts_from file d.shape first count ≡ cuts_from file d.shape p (first + count - p)

abbrev pub BytesTo : Option (List ℕ) → PeekData → ℕ → ℕ → List ℕ → Type 0
BytesTo told d first p bytes = (file : List ℕ) → told ≡ Some file → d ≡ peek_of file d.shape → bytes ≡ flat_map (peeked file d.shape) (range_with_len first (p - first))

-- what a page answered, of such a file
answered : (P : List ℕ → Type 0) (told mid : Option (List ℕ)) (file : List ℕ) → mid ≡ told → told ≡ Some file → IfSome mid P → P file
answered P told mid file same is holds = told_fact P mid file holds (same ∙ is)

pub cuts_more : (told mid : Option (List ℕ)) (d : PeekData) (first count p : ℕ) (into : List ℕ) → mid ≡ told → p < total_pages_of d.shape → p < first + count → CutsFrom told d first count p
    → IfSome mid (λ file. Peeks file d p into (Ok tt)) → CutsFrom told d first count (p + 1)
cuts_more told mid d first count p into same lt within so_far answer = λ file is known.
    so_far file is known
    ∙ cuts_on file d.shape p (first + count) within
    (uncut_is file d.shape p lt (λ cut. (answered (λ f. Peeks f d p into (Ok tt)) told mid file same is answer).1 (subst (λ (q : PeekData). IsCutPage file q p) (sym known) cut)))

pub bytes_more : (told mid : Option (List ℕ)) (d : PeekData) (first p : ℕ) (into before after : List ℕ) → mid ≡ told → p < total_pages_of d.shape → first ≤ p → BytesTo told d first p before
    → IfSome mid (λ file. Peeks file d p into (Ok tt)) → after ≡ before ++ into → BytesTo told d first (p + 1) after
bytes_more told mid d first p into before after same lt le so_far answer now = λ file is known.
    pages_more file d.shape first p before into after le (so_far file is known)
    ((answered (λ f. Peeks f d p into (Ok tt)) told mid file same is answer).0 ∙ ap (λ (q : PeekData). page_in file q p) known ∙ page_told file d.shape p lt)
    now

-- one that wasn't read
pub page_unread : (old mid now : FileState) (d : PeekData) (first count p : ℕ) (into : List ℕ) (fault : PageFault) → Leaves old mid → p < total_pages_of d.shape → p < first + count → CutsFrom old.told d first count p
    → IfSome mid.told (λ file. Peeks file d p into (Err fault)) → ((at : ℕ) → fault ≡ pages.Truncated at → at ≡ page_place d.shape.pages p)
    → (fault ≡ pages.ReadFault → HasRisen mid.faults now.faults) → IsRangeUnread old now d first count (page_fault_of fault)
page_unread old mid now d first count p into (pages.Truncated at) leaves lt within so_far answer place rose =
    when_told old.told (λ file. d ≡ peek_of file d.shape → cuts_from file d.shape first count ≡ Some (Truncated at))
    (λ file is known.
    so_far file is known
    ∙ cuts_here file d.shape p (first + count) at within
    (cut_is file d.shape p lt (subst (λ (q : PeekData). IsCutPage file q p) known (answered (λ f. Peeks f d p into (Err (pages.Truncated at))) old.told mid.told file leaves.told is answer))
    ∙ ap (λ n. Some (Truncated n)) (sym (place at refl))))
page_unread old mid now d first count p into pages.ReadFault leaves lt within so_far answer place rose = let risen = rose refl in omega (arith, risen, leaves.never_falls)

-- all of them were read
pub all_read : (told : Option (List ℕ)) (d : PeekData) (first count p : ℕ) (bytes : List ℕ) → p ≡ first + count → CutsFrom told d first count p → BytesTo told d first p bytes → (file : List ℕ) → told ≡ Some file → d ≡ peek_of file d.shape
    → (bytes ≡ flat_map (peeked file d.shape) (range_with_len first count)) × (cuts_from file d.shape first count ≡ None)
all_read told d first count p bytes end cuts all = λ file is known.
    let number : p - first ≡ count = omega (arith, end) in (
      all file is known ∙ ap (λ n. flat_map (peeked file d.shape) (range_with_len first n)) number,
      cuts file is known ∙ cuts_none file d.shape p (first + count) (omega (arith, end)),
    )
