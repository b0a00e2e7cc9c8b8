-- The machine that is shown, page by page.
use Rattle.std.proofs.Common.{◌≡◌, inl, inr, true, false, ℕ, ◌-◌, ◌<◌, Bool, List, [], length, get_or, drop, map, sym, ◌∙◌, ap, arith}
use Rattle.std.specs.List.{range_with_len}
use Rattle.std.proofs.lemmas.Bool.{cases_Bool, cases_lt}
use Rattle.std.proofs.lemmas.List.{ext_get_or, length-take, length-drop}
use Rattle.std.proofs.lemmas.List.FromFn.{length-map-range_with_len, get_or-map-range_with_len}
use Rattle.ram_block.proofs.Pages.{length-zero_page}
use Rattle.ram_block.specs.PageLinks.{is_listed}
use Rattle.ram_block.specs.Shape.{ram_bytes_of, total_pages_of}
use Rattle.file_plan.specs.Plan.{page_place}
use Rattle.flat_machine.specs.Machine.{page_of}
use Rattle.flat_machine.proofs.Inside.{length-page_of}
use Rattle.flat_machine.proofs.Pages.{AreWhole, page_at-joined, ram_len}
use Rattle.page_peek.specs.Peeked.{IsCutPage, PeekData, bit_of, page_by, page_in}
use Rattle.lazy_restore.specs.Lazy.{IsLazy, IsWhole, LazyData, shown, shown_page}

-- two lists that are made of the same values are one
pub made_same : {A : Type 0} (f g : ℕ → A) (n : ℕ) (d : A) → ((i : ℕ) → i < n → f i ≡ g i) → map f (range_with_len 0 n) ≡ map g (range_with_len 0 n)
made_same f g n d same =
    ext_get_or d (map f (range_with_len 0 n)) (map g (range_with_len 0 n)) (length-map-range_with_len f 0 n ∙ sym (length-map-range_with_len g 0 n)) (λ i lt.
    let within : i < n = omega (arith, lt, length-map-range_with_len f 0 n) in
    get_or-map-range_with_len f 0 n i i d within (omega arith) ∙ same i within ∙ sym (get_or-map-range_with_len g 0 n i i d within (omega arith)))

-- the pages of the machine that is shown
abbrev pub shown_pages : List ℕ → LazyData → List (List ℕ)
shown_pages file d = map (shown_page file d) (range_with_len 0 (total_pages_of d.machine.shape))

pub length-shown_pages : (file : List ℕ) (d : LazyData) → length (shown_pages file d) ≡ total_pages_of d.machine.shape
length-shown_pages file d = length-map-range_with_len (shown_page file d) 0 (total_pages_of d.machine.shape)

pub nth_shown : (file : List ℕ) (d : LazyData) (p : ℕ) (e : List ℕ) → p < total_pages_of d.machine.shape → get_or (shown_pages file d) p e ≡ shown_page file d p
nth_shown file d p e lt = get_or-map-range_with_len (shown_page file d) 0 (total_pages_of d.machine.shape) p p e lt (omega arith)

-- a page that the file doesn't cut is whole
pub file_page_whole : (file : List ℕ) (q : PeekData) (p : ℕ) → ¬ IsCutPage file q p → length (page_in file q p) ≡ 4096
file_page_whole file q p uncut =
    let at = page_place q.shape.pages p in
    elim (cases_Bool (bit_of q p)) as (λ _. length (page_in file q p) ≡ 4096) [
      | inl set ↦
          elim (cases_lt (length file - at) 4096) as (λ _. length (page_in file q p) ≡ 4096) [
            | inl short ↦ absurd (uncut (record { saved = set; cut = short }))
            | inr long ↦ ap (λ (b : Bool). length (page_by file at b)) set ∙ (omega (arith, long, length-take 4096 (drop at file), length-drop at file))
          ]
      | inr clear ↦ ap (λ (b : Bool). length (page_by file at b)) clear ∙ length-zero_page
    ]

-- a page that was touched is the one held, and any other the one of the file
pub page_touched : (file : List ℕ) (d : LazyData) (p : ℕ) → is_listed d.touched p ≡ true → shown_page file d p ≡ page_of d.machine p
page_touched file d p is = cc

pub page_new : (file : List ℕ) (d : LazyData) (p : ℕ) → is_listed d.touched p ≡ false → shown_page file d p ≡ page_in file d.peek p
page_new file d p is = cc

module _ (file : List ℕ) (d : LazyData) (lazy : IsLazy d) (whole : IsWhole file d) where
  shown_page_whole : (p : ℕ) → p < total_pages_of d.machine.shape → length (shown_page file d p) ≡ 4096
  shown_page_whole p lt = elim (cases_Bool (is_listed d.touched p)) as (λ _. length (shown_page file d p) ≡ 4096) [
    | inl is ↦ ap length (page_touched file d p is) ∙ length-page_of d.machine p lazy.machine.ram lt
    | inr new ↦ ap length (page_new file d p new) ∙ file_page_whole file d.peek p (whole p lt)
  ]

  pub pages_whole : AreWhole (shown_pages file d)
  pages_whole = λ p e h.
      let lt : p < total_pages_of d.machine.shape = omega (arith, h, length-shown_pages file d) in
      ap length (nth_shown file d p e lt) ∙ shown_page_whole p lt

  pub page_shown : (p : ℕ) → p < total_pages_of d.machine.shape → page_of (shown file d) p ≡ shown_page file d p
  unfolding shown
  page_shown p lt = page_at-joined (shown_pages file d) p [] pages_whole (omega (arith, lt, length-shown_pages file d)) ∙ nth_shown file d p [] lt

  pub ram_shown : length (shown file d).ram ≡ ram_bytes_of d.machine.shape
  unfolding shown
  ram_shown = ram_len d.machine.shape (shown_pages file d) pages_whole (length-shown_pages file d)
