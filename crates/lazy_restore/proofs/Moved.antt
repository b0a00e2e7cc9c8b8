-- An event of the machine that is held, whose page was touched, is one of the machine that is shown.
use Rattle.std.proofs.Common.{◌≡◌, inl, inr, true, ℕ, ◌+◌, ◌<◌, List, [], length, get_or, slice_set, Some, refl, sym, ◌∙◌, ap, subst, arith}
use Rattle.std.specs.List.{slice_get}
use Rattle.std.proofs.lemmas.Bool.{cases_Bool, cases_eq}
use Rattle.std.proofs.lemmas.List.{ext_get_or, get_or-set_same, get_or-set_other, length-set}
use Rattle.ram_block.specs.PageLinks.{is_listed}
use Rattle.ram_block.specs.Shape.{total_pages_of}
use Rattle.rv64i_step.specs.Event.{request_of}
use Rattle.rv64i_step.specs.Vcpu.{VcpuData}
use Rattle.rv64i_step.specs.declared.request.Request.{Request}
use Rattle.flat_machine.specs.Cell.{CellName, PageCell, SerialCell, TimerCell, Page, content_after, gives, page_after}
use Rattle.flat_machine.specs.Laws.{event_cell, IsContentOf}
use Rattle.flat_machine.specs.Machine.{MachineData, page_of}
use Rattle.flat_machine.specs.Next.{after_cell_event, cell_of, next, vcpu_after}
use Rattle.flat_machine.specs.Page.{joined, with_page}
use Rattle.flat_machine.proofs.Cells.{page_within}
use Rattle.flat_machine.proofs.Events.{next_no_fetch, next_touches}
use Rattle.flat_machine.proofs.Frames.{Touching, Alone, event_case, event_cell-is, request_content}
use Rattle.flat_machine.proofs.Pages.{joined-set, page_at-with_page_same, page_at-with_page_other}
use Rattle.flat_machine.proofs.Servable.{machine_serves}
use Rattle.lazy_restore.specs.Lazy.{IsLazy, IsWhole, LazyData, shown, shown_page}
use Rattle.lazy_restore.proofs.Shown.{length-shown_pages, nth_shown, page_new, page_shown, page_touched, pages_whole, shown_pages}

-- with another machine held
abbrev pub holding : LazyData → MachineData → LazyData
holding d m = record { machine = m; peek = d.peek; touched = d.touched }

module _ (file : List ℕ) (d : LazyData) (lazy : IsLazy d) (whole : IsWhole file d) where
  abbrev m : MachineData
  m = d.machine

  -- a page that was touched, written
  module _ (p : ℕ) (bytes : List ℕ) (lt : p < total_pages_of d.machine.shape) (is : is_listed d.touched p ≡ true) (len : length bytes ≡ 4096) where
    abbrev put : LazyData
    put = holding d (record d.machine { ram = with_page d.machine.ram p bytes })

    written : (q : ℕ) → q < total_pages_of d.machine.shape → get_or (slice_set (shown_pages file d) p bytes) q [] ≡ shown_page file put q
    written q below = elim (cases_eq q p) as (λ _. get_or (slice_set (shown_pages file d) p bytes) q [] ≡ shown_page file put q) [
      | inl same ↦
          subst (λ (x : ℕ). get_or (slice_set (shown_pages file d) p bytes) x [] ≡ shown_page file put x) (sym same)
          (get_or-set_same (shown_pages file d) p bytes [] (omega (arith, lt, length-shown_pages file d))
          ∙ sym (page_at-with_page_same d.machine.ram bytes p len (page_within d.machine.shape p (length d.machine.ram) lazy.machine.ram lt))
          ∙ sym (page_touched file put p is))
      | inr other ↦
          get_or-set_other (shown_pages file d) p q bytes [] other ∙ nth_shown file d q [] below
          ∙ elim (cases_Bool (is_listed d.touched q)) as (λ _. shown_page file d q ≡ shown_page file put q) [
            | inl touched ↦
                page_touched file d q touched
                ∙ sym (page_at-with_page_other d.machine.ram bytes p q (λ e. other (sym e)) len (page_within d.machine.shape p (length d.machine.ram) lazy.machine.ram lt))
                ∙ sym (page_touched file put q touched)
            | inr not_yet ↦ page_new file d q not_yet ∙ sym (page_new file put q not_yet)
          ]
    ]

    ram_written : with_page (shown file d).ram p bytes ≡ joined (shown_pages file put)
    unfolding shown
    ram_written =
        let set = slice_set (shown_pages file d) p bytes in
        sym (joined-set (shown_pages file d) p bytes (pages_whole file d lazy whole) (omega (arith, lt, length-shown_pages file d)))
        ∙ ap joined (ext_get_or [] set (shown_pages file put) (length-set (shown_pages file d) p bytes ∙ length-shown_pages file d ∙ sym (length-shown_pages file put)) (λ q h.
        let below : q < total_pages_of d.machine.shape = omega (arith, h, length-set (shown_pages file d) p bytes, length-shown_pages file d) in
        written q below ∙ sym (nth_shown file put q [] below)))

  -- an event that touches a page
  page_event : (k : ℕ) (v : VcpuData) (r : Request) (p : ℕ) → p < total_pages_of d.machine.shape → is_listed d.touched p ≡ true → length (page_after r (page_of d.machine p)) ≡ 4096
      → after_cell_event (shown file d) k v r (PageCell p) ≡ shown file (holding d (after_cell_event d.machine k v r (PageCell p)))
  unfolding shown content_after
  page_event k v r p lt is len =
      let same : page_of (shown file d) p ≡ page_of d.machine p = page_shown file d lazy whole p lt ∙ page_touched file d p is in
      ap (λ (b : List ℕ). record d.machine { ram = with_page (shown file d).ram p (page_after r b); vcpus = slice_set d.machine.vcpus k (vcpu_after d.machine.shape v r (gives r (Page b) d.machine.clock)); clock = d.machine.clock + 1 }) same
      ∙ ap (λ (x : List ℕ). record d.machine { ram = x; vcpus = slice_set d.machine.vcpus k (vcpu_after d.machine.shape v r (gives r (Page (page_of d.machine p)) d.machine.clock)); clock = d.machine.clock + 1 })
      (ram_written p (page_after r (page_of d.machine p)) lt is len)

  -- the content of a page
  page_content : (r : Request) (p : ℕ) → IsContentOf d.machine.shape (PageCell p) (content_after r (Page (page_of d.machine p))) → (p < total_pages_of d.machine.shape) × (length (page_after r (page_of d.machine p)) ≡ 4096)
  unfolding content_after
  page_content r p of = of

  -- an event that touches a cell, which isn't a page that wasn't touched
  cell_event : (k : ℕ) (v : VcpuData) (r : Request) (c : CellName) → slice_get d.machine.vcpus k ≡ Some v → request_of d.machine.shape v ≡ r → cell_of r ≡ Some c
      → ((p : ℕ) → c ≡ PageCell p → is_listed d.touched p ≡ true) → after_cell_event (shown file d) k v r c ≡ shown file (holding d (after_cell_event d.machine k v r c))
  unfolding shown content_after
  cell_event k v r (PageCell p) stood asks touches listed =
      let of = page_content r p (request_content d.machine k v r (PageCell p) (machine_serves d.machine lazy.machine) stood asks touches) in
      page_event k v r p of.0 (listed p refl) of.1
  cell_event k v r SerialCell stood asks touches listed = refl
  cell_event k v r TimerCell stood asks touches listed = refl

  -- each event
  pub event_shows : (k : ℕ) (after : MachineData) → next d.machine k ≡ Some after → ((p : ℕ) → event_cell d.machine k ≡ Some (PageCell p) → is_listed d.touched p ≡ true)
      → next (shown file d) k ≡ Some (shown file (holding d after))
  unfolding shown
  event_shows k after moved listed = elim (event_case d.machine k after moved) as (λ _. next (shown file d) k ≡ Some (shown file (holding d after))) [
    | Touching v r c stood asks touches is ↦
        next_touches (shown file d) k v r c stood asks touches
        ∙ ap (λ (x : MachineData). Some x) (cell_event k v r c stood asks touches (λ p e. listed p (event_cell-is d.machine k v r stood asks ∙ touches ∙ ap (λ (x : CellName). Some x) e)))
        ∙ ap (λ (x : MachineData). Some (shown file (holding d x))) (sym is)
    | Alone v cause stood asks is ↦
        next_no_fetch (shown file d) k v cause stood asks ∙ ap (λ (x : MachineData). Some (shown file (holding d x))) (sym is)
  ]
