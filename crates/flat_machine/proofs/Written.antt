-- An event writes to one page at most: every other page stays.
use Rattle.std.proofs.Common.{◌≡◌, ◌≢◌, ℕ, ◌<◌, List, Some, refl, sym, ◌∙◌, ap}
use Rattle.std.specs.List.{slice_get}
use Rattle.std.proofs.lemmas.Option.{none-some, same_Some}
use Rattle.ram_block.specs.Shape.{total_pages_of}
use Rattle.ram_block.specs.declared.place.Place.{Place}
use Rattle.ram_block.specs.declared.place.Place.TheVariants as places
use Rattle.rv64i_step.specs.Event.{request_of}
use Rattle.rv64i_step.specs.Request.{ram_page, written_page}
use Rattle.rv64i_step.specs.Vcpu.{VcpuData}
use Rattle.rv64i_step.specs.declared.request.Request.{Request}
use Rattle.rv64i_step.specs.declared.request.Request.TheVariants.{Nothing, NoFetch, Fetch, Load, Store, Amo}
use Rattle.flat_machine.specs.Cell.{PageCell, Page, cell_at, content, content_after, page_after}
use Rattle.flat_machine.specs.Laws.{ServesAll, written_page_of_next, event_written_page}
use Rattle.flat_machine.specs.Machine.{MachineData, page_of}
use Rattle.flat_machine.specs.Next.{cell_of, next}
use Rattle.flat_machine.proofs.Cells.{cell_cases}
use Rattle.flat_machine.proofs.Frames.{Touching, Alone, event_case, event_cell-is, next_keeps, cell_event_content, request_content}
use Rattle.std.proofs.Common.{inl, inr}

-- the page that the next event writes is that of its request
pub event_written_page-is : (m : MachineData) (k : ℕ) (v : VcpuData) (r : Request) → slice_get m.vcpus k ≡ Some v → request_of m.shape v ≡ r →
    event_written_page m k ≡ written_page r
unfolding event_written_page
event_written_page-is m k v r stood asks = ap (written_page_of_next m.shape) stood ∙ ap written_page asks

-- a place in this page
place_page : (place : Place) (p : ℕ) → cell_at place ≡ PageCell p → ram_page place ≡ Some p
place_page (places.Ram page off) p is = cc
place_page (places.Serial reg) p is = absurd (cc)
place_page (places.Timer reg) p is = absurd (cc)

-- a request of a page writes it or leaves it
page_kept : (r : Request) (p : ℕ) (bytes : List ℕ) → cell_of r ≡ Some (PageCell p) → written_page r ≢ Some p → page_after r bytes ≡ bytes
unfolding page_after cell_of
page_kept Nothing p bytes is other = refl
page_kept (NoFetch cause) p bytes is other = refl
page_kept (Fetch page off) p bytes is other = refl
page_kept (Load place width) p bytes is other = refl
page_kept (Store place width value) p bytes is other = absurd (other (place_page place p (same_Some (cell_at place) (PageCell p) is)))
page_kept (Amo place width op value) p bytes is other = absurd (other (place_page place p (same_Some (cell_at place) (PageCell p) is)))

-- a page is the same where the content of its cell is
same_page : (m after : MachineData) (p : ℕ) → content after (PageCell p) ≡ content m (PageCell p) → page_of after p ≡ page_of m p
same_page m after p same = cc

-- the law of the page that an event writes
pub other_pages_stay : (m : MachineData) (k : ℕ) (after : MachineData) (p : ℕ) → ServesAll m → next m k ≡ Some after → p < total_pages_of m.shape →
    event_written_page m k ≢ Some p → page_of after p ≡ page_of m p
unfolding content_after cell_of
other_pages_stay m k after p serves moved within other =
    let keeps = next_keeps m k after serves moved in
    elim (event_case m k after moved) as (λ _. page_of after p ≡ page_of m p) [
      | Touching v r c stood asks touches is ↦
          elim (cell_cases c p) as (λ _. page_of after p ≡ page_of m p) [
            | inl here ↦
                (let not_written : written_page r ≢ Some p = λ e. other (event_written_page-is m k v r stood asks ∙ e) in
                let stays : page_after r (page_of m p) ≡ page_of m p = page_kept r p (page_of m p) (touches ∙ ap Some here) not_written in
                let of = request_content m k v r c serves stood asks touches in
                let made : content after c ≡ content_after r (content m c) = ap (λ a. content a c) is ∙ cell_event_content m k v r c serves.ram of in
                let there : content after (PageCell p) ≡ Page (page_after r (page_of m p)) =
                ap (content after) (sym here) ∙ made ∙ ap (λ d. content_after r (content m d)) here in
                same_page m after p (there ∙ ap Page stays))
            | inr elsewhere ↦
                same_page m after p (keeps.cells (PageCell p) (λ e. elsewhere (same_Some c (PageCell p) (sym (event_cell-is m k v r stood asks ∙ touches) ∙ e))))
          ]
      | Alone v cause stood asks is ↦
          same_page m after p (keeps.cells (PageCell p) (λ e. none-some (PageCell p) (sym (event_cell-is m k v (NoFetch cause) stood asks) ∙ e)))
    ]
