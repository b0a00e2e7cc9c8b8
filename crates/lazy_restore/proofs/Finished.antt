-- All pages are there: the machine is the one that is shown.
use Rattle.std.proofs.Common.{◌≡◌, ℕ, ◌<◌, List, [], length, get_or, Option, sym, ◌∙◌, ap, subst, arith}
use Rattle.std.specs.Prelude.{if◌then◌else◌}
use Rattle.std.proofs.lemmas.List.{ext_get_or}
use Rattle.medium.proofs.Told.{when_told}
use Rattle.ram_block.specs.PageLinks.{is_listed}
use Rattle.ram_block.specs.Shape.{ShapeData, total_pages_of}
use Rattle.flat_machine.specs.Machine.{IsMachine, MachineData, page_of}
use Rattle.flat_machine.specs.Page.{joined, page_at}
use Rattle.flat_machine.proofs.Pages.{AreWhole, page_at-joined}
use Rattle.page_peek.specs.Peeked.{page_in}
use Rattle.lazy_restore.specs.Answers.{Finishes}
use Rattle.lazy_restore.specs.Lazy.{IsLazy, LazyData, shown, shown_page}
use Rattle.lazy_restore.specs.Rest.{ReadsRest, rest_page}
use Rattle.lazy_restore.proofs.Shown.{length-shown_pages, nth_shown, shown_pages}
use Rattle.lazy_restore.proofs.Stepped.{told_read}

module _ (d : LazyData) (lazy : IsLazy d) (old new : List (List ℕ)) (held : joined old ≡ d.machine.ram) (whole : AreWhole old)
    (old_count : length old ≡ total_pages_of d.machine.shape) (new_count : length new ≡ total_pages_of d.machine.shape) where
  -- a page that was read, or that was touched
  rest_is : (file : List ℕ) (p : ℕ) → p < total_pages_of d.machine.shape → rest_page file d.peek d.touched old p ≡ shown_page file d p
  rest_is file p lt =
      let page : get_or old p [] ≡ page_of d.machine p = sym (page_at-joined old p [] whole (omega (arith, lt, old_count))) ∙ ap (λ (r : List ℕ). page_at r p) held in
      ap (λ (x : List ℕ). if is_listed d.touched p then x else page_in file d.peek p) page

  pages_are : (file : List ℕ) → ((p : ℕ) → p < total_pages_of d.peek.shape → get_or new p [] ≡ rest_page file d.peek d.touched old p) → new ≡ shown_pages file d
  pages_are file read =
      ext_get_or [] new (shown_pages file d) (new_count ∙ sym (length-shown_pages file d)) (λ p h.
      let lt : p < total_pages_of d.machine.shape = omega (arith, h, new_count) in
      read p (subst (λ (s : ShapeData). p < total_pages_of s) (sym lazy.shape) lt) ∙ rest_is file p lt ∙ sym (nth_shown file d p [] lt))

  ram_is : (file : List ℕ) → new ≡ shown_pages file d → record d.machine { ram = joined new } ≡ shown file d
  unfolding shown
  ram_is file same = ap (λ (pages : List (List ℕ)). record d.machine { ram = joined pages }) same

  pub finished : (told : Option (List ℕ)) (m : MachineData) → m ≡ record d.machine { ram = joined new } → ReadsRest told d.peek d.touched old new → IsMachine m → Finishes told d m
  finished told m same read limits = record {
    shown = when_told told (λ file. m ≡ shown file d) (λ file is.
        same ∙ ram_is file (pages_are file (told_read (λ (f : List ℕ). (p : ℕ) → p < total_pages_of d.peek.shape → get_or new p [] ≡ rest_page f d.peek d.touched old p) told file is read.pages)));
    uncut = read.uncut;
    held = same ∙ ap (λ (r : List ℕ). record d.machine { ram = r }) (sym (ap (λ (x : MachineData). x.ram) same));
    limits = limits;
  }
