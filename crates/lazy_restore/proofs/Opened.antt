-- A file that was opened shows the machine that is loaded of it.
use Rattle.std.proofs.Common.{◌≡◌, ℕ, ◌+◌, ◌*◌, ◌/◌, ◌%◌, ◌<◌, false, List, [], length, get_or, Some, Result, Ok, refl, sym, ◌∙◌, ap, subst, arith}
use Rattle.std.specs.Prelude.{slice_get}
use Rattle.std.proofs.lemmas.List.{ext_get_or}
use Rattle.std.proofs.lemmas.Option.{slice_get-get_or}
use Rattle.ram_block.specs.PageLinks.{is_listed}
use Rattle.ram_block.specs.Shape.{ShapeData, total_pages_of}
use Rattle.mig_stream.specs.Checks.{and_then}
use Rattle.page_bitmap.specs.Bitmap.{BitmapData}
use Rattle.flat_machine.specs.Machine.{IsMachine, MachineData, Rest}
use Rattle.flat_machine.specs.Page.{joined}
use Rattle.file_plan.specs.Plan.{block_places, page_place}
use Rattle.file_plan.specs.Layout.{Lay}
use Rattle.loader.specs.Frame.{FrameData, frame_in}
use Rattle.loader.specs.Loaded.{loaded, machine_of, pages_from}
use Rattle.loader.specs.Piece.{Refuses}
use Rattle.loader.specs.Stands.{HasFrame, IsFrame}
use Rattle.loader.specs.Whole.{AreWhole, IsWhole as IsWholeBlock}
use Rattle.loader.specs.declared.refusal.LoadFault.{LoadFault}
use Rattle.loader.specs.declared.refusal.LoadFault.TheVariants.{Refused, ReadFault, NoMemory}
use Rattle.loader.specs.declared.refusal.Refusal.{Refusal}
use Rattle.loader.proofs.Lays.{lays}
use Rattle.loader.proofs.RamPages.{bitmap_told, count_from, nth_from, uncut_page}
use Rattle.loader.proofs.Whole.{frame_whole, nth_whole}
use Rattle.page_peek.specs.Peeked.{IsCutPage, PeekData, bit_of, no_bits, page_by, page_in}
use Rattle.page_peek.proofs.PagesOf.{numbered}
use Rattle.lazy_restore.specs.Answers.{IsHeldOf, ShowsLoaded}
use Rattle.lazy_restore.specs.Lazy.{IsWhole, LazyData, shown}
use Rattle.lazy_restore.proofs.Shown.{length-shown_pages, nth_shown, page_new, ram_shown, shown_pages}

-- what a loader refuses is refused
pub refuses : (file : List ℕ) (fault : LoadFault) → Refuses (frame_in file) fault → Refuses (loaded file) fault
unfolding loaded
refuses file (Refused refusal) is = ap (λ (r : Result FrameData Refusal). and_then r (λ frame. Ok (machine_of file frame))) is
refuses file ReadFault is = tt
refuses file NoMemory is = tt

module _ (file : List ℕ) (frame : FrameData) (d : LazyData) (found : frame_in file ≡ Ok frame) (has : HasFrame file frame) (limits : IsFrame frame) (held : IsHeldOf frame d) where
  shape_is : d.machine.shape ≡ frame.shape
  shape_is = ap (λ (m : MachineData). m.shape) held.machine

  blocks_whole : AreWhole file frame.shape.pages 0 frame.bits
  blocks_whole = frame_whole file frame found

  abbrev q : PeekData
  q = record { shape = frame.shape; bits = frame.bits }

  abbrev total : ℕ
  total = total_pages_of frame.shape

  abbrev bitmap : ℕ → BitmapData
  bitmap p = get_or frame.bits (p / frame.shape.pages) no_bits

  there : (p : ℕ) → p < total → slice_get frame.bits (p / frame.shape.pages) ≡ Some (bitmap p)
  there p lt = slice_get-get_or frame.bits (p / frame.shape.pages) no_bits (omega (arith, (numbered frame.shape p lt).block, limits.blocks))

  block_whole : (p : ℕ) → p < total → IsWholeBlock file frame.shape.pages (p / frame.shape.pages) (bitmap p)
  block_whole p lt =
      let same : 0 + p / frame.shape.pages ≡ p / frame.shape.pages = omega arith in
      subst (λ (k : ℕ). IsWholeBlock file frame.shape.pages k (bitmap p)) same (nth_whole file frame.shape.pages 0 (p / frame.shape.pages) frame.bits (bitmap p) blocks_whole (there p lt))

  -- the bit of a page
  bit_is : (p : ℕ) → bit_of q p ≡ get_or (bitmap p).bits (p % frame.shape.pages) false
  unfolding bit_of
  bit_is p = refl

  -- no page is cut
  uncut : (p : ℕ) → p < total → ¬ IsCutPage file q p
  uncut p lt cut =
      let is = numbered frame.shape p lt in
      let whole = block_whole p lt in
      let count = (bitmap_told file frame.shape.pages (block_places frame.shape.pages (p / frame.shape.pages)).bitmap (bitmap p) whole.bits).0 in
      let long = uncut_page (length file) (block_places frame.shape.pages (p / frame.shape.pages)).pages (p % frame.shape.pages) (bitmap p).bits whole.uncut (omega (arith, count, is.page)) (sym (bit_is p) ∙ cut.saved) in
      absurd (omega (arith, long, cut.cut))

  abbrev pages : List (List ℕ)
  pages = pages_from file frame.shape.pages 0 frame.bits

  -- a page of the file
  page_is : (p : ℕ) → p < total → get_or pages p [] ≡ page_in file q p
  page_is p lt =
      let is = numbered frame.shape p lt in
      let same : 0 + p / frame.shape.pages ≡ p / frame.shape.pages = omega arith in
      ap (λ (k : ℕ). get_or pages k []) (sym is.back)
      ∙ nth_from file frame.shape.pages 0 (p / frame.shape.pages) (p % frame.shape.pages) frame.bits (bitmap p) [] blocks_whole (there p lt) is.page
      ∙ ap (λ (k : ℕ). page_by file ((block_places frame.shape.pages k).pages + 4096 * (p % frame.shape.pages)) (get_or (bitmap p).bits (p % frame.shape.pages) false)) same
      ∙ ap (page_by file (page_place frame.shape.pages p)) (sym (bit_is p))

  pub whole : IsWhole file d
  whole = λ p lt cut. uncut p (subst (λ (s : ShapeData). p < total_pages_of s) shape_is lt) (subst (λ (x : PeekData). IsCutPage file x p) held.peek cut)

  -- the machine that is shown is the one that is loaded
  pages_are : shown_pages file d ≡ pages
  pages_are =
      let count : length pages ≡ length frame.bits * frame.shape.pages = count_from file frame.shape.pages 0 frame.bits blocks_whole in
      let blocks : length frame.bits * frame.shape.pages ≡ total = ap (λ (n : ℕ). n * frame.shape.pages) limits.blocks in
      let all : total_pages_of d.machine.shape ≡ total = ap total_pages_of shape_is in
      ext_get_or [] (shown_pages file d) pages (length-shown_pages file d ∙ all ∙ sym blocks ∙ sym count) (λ p h.
      let here : p < total_pages_of d.machine.shape = omega (arith, h, length-shown_pages file d) in
      let new : is_listed d.touched p ≡ false = ap (λ (l : List ℕ). is_listed l p) held.untouched in
      nth_shown file d p [] here ∙ page_new file d p new ∙ ap (λ (x : PeekData). page_in file x p) held.peek ∙ sym (page_is p (omega (arith, here, all))))

  machine_is : shown file d ≡ machine_of file frame
  unfolding shown
  machine_is =
      ap (λ (m : MachineData). record m { ram = joined (shown_pages file d) }) held.machine
      ∙ ap (λ (l : List (List ℕ)). record (machine_of file frame) { ram = joined l }) pages_are

  within : IsMachine (shown file d)
  unfolding shown
  within =
      let m = held.lazy.machine in
      record { shape = m.shape; ram = ram_shown file d held.lazy whole; vcpus = m.vcpus; each = m.each; servable = m.servable; serial = m.serial; cmp = m.cmp; clock = m.clock }

  rests : Rest (shown file d)
  unfolding shown
  rests = record { none_pending = held.rest.none_pending; steps = held.rest.steps; clock = held.rest.clock }

  loads : loaded file ≡ Ok (machine_of file frame)
  unfolding loaded
  loads = ap (λ (r : Result FrameData Refusal). and_then r (λ f. Ok (machine_of file f))) found

  pub shows_loaded : ShowsLoaded file d
  shows_loaded = record {
    loads = loads ∙ ap (λ (m : MachineData). Ok m) (sym machine_is);
    layout = subst (Lay file) (sym machine_is) (lays file frame has limits blocks_whole (subst IsMachine machine_is within) (subst Rest machine_is rests));
    whole = whole;
  }
