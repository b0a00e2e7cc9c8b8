-- What a turn keeps of a save, where a page is left.
use Rattle.std.proofs.Common.{◌≡◌, ◌≢◌, inl, inr, ◌⊎◌, ℕ, ◌+◌, ◌/◌, ◌<◌, Bool, true, false, not, ◌&&◌, ◌||◌, List, [], ◌∷◌, length, Option, Some, None, eqb, eq-eqb, refl, sym, ap, ◌∙◌, subst, arith}
use Rattle.std.specs.Prelude.{slice_get, slice_set, option_map, if◌then◌else◌, IfSome}
use Rattle.std.specs.List.{range_with_len}
use Rattle.std.proofs.lemmas.Bool.{cases_Bool, eqb-true, true≢false}
use Rattle.std.proofs.lemmas.List.FromFn.{get_or-range_with_len, length-range_with_len}
use Rattle.std.proofs.lemmas.Option.{same_Some, slice_get-get_or, slice_get-map, slice_get_within}
use Rattle.ram_block.specs.PageLinks.{is_listed}
use Rattle.ram_block.specs.Shape.{ShapeData, total_pages_of}
use Rattle.ram_block.specs.declared.page_buf.TheConstants.{PAGE}
use Rattle.medium.specs.Bytes.{written}
use Rattle.medium.specs.Members.{file_state}
use Rattle.medium.specs.declared.readable.Readable as readable
use Rattle.medium.proofs.Runs.{goes_on, leaves_weaker, started}
use Rattle.medium.proofs.Told.{when_told}
use Rattle.flat_machine.specs.Machine.{MachineData, page_of}
use Rattle.flat_machine.proofs.Events.{slice_get-set_other, slice_get-set_same}
use Rattle.flat_machine.proofs.Inside.{length-page_of}
use Rattle.page_sweep.specs.Sweep.{without}
use Rattle.page_sweep.proofs.Removed.{absent-without}
use Rattle.page_cell.specs.Plant.{PlantState, KeepsPlant, CopiesOut, pages_of}
use Rattle.page_cell.specs.declared.plant.Pick.{Pick}
use Rattle.page_cell.specs.declared.plant.Pick.TheVariants as picks
use Rattle.file_plan.specs.Layout.{StandsAt, file_of, is_saved}
use Rattle.file_plan.specs.Plan.{page_place}
use Rattle.file_plan.specs.UnderWay.{HasItsPieces, IsLaidSoFar}
use Rattle.file_plan.proofs.Records.{record_past_front}
use Rattle.bg_saver.specs.Saver.{SaverData, IsSaver, total_of}
use Rattle.bg_saver.specs.Save.{IsAmong, IsOfSave, IsUnderWay, MayRelease, Saves, ranges_from, ranges_of}
use Rattle.bg_saver.specs.Turn.{Course, Takes, LeavesCourse, LeavesOnePick, LeavesPicks, LeavesTake, LeavesTaken, LeavesTurn, LeavesWait, MayBeLeft, WritesUnless, after_save, course_by, course_of}
use Rattle.bg_saver.specs.Writes.{IsRefused, IsShut, IsShutNow, LeavesSince, LeavesWrite, is_zeros}
use Rattle.bg_saver.specs.declared.progress.PageInHand.{PageInHand}
use Rattle.bg_saver.specs.declared.save_end.SaveEnd.{SaveEnd}
use Rattle.bg_saver.specs.declared.save_end.SaveEnd.TheVariants as ends
use Rattle.bg_saver.specs.declared.turn.Turn.{Turn}
use Rattle.bg_saver.specs.declared.turn.Turn.TheVariants as turns
use Rattle.bg_saver.proofs.Chains.{write_shut}
use Rattle.bg_saver.proofs.Ranges.{page_more}
use Rattle.bg_saver.proofs.Torn.{shut_refused}

-- ---- Lists

pub differ : (q p : ℕ) → eqb q p ≡ false → q ≢ p
differ q p other is = true≢false (sym (eq-eqb q p is) ∙ other)

-- the other pages are left as before
pub listed_other : (q : List ℕ) (p x : ℕ) → eqb x p ≡ false → is_listed (without q p) x ≡ is_listed q x
listed_other [] p x other = refl
listed_other (a ∷ q) p x other = elim (cases_Bool (eqb p a)) [
  | inl same ↦
      let apart : eqb x a ≡ false = subst (λ y. eqb x y ≡ false) (eqb-true p a same) other in
      rw (same, apart) (listed_other q p x other)
  | inr differs ↦ rw differs (ap (λ b. eqb x a || b) (listed_other q p x other))
]

set_here : (flags : List Bool) (p q : ℕ) → p < length flags → eqb q p ≡ true → slice_get (slice_set flags p true) q ≡ Some true
set_here flags p q within same = subst (λ x. slice_get (slice_set flags p true) x ≡ Some true) (sym (eqb-true q p same)) (slice_get-set_same flags p true within)

set_grows : (flags : List Bool) (p q : ℕ) → p < length flags → slice_get flags q ≡ Some true → slice_get (slice_set flags p true) q ≡ Some true
set_grows flags p q within is = elim (cases_Bool (eqb q p)) [
  | inl same ↦ set_here flags p q within same
  | inr other ↦ slice_get-set_other flags p q true (differ q p other) ∙ is
]

-- a page of the machine at its place in the list
page_is : (i : MachineData) (p : ℕ) (bytes : List ℕ) → p < total_pages_of i.shape → slice_get (pages_of i) p ≡ Some bytes → bytes ≡ page_of i p
unfolding pages_of
page_is i p bytes lt is =
    let total = total_pages_of i.shape in
    let within : p < length (range_with_len 0 total) = omega (arith, lt, length-range_with_len 0 total) in
    let index : 0 + p ≡ p = omega arith in
    let at : slice_get (range_with_len 0 total) p ≡ Some p = slice_get-get_or (range_with_len 0 total) p 0 within ∙ ap Some (get_or-range_with_len 0 total p 0 lt ∙ index) in
    same_Some bytes (page_of i p) (sym is ∙ slice_get-map (page_of i) (range_with_len 0 total) p ∙ ap (option_map (page_of i)) at)

abbrev taken_in : Course → PageInHand
taken_in (Takes taken) = taken
taken_in _ = record { page = 0; picked = false }

module _ {R M : Type 0} (g : readable.Ghosts M) (d : SaverData) (same_plant : Type 0) (plant now : PlantState R) (old new : M) (answer : Turn) (next : SaverData) (first : ℕ) (limits : IsSaver d)
    (runs : d.end ≡ None) (of_save : IsOfSave d plant) (flags : (length plant.writable ≡ plant.total) × (length plant.picked ≡ plant.total)) (some : slice_get d.left 0 ≡ Some first) where
  -- ---- The course

  abbrev LeftTurn : Type 0
  LeftTurn = LeavesWait d (new ≡ old) plant now answer next ⊎ ((taken : PageInHand) × (course_of d now.last ≡ Takes taken) × LeavesTake d (new ≡ old) plant now (file_state g old) (file_state g new) taken answer next)

  left_by : (end : Option SaveEnd) (left : List ℕ) (hand : Option PageInHand) (last : Option Pick) → end ≡ None → slice_get left 0 ≡ Some first
      → LeavesCourse g d same_plant plant now old new (course_by end left hand last) answer next
      → LeavesWait d (new ≡ old) plant now answer next ⊎ ((taken : PageInHand) × (course_by end left hand last ≡ Takes taken) × LeavesTake d (new ≡ old) plant now (file_state g old) (file_state g new) taken answer next)
  left_by (Some end) left hand last goes is leaves = absurd (cc goes)
  left_by None [] hand last goes is leaves = absurd (cc is)
  left_by None (a ∷ left) (Some hand) last goes is leaves = inr (hand, refl, leaves)
  left_by None (a ∷ left) None (Some (picks.Fault p)) goes is leaves = inr (record { page = p; picked = true }, refl, leaves)
  left_by None (a ∷ left) None (Some picks.Empty) goes is leaves = inr (record { page = a; picked = false }, refl, leaves)
  left_by None (a ∷ left) None (Some picks.Busy) goes is leaves = inl leaves
  left_by None (a ∷ left) None None goes is leaves = inl leaves

  pub left_turn : LeavesTurn g d same_plant plant now old new answer next → LeftTurn
  left_turn leaves = left_by d.end d.left d.hand now.last runs some leaves

  -- ---- The picks

  picked_now : (pick : Pick) (q : ℕ) → LeavesOnePick plant now pick → slice_get plant.picked q ≡ Some true → slice_get now.picked q ≡ Some true
  picked_now (picks.Fault p) q one is = ap (λ (l : List Bool). slice_get l q) one.picked ∙ set_grows plant.picked p q (omega (arith, one.cause, flags.1)) is
  picked_now picks.Empty q one is = ap (λ (l : List Bool). slice_get l q) one.picked ∙ is
  picked_now picks.Busy q one is = ap (λ (l : List Bool). slice_get l q) one.picked ∙ is

  picks_grow : (hand : Option PageInHand) → LeavesPicks hand plant now → (q : ℕ) → slice_get plant.picked q ≡ Some true → slice_get now.picked q ≡ Some true
  picks_grow (Some hand) none q is = ap (λ (l : List Bool). slice_get l q) none.picked ∙ is
  picks_grow None one q is = picked_now one.0 q one.1 is

  -- a page that a pick gave has its flag
  picked_page : (p : ℕ) (pick : Pick) → pick ≡ picks.Fault p → LeavesOnePick plant now pick → slice_get now.picked p ≡ Some true
  picked_page p (picks.Fault q) is one =
      let same : q ≡ p = cc is in
      subst (λ x. slice_get now.picked x ≡ Some true) same (ap (λ (l : List Bool). slice_get l q) one.picked ∙ slice_get-set_same plant.picked q true (omega (arith, one.cause, flags.1)))
  picked_page p picks.Empty is one = absurd (cc is)
  picked_page p picks.Busy is one = absurd (cc is)

  among_by : (end : Option SaveEnd) (left : List ℕ) (hand : Option PageInHand) (last : Option Pick) (taken : PageInHand) → last ≡ now.last → end ≡ None → slice_get left 0 ≡ Some first
      → course_by end left hand last ≡ Takes taken → LeavesPicks hand plant now → IsAmong plant.picked hand → taken.picked ≡ true → slice_get now.picked taken.page ≡ Some true
  among_by (Some end) left hand last taken same goes is course one among picked = absurd (cc goes)
  among_by None [] hand last taken same goes is course one among picked = absurd (cc is)
  among_by None (a ∷ left) (Some hand) last taken same goes is course none among picked =
      let page : hand ≡ taken = ap taken_in course in
      let flag : hand.picked ≡ true = ap (λ (t : PageInHand). t.picked) page ∙ picked in
      ap (λ (l : List Bool). slice_get l taken.page) none.picked ∙ subst (λ (t : PageInHand). slice_get plant.picked t.page ≡ Some true) page (among flag)
  among_by None (a ∷ left) None (Some (picks.Fault p)) taken same goes is course one among picked =
      let page : record { page = p; picked = true } ≡ taken = ap taken_in course in
      let pick : one.0 ≡ picks.Fault p = same_Some one.0 (picks.Fault p) (sym one.1.last ∙ sym same) in
      subst (λ (t : PageInHand). slice_get now.picked t.page ≡ Some true) page (picked_page p one.0 pick one.1)
  among_by None (a ∷ left) None (Some picks.Empty) taken same goes is course one among picked =
      let page : false ≡ taken.picked = ap (λ (c : Course). (taken_in c).picked) course in absurd (true≢false (sym picked ∙ sym page))
  among_by None (a ∷ left) None (Some picks.Busy) taken same goes is course one among picked = absurd (cc course)
  among_by None (a ∷ left) None None taken same goes is course one among picked = absurd (cc course)

  -- ---- The page that was copied

  module _ (p : ℕ) (bytes : List ℕ) (copied : CopiesOut plant now p bytes) where
    within : p < length plant.writable
    within = slice_get_within plant.writable p false copied.was

    small : p < total_of d
    small = omega (arith, within, flags.0, of_save.total)

    listed : is_listed d.left p ≡ true
    listed = elim (cases_Bool (is_listed d.left p)) [
      | inl here ↦ here
      | inr out ↦
          let flag : false ≡ not (is_listed d.left p) = same_Some false (not (is_listed d.left p)) (sym copied.was ∙ of_save.writable runs p small) in
          absurd (true≢false (sym (flag ∙ ap not out)))
    ]

    writable_now : (q : ℕ) → q < total_of d → slice_get now.writable q ≡ Some (not (is_listed (without d.left p) q))
    writable_now q lt = ap (λ (l : List Bool). slice_get l q) copied.writable ∙ (elim (cases_Bool (eqb q p)) [
      | inl same ↦
          set_here plant.writable p q within same
          ∙ ap (λ b. Some (not b)) (sym (ap (is_listed (without d.left p)) (eqb-true q p same) ∙ absent-without d.left p))
      | inr other ↦
          slice_get-set_other plant.writable p q true (differ q p other) ∙ of_save.writable runs q lt
          ∙ ap (λ b. Some (not b)) (sym (listed_other d.left p q other))
    ])

    module _ (i : MachineData) (saves : Saves d i) (stands : plant.stands (pages_of i)) where
      here : p < total_pages_of i.shape
      here = subst (λ (s : ShapeData). p < total_pages_of s) saves.shape small

      page : bytes ≡ page_of i p
      page = page_is i p bytes here (copied.bytes (pages_of i) stands)

      whole : length bytes ≡ PAGE
      whole = ap length page ∙ length-page_of i p saves.machine.ram here

      saved : is_saved i p ≡ not (is_zeros bytes)
      saved = ap (λ (l : List ℕ). not (is_zeros l)) (sym page)

      bit_here : (zeros : Bool) → is_zeros bytes ≡ zeros → slice_get (if zeros then d.bits else slice_set d.bits p true) p ≡ Some (is_saved i p)
      bit_here true is =
          saves.bits p small ∙ ap (λ b. Some (not b && is_saved i p)) listed ∙ ap Some (sym (saved ∙ ap not is))
      bit_here false is = slice_get-set_same d.bits p true (omega (arith, small, limits.bits)) ∙ ap Some (sym (saved ∙ ap not is))

      bit_other : (zeros : Bool) (q : ℕ) → eqb q p ≡ false → slice_get (if zeros then d.bits else slice_set d.bits p true) q ≡ slice_get d.bits q
      bit_other true q other = refl
      bit_other false q other = slice_get-set_other d.bits p q true (differ q p other)

      bits_now : (zeros : Bool) → is_zeros bytes ≡ zeros → (q : ℕ) → q < total_of d
          → slice_get (if zeros then d.bits else slice_set d.bits p true) q ≡ Some (not (is_listed (without d.left p) q) && is_saved i q)
      bits_now zeros is q lt = elim (cases_Bool (eqb q p)) [
        | inl same ↦
            subst (λ x. slice_get (if zeros then d.bits else slice_set d.bits p true) x ≡ Some (not (is_listed (without d.left p) x) && is_saved i x)) (sym (eqb-true q p same))
            (bit_here zeros is ∙ ap (λ b. Some (not b && is_saved i p)) (sym (absent-without d.left p)))
        | inr other ↦ bit_other zeros q other ∙ saves.bits q lt ∙ ap (λ b. Some (not b && is_saved i q)) (sym (listed_other d.left p q other))
      ]

  -- ---- What is kept, by the answer

  flags_now : (taken : PageInHand) (flag : Bool) (q : ℕ) → taken.picked ≡ flag → slice_get now.picked taken.page ≡ Some true ⊎ (flag ≡ false) → LeavesPicks d.hand plant now
      → slice_get (if flag then slice_set d.faulted taken.page true else d.faulted) q ≡ Some true → slice_get now.picked q ≡ Some true
  flags_now taken false q is given one flag = picks_grow d.hand one q (of_save.picked q flag)
  flags_now taken true q is (inr none) one flag = absurd (true≢false none)
  flags_now taken true q is (inl given) one flag = elim (cases_Bool (eqb q taken.page)) [
    | inl same ↦ subst (λ x. slice_get now.picked x ≡ Some true) (sym (eqb-true q taken.page same)) given
    | inr other ↦ picks_grow d.hand one q (of_save.picked q (sym (slice_get-set_other d.faulted taken.page q true (differ q taken.page other)) ∙ flag))
  ]

  page_flag : (taken : PageInHand) (flag : Bool) → taken.picked ≡ flag → course_of d now.last ≡ Takes taken → LeavesPicks d.hand plant now → slice_get now.picked taken.page ≡ Some true ⊎ (flag ≡ false)
  page_flag taken true is course one = inl (among_by d.end d.left d.hand now.last taken refl runs some course one of_save.hand is)
  page_flag taken false is course one = inr refl

  of_wait : LeavesWait d (new ≡ old) plant now answer next → IsOfSave next now
  of_wait h = subst (λ (s : SaverData). IsOfSave s now) (sym h.saver) (record {
    fits = h.keeps.fits;
    total = h.keeps.total ∙ of_save.total;
    writable = λ goes q lt. ap (λ (l : List Bool). slice_get l q) h.writable ∙ of_save.writable goes q lt;
    picked = λ q flag. ap (λ (l : List Bool). slice_get l q) h.pick.picked ∙ of_save.picked q flag;
    hand = subst (λ (l : List Bool). IsAmong l d.hand) (sym h.pick.picked) of_save.hand;
  })

  of_taken : (said : Turn) (taken : PageInHand) → course_of d now.last ≡ Takes taken → KeepsPlant plant now → LeavesPicks d.hand plant now
      → LeavesTaken d (new ≡ old) plant now (file_state g old) (file_state g new) taken said next → IsOfSave next now
  of_taken turns.Again taken course keeps one h = subst (λ (s : SaverData). IsOfSave s now) (sym h.saver) (record {
    fits = keeps.fits;
    total = keeps.total ∙ of_save.total;
    writable = λ goes q lt. ap (λ (l : List Bool). slice_get l q) h.writable ∙ of_save.writable goes q lt;
    picked = λ q flag. picks_grow d.hand one q (of_save.picked q flag);
    hand = λ picked. among_by d.end d.left d.hand now.last taken refl runs some course one of_save.hand picked;
  })
  of_taken (turns.Skipped p) taken course keeps one (is, h) = subst (λ (s : SaverData). IsOfSave s now) (sym h.saver) (record {
    fits = keeps.fits;
    total = keeps.total ∙ of_save.total;
    writable = λ goes q lt. ap (λ (l : List Bool). slice_get l q) h.writable ∙ of_save.writable goes q lt;
    picked = λ q flag. picks_grow d.hand one q (of_save.picked q flag);
    hand = tt;
  })
  of_taken (turns.Saved p) taken course keeps one (is, (bytes, h)) = subst (λ (s : SaverData). IsOfSave s now) (sym h.saver) (record {
    fits = keeps.fits;
    total = keeps.total ∙ of_save.total;
    writable = λ goes q lt. writable_now taken.page bytes h.copied q lt;
    picked = λ q flag. flags_now taken taken.picked q refl (page_flag taken taken.picked refl course one) one flag;
    hand = tt;
  })
  of_taken turns.Failed taken course keeps one (bytes, h) = subst (λ (s : SaverData). IsOfSave s now) (sym h.saver) (record {
    fits = keeps.fits;
    total = keeps.total ∙ of_save.total;
    writable = λ goes. absurd (cc goes);
    picked = λ q flag. picks_grow d.hand one q (of_save.picked q flag);
    hand = tt;
  })
  of_taken turns.Complete taken course keeps one h = absurd h

  pub left_of_save : LeavesTurn g d same_plant plant now old new answer next → IsOfSave next now
  left_of_save leaves = elim (left_turn leaves) [
    | inl wait ↦ of_wait wait
    | inr take ↦ of_taken answer take.0 take.1 take.2.keeps take.2.picks take.2.taken
  ]

  -- ---- The release that a failure leaves

  end_stays : (t : SaverData) → next ≡ t → t.end ≡ None → next.end ≡ Some ends.Failed → ⊥
  end_stays t is goes failed = let both : None ≡ Some ends.Failed = sym goes ∙ sym (ap (λ (s : SaverData). s.end) is) ∙ failed in cc both

  release_taken : (said : Turn) (taken : PageInHand) → KeepsPlant plant now → LeavesTaken d (new ≡ old) plant now (file_state g old) (file_state g new) taken said next → next.end ≡ Some ends.Failed → MayRelease next now
  release_taken turns.Again taken keeps h failed = absurd (end_stays (record d { hand = Some taken }) h.saver runs failed)
  release_taken (turns.Skipped p) taken keeps (is, h) failed = absurd (end_stays (record d { hand = None }) h.saver runs failed)
  release_taken (turns.Saved p) taken keeps (is, (bytes, h)) failed = absurd (end_stays (after_save d taken (is_zeros bytes)) h.saver runs failed)
  release_taken turns.Failed taken keeps (bytes, h) failed = subst (λ (s : SaverData). MayRelease s now) (sym h.saver) (record {
    end = refl;
    fits = keeps.fits;
    total = keeps.total ∙ of_save.total;
    writable = λ q lt out. writable_now taken.page bytes h.copied q lt ∙ ap (λ b. Some (not b)) out;
  })
  release_taken turns.Complete taken keeps h failed = absurd h

  pub left_may_release : LeavesTurn g d same_plant plant now old new answer next → next.end ≡ Some ends.Failed → MayRelease next now
  left_may_release leaves failed = elim (left_turn leaves) [
    | inl wait ↦ absurd (end_stays d wait.saver runs failed)
    | inr take ↦ release_taken answer take.0 take.2.keeps take.2.taken failed
  ]

  -- ---- The machine that is saved

  module _ (i : MachineData) (saves : Saves d i) (stands : plant.stands (pages_of i)) where
    same_saves : (hand : Option PageInHand) → Saves (record d { hand = hand }) i
    same_saves hand = record { machine = saves.machine; rest = saves.rest; shape = saves.shape; devices = saves.devices; bits = saves.bits }

    save_saves : (taken : PageInHand) (bytes : List ℕ) → CopiesOut plant now taken.page bytes → Saves (after_save d taken (is_zeros bytes)) i
    save_saves taken bytes copied =
        record { machine = saves.machine; rest = saves.rest; shape = saves.shape; devices = saves.devices; bits = bits_now taken.page bytes copied i saves stands (is_zeros bytes) refl }

    saves_taken : (said : Turn) (taken : PageInHand) → LeavesTaken d (new ≡ old) plant now (file_state g old) (file_state g new) taken said next → Saves next i
    saves_taken turns.Again taken h = subst (λ (s : SaverData). Saves s i) (sym h.saver) (same_saves (Some taken))
    saves_taken (turns.Skipped p) taken (is, h) = subst (λ (s : SaverData). Saves s i) (sym h.saver) (same_saves None)
    saves_taken (turns.Saved p) taken (is, (bytes, h)) = subst (λ (s : SaverData). Saves s i) (sym h.saver) (save_saves taken bytes h.copied)
    saves_taken turns.Failed taken (bytes, h) = subst (λ (s : SaverData). Saves s i) (sym h.saver) (record {
      machine = saves.machine;
      rest = saves.rest;
      shape = saves.shape;
      devices = saves.devices;
      bits = bits_now taken.page bytes h.copied i saves stands false h.some;
    })
    saves_taken turns.Complete taken h = absurd h

    pub left_saves : LeavesTurn g d same_plant plant now old new answer next → Saves next i
    left_saves leaves = elim (left_turn leaves) [
      | inl wait ↦ subst (λ (s : SaverData). Saves s i) (sym wait.saver) saves
      | inr take ↦ saves_taken answer take.0 take.2.taken
    ]

  -- ---- The file under way

  module _ (i : MachineData) (way : IsUnderWay d i plant (file_state g old)) (pieces : HasItsPieces (file_of i) i) where
    some_place : (p : ℕ) → 0 < page_place d.shape.pages p
    some_place p = omega (arith, record_past_front d.shape.pages (p / d.shape.pages))

    same_file_way : (t : SaverData) → new ≡ old → t.end ≡ None → ranges_of t ≡ ranges_of d → Saves t i → now.stands (pages_of i) → IsUnderWay t i now (file_state g new)
    same_file_way t same runs_on ranges saves stands = record {
      runs = runs_on;
      saves = saves;
      stands = stands;
      told = subst (λ m. IfSome (file_state g m).told (λ bytes. IsLaidSoFar bytes i (ranges_of t))) (sym same)
          (subst (λ (r : List (ℕ × ℕ)). IfSome (file_state g old).told (λ bytes. IsLaidSoFar bytes i r)) (sym ranges) way.told);
      shut = subst (λ m. IfSome (file_state g m).told (λ bytes. IsShutNow (file_state g m))) (sym same) way.shut;
    }

    laid_now : (bytes : List ℕ) → (file_state g old).told ≡ Some bytes → IsLaidSoFar bytes i (ranges_of d)
    laid_now bytes is = subst (λ (o : Option (List ℕ)). IfSome o (λ b. IsLaidSoFar b i (ranges_of d))) is way.told

    shut_now : (bytes : List ℕ) → (file_state g old).told ≡ Some bytes → IsShutNow (file_state g old)
    shut_now bytes is = subst (λ (o : Option (List ℕ)). IfSome o (λ b. IsShutNow (file_state g old))) is way.shut

    -- by whether the file tells its bytes
    told_cases : (o : Option (List ℕ)) → (o ≡ None) ⊎ ((bytes : List ℕ) × (o ≡ Some bytes))
    told_cases None = inl refl
    told_cases (Some bytes) = inr (bytes, refl)

    module _ (taken : PageInHand) (bytes : List ℕ) (copied : CopiesOut plant now taken.page bytes) (keeps : KeepsPlant plant now) where
      saved_now : Saves (after_save d taken (is_zeros bytes)) i
      saved_now = save_saves i way.saves way.stands taken bytes copied

      ranges_now : (zeros : Bool) → is_zeros bytes ≡ zeros → ranges_of (after_save d taken (is_zeros bytes)) ≡ ranges_from d.shape.pages 0 (if zeros then d.bits else slice_set d.bits taken.page true)
      ranges_now zeros is = ap (λ z. ranges_from d.shape.pages 0 (if z then d.bits else slice_set d.bits taken.page true)) is

      page_stands : StandsAt (file_of i) (page_place d.shape.pages taken.page) bytes
      page_stands =
          subst (λ (s : ShapeData). StandsAt (file_of i) (page_place s.pages taken.page) bytes) (sym way.saves.shape)
          (subst (λ (l : List ℕ). StandsAt (file_of i) (page_place i.shape.pages taken.page) l) (sym (page taken.page bytes copied i way.saves way.stands))
          (pieces.pages taken.page (here taken.page bytes copied i way.saves way.stands)))

      written_told : is_zeros bytes ≡ false → LeavesWrite (page_place d.shape.pages taken.page) bytes true (file_state g old) (file_state g new)
          → IfSome (file_state g new).told (λ b. IsLaidSoFar b i (ranges_of (after_save d taken (is_zeros bytes))))
      written_told is call = elim (told_cases (file_state g old).told) [
        | inl none ↦ subst (λ (o : Option (List ℕ)). IfSome o (λ b. IsLaidSoFar b i (ranges_of (after_save d taken (is_zeros bytes))))) (sym (call.told ∙ ap (option_map _) none)) tt
        | inr told ↦
            subst (λ (o : Option (List ℕ)). IfSome o (λ b. IsLaidSoFar b i (ranges_of (after_save d taken (is_zeros bytes))))) (sym (call.told ∙ ap (option_map _) told.1))
            (subst (λ (r : List (ℕ × ℕ)). IsLaidSoFar (written (page_place d.shape.pages taken.page) bytes told.0) i r) (sym (ranges_now false is))
            (page_more i d.shape.pages taken.page d.bits bytes told.0 (laid_now told.0 told.1) (omega (arith, small taken.page bytes copied, limits.bits))
            (whole taken.page bytes copied i way.saves way.stands) (some_place taken.page) page_stands))
      ]

      written_shut : (went_well : Bool) → LeavesWrite (page_place d.shape.pages taken.page) bytes went_well (file_state g old) (file_state g new) → (b : List ℕ) → (file_state g old).told ≡ Some b
          → IsShutNow (file_state g new)
      written_shut went_well call b is = write_shut (page_place d.shape.pages taken.page) bytes went_well (file_state g old) (file_state g new) (some_place taken.page) (shut_now b is) call

      written_way : is_zeros bytes ≡ false → LeavesWrite (page_place d.shape.pages taken.page) bytes true (file_state g old) (file_state g new)
          → IsUnderWay (after_save d taken (is_zeros bytes)) i now (file_state g new)
      written_way is call = record {
        runs = runs;
        saves = saved_now;
        stands = keeps.stands (pages_of i) way.stands;
        told = written_told is call;
        shut = elim (told_cases (file_state g old).told) [
          | inl none ↦ subst (λ (o : Option (List ℕ)). IfSome o (λ b. IsShutNow (file_state g new))) (sym (call.told ∙ ap (option_map _) none)) tt
          | inr told ↦ subst (λ (o : Option (List ℕ)). IfSome o (λ b. IsShutNow (file_state g new))) (sym (call.told ∙ ap (option_map _) told.1)) (written_shut true call told.0 told.1)
        ];
      }

      page_way : (zeros : Bool) → is_zeros bytes ≡ zeros → WritesUnless zeros (new ≡ old) (page_place d.shape.pages taken.page) bytes (file_state g old) (file_state g new)
          → IsUnderWay (after_save d taken (is_zeros bytes)) i now (file_state g new)
      page_way true is file = same_file_way (after_save d taken (is_zeros bytes)) file runs (ranges_now true is) saved_now (keeps.stands (pages_of i) way.stands)
      page_way false is file = written_way is file

      -- what a crash leaves of the page's write
      page_since : (zeros : Bool) → WritesUnless zeros (new ≡ old) (page_place d.shape.pages taken.page) bytes (file_state g old) (file_state g new)
          → (b : List ℕ) → (file_state g old).told ≡ Some b → LeavesSince (file_state g old) (file_state g old) IsShut → LeavesSince (file_state g old) (file_state g new) IsShut
      page_since true same b is since = subst (λ m. LeavesSince (file_state g old) (file_state g m) IsShut) (sym same) since
      page_since false call b is since = goes_on since call.time (written_shut true call b is)

      fault_since : LeavesWrite (page_place d.shape.pages taken.page) bytes false (file_state g old) (file_state g new) → (b : List ℕ) → (file_state g old).told ≡ Some b
          → LeavesSince (file_state g old) (file_state g old) IsShut → LeavesSince (file_state g old) (file_state g new) IsShut
      fault_since call b is since = goes_on since call.time (written_shut false call b is)

    way_taken : (said : Turn) (taken : PageInHand) → KeepsPlant plant now → LeavesTaken d (new ≡ old) plant now (file_state g old) (file_state g new) taken said next → next.end ≡ None
        → IsUnderWay next i now (file_state g new)
    way_taken turns.Again taken keeps h goes = subst (λ (s : SaverData). IsUnderWay s i now (file_state g new)) (sym h.saver)
        (same_file_way (record d { hand = Some taken }) h.file runs refl (same_saves i way.saves way.stands (Some taken)) (keeps.stands (pages_of i) way.stands))
    way_taken (turns.Skipped p) taken keeps (is, h) goes = subst (λ (s : SaverData). IsUnderWay s i now (file_state g new)) (sym h.saver)
        (same_file_way (record d { hand = None }) h.file runs refl (same_saves i way.saves way.stands None) (keeps.stands (pages_of i) way.stands))
    way_taken (turns.Saved p) taken keeps (is, (bytes, h)) goes = subst (λ (s : SaverData). IsUnderWay s i now (file_state g new)) (sym h.saver) (page_way taken bytes h.copied keeps (is_zeros bytes) refl h.file)
    way_taken turns.Failed taken keeps (bytes, h) goes = absurd (let both : Some ends.Failed ≡ None = sym (ap (λ (s : SaverData). s.end) h.saver) ∙ goes in cc both)
    way_taken turns.Complete taken keeps h goes = absurd h

    pub left_kept : LeavesTurn g d same_plant plant now old new answer next → next.end ≡ None → IsUnderWay next i now (file_state g new)
    left_kept leaves goes = elim (left_turn leaves) [
      | inl wait ↦ subst (λ (s : SaverData). IsUnderWay s i now (file_state g new)) (sym wait.saver) (same_file_way d wait.file runs refl way.saves (wait.keeps.stands (pages_of i) way.stands))
      | inr take ↦ way_taken answer take.0 take.2.keeps take.2.taken goes
    ]

    since_taken : (said : Turn) (taken : PageInHand) → KeepsPlant plant now → LeavesTaken d (new ≡ old) plant now (file_state g old) (file_state g new) taken said next → (b : List ℕ)
        → (file_state g old).told ≡ Some b → LeavesSince (file_state g old) (file_state g old) IsShut → LeavesSince (file_state g old) (file_state g new) IsShut
    since_taken turns.Again taken keeps h b is since = subst (λ m. LeavesSince (file_state g old) (file_state g m) IsShut) (sym h.file) since
    since_taken (turns.Skipped p) taken keeps (same, h) b is since = subst (λ m. LeavesSince (file_state g old) (file_state g m) IsShut) (sym h.file) since
    since_taken (turns.Saved p) taken keeps (same, (bytes, h)) b is since = page_since taken bytes h.copied keeps (is_zeros bytes) h.file b is since
    since_taken turns.Failed taken keeps (bytes, h) b is since = fault_since taken bytes h.copied keeps h.file b is since
    since_taken turns.Complete taken keeps h b is since = absurd h

    may_be_left : (left : List ℕ) → slice_get left 0 ≡ Some first → LeavesSince (file_state g old) (file_state g new) IsRefused → LeavesSince (file_state g old) (file_state g new) (MayBeLeft left i)
    may_be_left [] is since = absurd (cc is)
    may_be_left (p ∷ left) is since = since

    pub left_crash : ((image : List ℕ) → (file_state g old).left_since (file_state g old).moment image → (file_state g old).may_leave image) → LeavesTurn g d same_plant plant now old new answer next
        → IfSome (file_state g old).told (λ bytes. LeavesSince (file_state g old) (file_state g new) (MayBeLeft d.left i))
    left_crash only_now leaves = when_told (file_state g old).told _ (λ b is.
        let since = started only_now (shut_now b is) in
        may_be_left d.left some (leaves_weaker shut_refused (elim (left_turn leaves) [
          | inl wait ↦ subst (λ m. LeavesSince (file_state g old) (file_state g m) IsShut) (sym wait.file) since
          | inr take ↦ since_taken answer take.0 take.2.keeps take.2.taken b is since
        ])))
