-- What a turn of the copier leaves, where a page is taken, and that the plant stays that of the copier's end.
use Rattle.std.proofs.Common.{◌≡◌, inl, inr, ℕ, ◌<◌, Bool, true, false, true≢false, not, List, [], ◌∷◌, ◌++◌, length, Option, Some, None, eqb, refl, sym, ap, ◌∙◌, subst, arith}
use Rattle.std.specs.Prelude.{slice_get, slice_set, if◌then◌else◌, IfSome}
use Rattle.std.proofs.lemmas.Bool.{cases_Bool, eqb-true}
use Rattle.std.proofs.lemmas.Option.{same_Some, slice_get_within}
use Rattle.ram_block.specs.PageLinks.{is_listed}
use Rattle.flat_machine.proofs.Events.{slice_get-set_other, slice_get-set_same}
use Rattle.page_sweep.specs.Sweep.{without}
use Rattle.page_sweep.proofs.Removed.{absent-without}
use Rattle.page_cell.specs.Plant.{PlantState, KeepsPlant, CopiesOut, PickCause, PicksFront}
use Rattle.page_cell.specs.declared.plant.Pick.{Pick}
use Rattle.page_cell.specs.declared.plant.Pick.TheVariants as picks
use Rattle.bg_saver.specs.Turn.{LeavesNoPick, LeavesOnePick}
use Rattle.bg_saver.proofs.Taken.{differ, listed_other}
use Rattle.write_pipe.specs.CopyEnd.{CopyData, IsOfCopy, LeavesChoice, LeavesPicked, LeavesPicks, LeavesTaken, LeavesTurn, LeavesTurnBy, TakesPage, after_full, choice, without_page}
use Rattle.write_pipe.specs.declared.copy_end.Wanted.{Wanted}
use Rattle.write_pipe.specs.declared.copy_turn.CopyTurn.{CopyTurn}
use Rattle.write_pipe.specs.declared.copy_turn.CopyTurn.TheVariants as turns
use Rattle.write_pipe.specs.declared.outlet.InHand.{InHand}

-- ---- Flags

set_here : (flags : List Bool) (p q : ℕ) → p < length flags → eqb q p ≡ true → slice_get (slice_set flags p true) q ≡ Some true
set_here flags p q within same = subst (λ x. slice_get (slice_set flags p true) x ≡ Some true) (sym (eqb-true q p same)) (slice_get-set_same flags p true within)

set_grows : (flags : List Bool) (p q : ℕ) → p < length flags → slice_get flags q ≡ Some true → slice_get (slice_set flags p true) q ≡ Some true
set_grows flags p q within is = elim (cases_Bool (eqb q p)) [
  | inl same ↦ set_here flags p q within same
  | inr other ↦ slice_get-set_other flags p q true (differ q p other) ∙ is
]

-- ---- The choice of a page and its take, one behind the other

module _ {P R : Type 0} (d : CopyData P) (first : ℕ) (plant mid now : PlantState R) (taken : Wanted) (answer : CopyTurn) (new : CopyData P)
    (picked : LeavesPicked d.wanted first plant mid (Some taken)) (keeps : KeepsPlant mid now) (no_pick : LeavesNoPick mid now) (leaves : LeavesTaken d mid now taken answer new) where
  keeps_both : KeepsPlant plant now
  keeps_both = record {
    total = keeps.total ∙ picked.keeps.total;
    rest = keeps.rest ∙ picked.keeps.rest;
    stands = λ pages stands. keeps.stands pages (picked.keeps.stands pages stands);
    fits = keeps.fits;
    never_falls = omega (arith, keeps.never_falls, picked.keeps.never_falls);
  }

  cause_now : (pick : Pick) → PickCause plant.total plant.busy mid.busy pick → PickCause plant.total plant.busy now.busy pick
  cause_now (picks.Fault p) cause = cause
  cause_now picks.Empty cause = cause
  cause_now picks.Busy cause = omega (arith, cause, keeps.never_falls)

  picks_now : (wanted : Option Wanted) → LeavesPicks wanted plant mid → LeavesPicks wanted plant now
  picks_now (Some wanted) none = record {
    picked = no_pick.picked ∙ none.picked;
    picks = no_pick.picks ∙ none.picks;
    last = no_pick.last ∙ none.last;
    queue = no_pick.queue ∙ none.queue;
  }
  picks_now None (pick, one) = (
    pick,
    record {
      picked = no_pick.picked ∙ one.picked;
      cause = cause_now pick one.cause;
      picks = no_pick.picks ∙ one.picks;
      last = no_pick.last ∙ one.last;
      queue = subst (λ q. PicksFront plant.queue q pick) (sym no_pick.queue) one.queue;
    },
  )

  -- the take is one of the plant as it was before the pick
  copies_both : (p : ℕ) (bytes : List ℕ) → CopiesOut mid now p bytes → CopiesOut plant now p bytes
  copies_both p bytes copied = record {
    was = sym (ap (λ (l : List Bool). slice_get l p) picked.writable) ∙ copied.was;
    writable = copied.writable ∙ ap (λ (l : List Bool). slice_set l p true) picked.writable;
    bytes = λ pages stands. copied.bytes pages (picked.keeps.stands pages stands);
  }

  taken_both : (said : CopyTurn) → LeavesTaken d mid now taken said new → LeavesTaken d plant now taken said new
  taken_both turns.Again (end, rose, writable) = (end, omega (arith, rose, picked.keeps.never_falls), writable ∙ picked.writable)
  taken_both (turns.Skipped p) (is, end, stale, writable) = (is, end, sym (ap (λ (l : List Bool). slice_get l p) picked.writable) ∙ stale, writable ∙ picked.writable)
  taken_both (turns.Passed p) (is, (bytes, copied, end)) = (is, (bytes, copies_both p bytes copied, end))
  taken_both turns.Full (bytes, copied, end) = (bytes, copies_both taken.page bytes copied, end)
  taken_both turns.NoSpare none = absurd none
  taken_both turns.Done none = absurd none

  chosen : Some taken ≡ choice d.wanted first now.last
  chosen = picked.course ∙ ap (choice d.wanted first) (sym no_pick.last)

  takes_page : TakesPage d first plant now answer new
  takes_page = record {
    keeps = keeps_both;
    picks = picks_now d.wanted picked.picks;
    taken = subst (λ next. LeavesChoice d plant now next answer new) chosen (taken_both answer leaves);
  }

  turn_by : (same_plant : Type 0) (hand : Option InHand) (left : List ℕ) (said : CopyTurn) → None ≡ hand → Some first ≡ slice_get left 0 → LeavesTaken d mid now taken said new →
      TakesPage d first plant now said new → LeavesTurnBy hand left d same_plant plant now said new
  turn_by same_plant (Some hand) left said none some was takes = absurd (cc none)
  turn_by same_plant None [] said none some was takes = absurd (cc some)
  turn_by same_plant None (a ∷ left) turns.NoSpare none some was takes = absurd was
  turn_by same_plant None (a ∷ left) turns.Again none some was takes = subst (λ f. TakesPage d f plant now turns.Again new) (same_Some first a some) takes
  turn_by same_plant None (a ∷ left) (turns.Skipped p) none some was takes = subst (λ f. TakesPage d f plant now (turns.Skipped p) new) (same_Some first a some) takes
  turn_by same_plant None (a ∷ left) (turns.Passed p) none some was takes = subst (λ f. TakesPage d f plant now (turns.Passed p) new) (same_Some first a some) takes
  turn_by same_plant None (a ∷ left) turns.Full none some was takes = subst (λ f. TakesPage d f plant now turns.Full new) (same_Some first a some) takes
  turn_by same_plant None (a ∷ left) turns.Done none some was takes = absurd was

  pub turn_takes : (same_plant : Type 0) → None ≡ d.hand → Some first ≡ slice_get d.left 0 → LeavesTurn d same_plant plant now answer new
  turn_takes same_plant none some = turn_by same_plant d.hand d.left answer none some leaves takes_page

  -- ---- The plant stays that of the copier's end

  module _ (count : P → ℕ) (stood : P → List (List ℕ) → Type 0) (of : IsOfCopy count stood d plant) (flags : (length plant.writable ≡ plant.total) × (length plant.picked ≡ plant.total)) where
    picked_one : (pick : Pick) (q : ℕ) → LeavesOnePick plant mid pick → slice_get plant.picked q ≡ Some true → slice_get mid.picked q ≡ Some true
    picked_one (picks.Fault p) q one is = ap (λ (l : List Bool). slice_get l q) one.picked ∙ set_grows plant.picked p q (omega (arith, one.cause, flags.1)) is
    picked_one picks.Empty q one is = ap (λ (l : List Bool). slice_get l q) one.picked ∙ is
    picked_one picks.Busy q one is = ap (λ (l : List Bool). slice_get l q) one.picked ∙ is

    picked_more : (wanted : Option Wanted) (q : ℕ) → LeavesPicks wanted plant mid → slice_get plant.picked q ≡ Some true → slice_get mid.picked q ≡ Some true
    picked_more (Some wanted) q same is = ap (λ (l : List Bool). slice_get l q) same.picked ∙ is
    picked_more None q one is = picked_one one.0 q one.1 is

    -- a page that a pick has answered stays so
    picked_still : (q : ℕ) → slice_get plant.picked q ≡ Some true → slice_get now.picked q ≡ Some true
    picked_still q is = ap (λ (l : List Bool). slice_get l q) no_pick.picked ∙ picked_more d.wanted q picked.picks is

    -- a page that a pick gave has its flag
    picked_page : (p : ℕ) (pick : Pick) → pick ≡ picks.Fault p → LeavesOnePick plant mid pick → slice_get mid.picked p ≡ Some true
    picked_page p (picks.Fault q) is one =
        let same : q ≡ p = cc is in
        subst (λ x. slice_get mid.picked x ≡ Some true) same (ap (λ (l : List Bool). slice_get l q) one.picked ∙ slice_get-set_same plant.picked q true (omega (arith, one.cause, flags.1)))
    picked_page p picks.Empty is one = absurd (cc is)
    picked_page p picks.Busy is one = absurd (cc is)

    among_by : (wanted : Option Wanted) (last : Option Pick) → last ≡ mid.last → Some taken ≡ choice wanted first last → LeavesPicks wanted plant mid →
        IfSome wanted (λ w. w.picked ≡ true → slice_get plant.picked w.page ≡ Some true) → taken.picked ≡ true → slice_get mid.picked taken.page ≡ Some true
    among_by (Some wanted) last is course same among given =
        let page : taken ≡ wanted = same_Some taken wanted course in
        let flag : wanted.picked ≡ true = sym (ap (λ (w : Wanted). w.picked) page) ∙ given in
        ap (λ (l : List Bool). slice_get l taken.page) same.picked ∙ subst (λ (w : Wanted). slice_get plant.picked w.page ≡ Some true) (sym page) (among flag)
    among_by None (Some (picks.Fault p)) is course one among given =
        let page : taken ≡ record { page = p; picked = true } = same_Some taken (record { page = p; picked = true }) course in
        let pick : one.0 ≡ picks.Fault p = same_Some one.0 (picks.Fault p) (sym one.1.last ∙ sym is) in
        subst (λ (w : Wanted). slice_get mid.picked w.page ≡ Some true) (sym page) (picked_page p one.0 pick one.1)
    among_by None (Some picks.Empty) is course one among given =
        let page : taken ≡ record { page = first; picked = false } = same_Some taken (record { page = first; picked = false }) course in
        absurd (true≢false (sym given ∙ ap (λ (w : Wanted). w.picked) page))
    among_by None (Some picks.Busy) is course one among given = absurd (cc course)
    among_by None None is course one among given = absurd (cc course)

    -- so has the page that is taken, where a pick gave it
    page_flag : taken.picked ≡ true → slice_get now.picked taken.page ≡ Some true
    page_flag given = ap (λ (l : List Bool). slice_get l taken.page) no_pick.picked ∙ among_by d.wanted mid.last refl picked.course picked.picks of.wanted given

    -- each counted page has its flag
    flags_now : (flag : Bool) (q : ℕ) → taken.picked ≡ flag → slice_get (if flag then slice_set d.faulted taken.page true else d.faulted) q ≡ Some true → slice_get now.picked q ≡ Some true
    flags_now false q is counted = picked_still q (of.picked q counted)
    flags_now true q is counted = elim (cases_Bool (eqb q taken.page)) [
      | inl same ↦ subst (λ x. slice_get now.picked x ≡ Some true) (sym (eqb-true q taken.page same)) (page_flag is)
      | inr other ↦ picked_still q (of.picked q (sym (slice_get-set_other d.faulted taken.page q true (differ q taken.page other)) ∙ counted))
    ]

    same_writable : now.writable ≡ mid.writable → (q : ℕ) → q < count d.inlet.from → slice_get now.writable q ≡ Some (not (is_listed d.left q))
    same_writable same q lt = ap (λ (l : List Bool). slice_get l q) (same ∙ picked.writable) ∙ of.writable q lt

    -- the page that was copied is writable, and it alone is left no more
    writable_now : (bytes : List ℕ) → CopiesOut plant now taken.page bytes → (q : ℕ) → q < count d.inlet.from → slice_get now.writable q ≡ Some (not (is_listed (without d.left taken.page) q))
    writable_now bytes copied q lt = ap (λ (l : List Bool). slice_get l q) copied.writable ∙ (elim (cases_Bool (eqb q taken.page)) [
      | inl same ↦
          set_here plant.writable taken.page q (slice_get_within plant.writable taken.page false copied.was) same
          ∙ ap (λ b. Some (not b)) (sym (ap (is_listed (without d.left taken.page)) (eqb-true q taken.page same) ∙ absent-without d.left taken.page))
      | inr other ↦
          slice_get-set_other plant.writable taken.page q true (differ q taken.page other) ∙ of.writable q lt
          ∙ ap (λ b. Some (not b)) (sym (listed_other d.left taken.page q other))
    ])

    of_total : now.total ≡ count d.inlet.from
    of_total = keeps_both.total ∙ of.total

    of_same : (wanted : Option Wanted) → now.writable ≡ mid.writable → IfSome wanted (λ w. w.picked ≡ true → slice_get now.picked w.page ≡ Some true) →
        IsOfCopy count stood (record d { wanted = wanted }) now
    of_same wanted same among = record {
      fits = keeps.fits;
      total = of_total;
      stands = λ pages stands. keeps_both.stands pages (of.stands pages stands);
      writable = same_writable same;
      picked = λ q counted. picked_still q (of.picked q counted);
      wanted = among;
    }

    of_copied : (bytes : List ℕ) → CopiesOut plant now taken.page bytes → IsOfCopy count stood (without_page d taken) now
    of_copied bytes copied = record {
      fits = keeps.fits;
      total = of_total;
      stands = λ pages stands. keeps_both.stands pages (of.stands pages stands);
      writable = writable_now bytes copied;
      picked = λ q counted. flags_now taken.picked q refl counted;
      wanted = tt;
    }

    -- nothing of it is said of the page in hand, nor of those that were sent
    with_hand : (e : CopyData P) (sent : List ℕ) (found_full : ℕ) (hand : Option InHand) → IsOfCopy count stood e now →
        IsOfCopy count stood (record e { inlet = record e.inlet { sent = sent; found_full = found_full }; hand = hand }) now
    with_hand e sent found_full hand is = record { fits = is.fits; total = is.total; stands = is.stands; writable = is.writable; picked = is.picked; wanted = is.wanted }

    of_taken : (said : CopyTurn) → LeavesTaken d mid now taken said new → IsOfCopy count stood new now
    of_taken turns.Again (end, rose, writable) = subst (λ e. IsOfCopy count stood e now) (sym end) (of_same (Some taken) writable page_flag)
    of_taken (turns.Skipped p) (is, end, stale, writable) = subst (λ e. IsOfCopy count stood e now) (sym end) (of_same None writable tt)
    of_taken (turns.Passed p) (is, (bytes, copied, end)) =
        let copied_page = of_copied bytes (copies_both taken.page bytes (subst (λ q. CopiesOut mid now q bytes) is copied)) in
        subst (λ e. IsOfCopy count stood e now) (sym end) (with_hand (without_page d taken) (d.inlet.sent ++ p ∷ []) d.inlet.found_full None copied_page)
    of_taken turns.Full (bytes, copied, end) =
        let copied_page = of_copied bytes (copies_both taken.page bytes copied) in
        subst (λ e. IsOfCopy count stood e now) (sym end)
        (with_hand (without_page d taken) d.inlet.sent (after_full (without_page d taken) (record { page = taken.page; bytes = bytes })).inlet.found_full (Some (record { page = taken.page; bytes = bytes })) copied_page)
    of_taken turns.NoSpare nothing = absurd nothing
    of_taken turns.Done nothing = absurd nothing

    pub turn_of_copy : IsOfCopy count stood new now
    turn_of_copy = of_taken answer leaves
