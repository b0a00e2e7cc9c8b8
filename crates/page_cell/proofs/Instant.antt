-- The law of the core: what was recorded is the instant, whatever the turns.
use Rattle.std.proofs.Common.{◌≡◌, ◌≢◌, inl, inr, ℕ, zero, suc, ◌<◌, eqb, ◌||◌, Bool, true, false, List, [], ◌∷◌, ◌++◌, length, replicate, slice_set, Option, Some, None, refl, sym, ◌∙◌, ap, subst, arith}
use Rattle.std.specs.Prelude.{if◌then◌else◌}
use Rattle.std.specs.List.{IsDistinct, slice_get}
use Rattle.std.proofs.lemmas.Bool.{cases_eq, ne_eqb}
use Rattle.std.proofs.lemmas.List.{length-set, length-replicate, get_or-replicate, map-append}
use Rattle.std.proofs.lemmas.List.Elements.{All-append, All-cons, All-nil}
use Rattle.std.proofs.lemmas.List.Folds.{list_any-append}
use Rattle.std.proofs.lemmas.Option.{none-some, same_Some, slice_get-get_or, slice_get_within}
use Rattle.ram_block.specs.PageLinks.{is_listed}
use Rattle.ram_block.specs.Shape.{total_pages_of}
use Rattle.flat_machine.specs.Laws.{ServesAll, event_written_page}
use Rattle.flat_machine.specs.Machine.{MachineData, page_of}
use Rattle.flat_machine.specs.Next.{next}
use Rattle.flat_machine.specs.Run.{run_on}
use Rattle.flat_machine.proofs.Events.{slice_get-set_same, slice_get-set_other}
use Rattle.flat_machine.proofs.Frames.{next_keeps}
use Rattle.flat_machine.proofs.Runs.{run-push}
use Rattle.flat_machine.proofs.Servable.{next_serves}
use Rattle.flat_machine.proofs.Written.{other_pages_stay}
use Rattle.wp_fault.proofs.Lists.{IsDistinct-nil, IsDistinct-push, last_queued}
use Rattle.page_cell.specs.Core.{CoreState, Turn, CpuTurn, PickTurn, PageTurn, is_protected, protected_page, stopped_page, core_event, core_moved, core_recorded, core_turn, core_after, core_from, recorded_pages, KeepsInstant}

-- ---- Flags

-- a page that is protected is one that there is, and that isn't writable
pub protected_get : (writable : List Bool) (p : ℕ) → is_protected writable p ≡ true → slice_get writable p ≡ Some false
protected_get [] p is = absurd (cc)
protected_get (true ∷ writable) zero is = absurd (cc)
protected_get (false ∷ writable) zero is = refl
protected_get (w ∷ writable) (suc p) is = protected_get writable p is

pub get_protected : (writable : List Bool) (p : ℕ) → slice_get writable p ≡ Some false → is_protected writable p ≡ true
get_protected [] p is = absurd (none-some false is)
get_protected (true ∷ writable) zero is = absurd (cc)
get_protected (false ∷ writable) zero is = refl
get_protected (w ∷ writable) (suc p) is = get_protected writable p is

-- a page that isn't protected is writable, or there is none
pub unprotected_get : (writable : List Bool) (p : ℕ) → p < length writable → is_protected writable p ≡ false → slice_get writable p ≡ Some true
unprotected_get [] p h is = absurd (omega arith)
unprotected_get (true ∷ writable) zero h is = refl
unprotected_get (false ∷ writable) zero h is = absurd (cc)
unprotected_get (w ∷ writable) (suc p) h is = unprotected_get writable p (omega arith) is

or_false : (b : Bool) → (b || false) ≡ b
or_false true = refl
or_false false = refl

-- another page is in the list as before
listed_other : (pages : List ℕ) (p q : ℕ) → q ≢ p → is_listed (pages ++ p ∷ []) q ≡ is_listed pages q
listed_other pages p q other =
    list_any-append (eqb q) pages (p ∷ []) ∙ ap (λ b. is_listed pages q || (b || false)) (ne_eqb q p other) ∙ or_false (is_listed pages q)

-- ---- Turns

-- what goes on beside the law: the machine serves what is asked of it, and has the instant's shape
record Keeps (i : MachineData) (s : CoreState) : Type 0 where
  law : KeepsInstant i s
  serves : ServesAll s.machine
  shape : s.machine.shape ≡ i.shape

-- the queue and the count of stops play no part in it
other_queue : (i : MachineData) (s : CoreState) (queue : List ℕ) (blocked : ℕ) → Keeps i s → Keeps i (record s { queue = queue; blocked = blocked })
other_queue i s queue blocked keeps = record {
  law = record {
    count = keeps.law.count;
    recorded = keeps.law.recorded;
    protected = keeps.law.protected;
    each = keeps.law.each;
    once = keeps.law.once;
    ran = keeps.law.ran;
  };
  serves = keeps.serves;
  shape = keeps.shape;
}

-- an event that no page stops writes to no protected page
pub unstopped : (m : MachineData) (writable : List Bool) (k p : ℕ) → stopped_page m writable k ≡ None → is_protected writable p ≡ true →
    event_written_page m k ≢ Some p
unfolding stopped_page
unstopped m writable k p free is writes =
    none-some p (sym free ∙ ap (protected_page writable) writes ∙ ap (λ b. if b then Some p else None) is)

moved_keeps : (i : MachineData) (s : CoreState) (k : ℕ) (after : Option MachineData) → next s.machine k ≡ after →
    stopped_page s.machine s.writable k ≡ None → Keeps i s → Keeps i (core_moved s k after)
moved_keeps i s k None moved free keeps = keeps
moved_keeps i s k (Some m) moved free keeps =
    let kept = next_keeps s.machine k m keeps.serves moved in
    record {
      law = record {
        count = keeps.law.count;
        recorded = keeps.law.recorded;
        protected = λ p is.
            (let within : p < total_pages_of s.machine.shape =
            subst (λ (n : ℕ). p < n) (keeps.law.count ∙ ap total_pages_of (sym keeps.shape)) (slice_get_within s.writable p false (protected_get s.writable p is)) in
            other_pages_stay s.machine k m p keeps.serves moved within (unstopped s.machine s.writable k p free is) ∙ keeps.law.protected p is);
        each = keeps.law.each;
        once = keeps.law.once;
        ran = run-push i s.machine s.order k keeps.law.ran ∙ moved;
      };
      serves = next_serves s.machine k m keeps.serves moved;
      shape = kept.shape ∙ keeps.shape;
    }

event_keeps : (i : MachineData) (s : CoreState) (k : ℕ) (page : Option ℕ) → stopped_page s.machine s.writable k ≡ page → Keeps i s → Keeps i (core_event s k page)
event_keeps i s k (Some p) stops keeps = other_queue i s _ _ keeps
event_keeps i s k None free keeps = moved_keeps i s k (next s.machine k) refl free keeps

-- the pages recorded are one more
pages_more : (s : CoreState) (p : ℕ) → recorded_pages (core_recorded s p) ≡ recorded_pages s ++ p ∷ []
pages_more s p = map-append (λ (r : ℕ × List ℕ). r.0) s.recorded ((p, page_of s.machine p) ∷ [])

recorded_keeps : (i : MachineData) (s : CoreState) (p : ℕ) → is_protected s.writable p ≡ true → Keeps i s → Keeps i (core_recorded s p)
recorded_keeps i s p is keeps =
    let w = s.writable in
    let pages = recorded_pages s in
    let Kept = λ (r : ℕ × List ℕ). r.1 ≡ page_of i r.0 in
    let was : slice_get w p ≡ Some false = protected_get w p is in
    let within = slice_get_within w p false was in
    let new : is_listed pages p ≡ false = same_Some (is_listed pages p) false (sym (keeps.law.each p (subst (λ (n : ℕ). p < n) keeps.law.count within)) ∙ was) in
    record {
      law = record {
        count = length-set w p true ∙ keeps.law.count;
        recorded = All-append Kept s.recorded ((p, page_of s.machine p) ∷ []) keeps.law.recorded (All-cons Kept (p, page_of s.machine p) [] (keeps.law.protected p is) (All-nil Kept));
        protected = λ q still.
            (let get : slice_get (slice_set w p true) q ≡ Some false = protected_get (slice_set w p true) q still in
            elim (cases_eq q p) as (λ _. page_of s.machine q ≡ page_of i q) [
              | inl same ↦ absurd (let e : Some true ≡ Some false = sym (slice_get-set_same w p true within) ∙ ap (slice_get (slice_set w p true)) (sym same) ∙ get in cc)
              | inr other ↦ keeps.law.protected q (get_protected w q (sym (slice_get-set_other w p q true other) ∙ get))
            ]);
        each = λ q h.
            elim (cases_eq q p) as (λ _. slice_get (slice_set w p true) q ≡ Some (is_listed (recorded_pages (core_recorded s p)) q)) [
              | inl same ↦
                  ap (slice_get (slice_set w p true)) same ∙ slice_get-set_same w p true within
                  ∙ ap Some (sym (ap (is_listed (recorded_pages (core_recorded s p))) same ∙ ap (λ l. is_listed l p) (pages_more s p) ∙ last_queued pages p))
              | inr other ↦
                  slice_get-set_other w p q true other ∙ keeps.law.each q h
                  ∙ ap Some (sym (ap (λ l. is_listed l q) (pages_more s p) ∙ listed_other pages p q other))
            ];
        once = subst (IsDistinct eqb) (sym (pages_more s p)) (IsDistinct-push pages p keeps.law.once new);
        ran = keeps.law.ran;
      };
      serves = keeps.serves;
      shape = keeps.shape;
    }

page_keeps : (i : MachineData) (s : CoreState) (p : ℕ) (b : Bool) → is_protected s.writable p ≡ b → Keeps i s → Keeps i (if b then core_recorded s p else s)
page_keeps i s p true is keeps = recorded_keeps i s p is keeps
page_keeps i s p false is keeps = keeps

-- a turn keeps it
turn_keeps : (i : MachineData) (s : CoreState) (turn : Turn) → Keeps i s → Keeps i (core_turn s turn)
unfolding core_turn
turn_keeps i s (CpuTurn k) keeps = event_keeps i s k (stopped_page s.machine s.writable k) refl keeps
turn_keeps i s PickTurn keeps = other_queue i s _ s.blocked keeps
turn_keeps i s (PageTurn p) keeps = page_keeps i s p (is_protected s.writable p) refl keeps

turns_keep : (i : MachineData) (s : CoreState) (turns : List Turn) → Keeps i s → Keeps i (core_after s turns)
unfolding core_after
turns_keep i s [] keeps = keeps
turns_keep i s (turn ∷ turns) keeps = turns_keep i (core_turn s turn) turns (turn_keeps i s turn keeps)

-- every page is protected at the instant
all_protected : (n p : ℕ) → p < n → slice_get (replicate n false) p ≡ Some false
all_protected n p h =
    slice_get-get_or (replicate n false) p false (subst (λ (l : ℕ). p < l) (sym (length-replicate n false)) h) ∙ ap Some (get_or-replicate n p false false h)

begins : (i : MachineData) → ServesAll i → Keeps i (core_from i)
unfolding run_on
begins i serves = record {
  law = record {
    count = length-replicate (total_pages_of i.shape) false;
    recorded = All-nil (λ (r : ℕ × List ℕ). r.1 ≡ page_of i r.0);
    protected = λ p is. refl;
    each = all_protected (total_pages_of i.shape);
    once = IsDistinct-nil;
    ran = refl;
  };
  serves = serves;
  shape = refl;
}

-- the law of the core
pub core_keeps : (i : MachineData) (turns : List Turn) → ServesAll i → KeepsInstant i (core_after (core_from i) turns)
core_keeps i turns serves = (turns_keep i (core_from i) turns (begins i serves)).law
