-- The saver's end at the start.
use Rattle.std.proofs.Common.{◌≡◌, ℕ, Bool, true, false, List, not, replicate, Result, Ok, Err, sym, ◌∙◌, ap, subst}
use Rattle.std.specs.Result.{IfOk}
use Rattle.ram_block.specs.Shape.{total_pages_of}
use Rattle.flat_machine.specs.Machine.{MachineData}
use Rattle.page_cell.specs.Plant.{pages_of}
use Rattle.plain_bus.proofs.Starts.{start_stands}
use Rattle.page_bus.specs.Opening.{IsOpened}
use Rattle.page_bus.specs.Passes.{BusData, IsSaverPass, SaverPassData, VcpuPassData, book_of}
use Rattle.page_bus.specs.Plant.{IsAtStart, StandsFor, end_state}
use Rattle.page_bus.specs.Saves.{pages_of_book}

module _ (i : MachineData) (run : ℕ) (protect : Bool) (bus : BusData) (passes : List VcpuPassData) (saver : SaverPassData) (opened : IsOpened i run protect bus passes saver) where
  pub stands_from : StandsFor saver (pages_of i)
  stands_from =
      let stands = start_stands i run protect in
      subst (λ (s : SaverPassData). StandsFor s (pages_of i)) (sym opened.saver_from) (record { count = stands.count; each = stands.each })

  pub at_start : IsSaverPass saver → protect ≡ true → IsAtStart i (end_state bus saver)
  at_start is on = record {
    fits = record { table = ap (λ (s : SaverPassData). s.table) opened.saver_from; pass = is };
    total = ap (λ (s : SaverPassData). pages_of_book (book_of s.view)) opened.saver_from;
    protected =
        ap (λ (s : SaverPassData). (book_of s.view).writable) opened.saver_from
        ∙ ap (λ b. replicate (total_pages_of i.shape) (not b)) on
        ∙ ap (λ n. replicate n false) (sym (ap (λ (s : SaverPassData). pages_of_book (book_of s.view)) opened.saver_from));
    stands = stands_from;
  }

-- what two facts of a value say together
pub if_ok_both : {X E : Type 0} (r : Result X E) (P Q R : X → Type 0) → ((x : X) → P x → Q x → R x) → IfOk r P → IfOk r Q → IfOk r R
if_ok_both (Ok x) P Q R both p q = both x p q
if_ok_both (Err e) P Q R both p q = tt
