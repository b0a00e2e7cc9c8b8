-- The end of the queue at which buffers come out (this project's own, docs/ARCHITECTURE.md).
use Rattle.std.specs.Prelude.{◌≡◌, ℕ, ◌<◌, true, List, [], ◌∷◌, ◌++◌, All, nat_eq, length, Option, Some, None}
use Rattle.std.specs.List.{IsDistinct}
use Rattle.std.specs.Arc.{arc_value}
use Rattle.atomic_table.specs.Seated.{TableId}
use Rattle.crossbeam_queue.specs.Passes.{view, IsPassOf}
use Rattle.medium.specs.Count.{counted}
use Rattle.write_pipe.specs.Rule.{AreBytesOf, pages_in}
use Rattle.write_pipe.specs.declared.outlet.InHand.{InHand}
use Rattle.write_pipe.specs.declared.outlet.Outlet.TheInside as outlet

-- the plant when the relay was made; which queue it is; the pages that have come out of it, in order; and how often a pop
-- found it empty
pub record OutletData (P : Type 0) : Type 0 where
  pub from : P
  pub queue : TableId
  pub out : List ℕ
  pub found_empty : ℕ

module _ {P R : Type 0} where
  abbrev pub outlet_of : outlet.Inside P R → OutletData P
  outlet_of s = record {
    from = s.from.value;
    queue = s.pass.table_id;
    out = pages_in (view s.pass).got;
    found_empty = s.found_empty;
  }

module _ {P : Type 0} (total : P → ℕ) (stands : P → List (List ℕ) → Type 0) where
  -- each page came out once, and is one that there is
  pub record IsOutlet (d : OutletData P) : Type 0 where
    pub once : IsDistinct nat_eq d.out
    pub below : All (λ p. p < total d.from) d.out

  -- its pass is one of the queue, which may pop
  pub record IsOutletInside {R : Type 0} (s : outlet.Inside P R) : Type 0 where
    pub outlet : IsOutlet (outlet_of s)
    pub pass : IsPassOf (arc_value s.queue) s.pass
    pub pops : (view s.pass).pops ≡ true
    pub known : (view s.pass).from ≡ Some s.from.value
    pub pages : s.pages ≡ total s.from.value
    pub come : s.come ≡ length (view s.pass).got

  -- a pop found the queue empty; or this page came out, with its bytes in each list for which the plant stood
  abbrev pub LeavesNext : OutletData P → Option InHand → OutletData P → Type 0
  LeavesNext old None new = new ≡ record old { found_empty = counted old.found_empty }
  LeavesNext old (Some x) new = (new ≡ record old { out = old.out ++ x.page ∷ [] }) × (x.page < total old.from) × AreBytesOf total stands old.from x.page x.bytes
