-- The end of the queue at which buffers go in (this project's own, docs/ARCHITECTURE.md).
use Rattle.std.specs.Prelude.{◌≡◌, ℕ, ◌<◌, true, List, [], ◌∷◌, ◌++◌, All, nat_eq, Option, Some, None}
use Rattle.std.specs.List.{IsDistinct}
use Rattle.std.specs.Arc.{arc_value}
use Rattle.atomic_table.specs.Seated.{TableId}
use Rattle.crossbeam_queue.specs.Passes.{view, IsPassOf}
use Rattle.medium.specs.Count.{counted}
use Rattle.write_pipe.specs.Rule.{pages_in}
use Rattle.write_pipe.specs.declared.inlet.Inlet.TheInside as inlet
use Rattle.write_pipe.specs.declared.outlet.InHand.{InHand}

-- the plant when the relay was made; which queue it is; the pages that have gone into it, in order; and how often a push
-- found it full
pub record InletData (P : Type 0) : Type 0 where
  pub from : P
  pub queue : TableId
  pub sent : List ℕ
  pub found_full : ℕ

module _ {P R : Type 0} where
  abbrev pub inlet_of : inlet.Inside P R → InletData P
  inlet_of s = record {
    from = s.from.value;
    queue = s.pass.table_id;
    sent = pages_in (view s.pass).sent;
    found_full = s.found_full;
  }

module _ {P : Type 0} where
  -- a push found the queue full, and handed the page back; or it went in behind the others
  abbrev pub LeavesSend : InletData P → InHand → Option InHand → InletData P → Type 0
  LeavesSend old hand (Some back) new = (back ≡ hand) × (new ≡ record old { found_full = counted old.found_full })
  LeavesSend old hand None new = new ≡ record old { sent = old.sent ++ hand.page ∷ [] }

module _ {P : Type 0} (total : P → ℕ) (stands : P → List (List ℕ) → Type 0) where
  -- each page went in once, and is one that there is
  pub record IsInlet (d : InletData P) : Type 0 where
    pub once : IsDistinct nat_eq d.sent
    pub below : All (λ p. p < total d.from) d.sent

  -- its pass is one of the queue, which may push
  pub record IsInletInside {R : Type 0} (s : inlet.Inside P R) : Type 0 where
    pub inlet : IsInlet (inlet_of s)
    pub pass : IsPassOf (arc_value s.queue) s.pass
    pub pushes : (view s.pass).pushes ≡ true
    pub known : (view s.pass).from ≡ Some s.from.value
