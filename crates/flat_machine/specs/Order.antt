-- The order of the events of a run.
use Rattle.std.specs.Prelude.{ℕ, List}

-- the vCPU of each event, and for how many events there is room
pub record OrderData : Type 0 where
  pub members : List ℕ
  pub room : ℕ
