-- The two ends of a new queue, as plain data (this project's own, docs/ARCHITECTURE.md).
use Rattle.std.specs.Prelude.{ℕ, [], None, false, replicate}
use Rattle.std.specs.List.{range_with_len}
use Rattle.atomic_table.specs.Seated.{TableId}
use Rattle.write_pipe.specs.CopyEnd.{CopyData}
use Rattle.write_pipe.specs.Inlet.{InletData}
use Rattle.write_pipe.specs.Outlet.{OutletData}
use Rattle.write_pipe.specs.WriteEnd.{WriteData}

module _ {P : Type 0} where
  -- no page has gone in
  abbrev pub begins_at : P → TableId → InletData P
  begins_at plant queue = record { from = plant; queue = queue; sent = []; found_full = 0 }

  -- no page has come out
  abbrev pub comes_to : P → TableId → OutletData P
  comes_to plant queue = record { from = plant; queue = queue; out = []; found_empty = 0 }

  -- all pages are left, and none is in hand
  abbrev pub copies_all : InletData P → ℕ → CopyData P
  copies_all inlet pages = record {
    inlet = inlet;
    left = range_with_len 0 pages;
    hand = None;
    wanted = None;
    counts = record { faults = 0; sweep = 0 };
    faulted = replicate pages false;
    found_none = 0;
  }

  -- no page is in hand, and none was picked or taken
  abbrev pub takes_none : OutletData P → ℕ → WriteData P
  takes_none outlet pages = record {
    outlet = outlet;
    hand = None;
    writable = replicate pages false;
    picked = replicate pages false;
    busy = 0;
    picks = 0;
    last = None;
  }
