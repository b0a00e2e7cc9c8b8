use Rattle.std.proofs.Common.{◌≡◌, ◌≤◌, ◌+◌, ◌-◌, vec_len}
use Rattle.image_file.proofs.Reading.{HasRead}
use Rattle.image_file.proofs.raw.read_raw.Given as goal

-- what was read is the front of what was left
abbrev pub invariant-loop-all : goal.invariant-loop-all
invariant-loop-all g l = record {
  most : l.most ≡ l.limit + 1;
  piece : vec_len l.piece ≡ 65536;
  within : vec_len l.all ≤ l.most;
  read : HasRead (g.S.Source.left l.fn.source) (g.S.Source.left l.source) l.all.items;
  count : g.S.Source.faults l.fn.source ≤ g.S.Source.faults l.source;
}

abbrev pub decreases-loop-all : goal.decreases-loop-all
decreases-loop-all g l = l.most - vec_len l.all
