use Rattle.std.proofs.Common.{◌≡◌, ℕ, ◌+◌, ◌-◌, ◌*◌, ◌≤◌, List, Some, vec_len}
use Rattle.std.specs.List.{flat_map, range_with_len}
use Rattle.medium.specs.Members.{file_state}
use Rattle.medium.specs.States.{Leaves}
use Rattle.page_peek.specs.Peeked.{peek_of, peeked}
use Rattle.vm_cli.specs.Jobs.Peek.{cuts_from}
use Rattle.vm_cli.proofs.peek.read_pages.Given as goal

-- no page so far is cut, and their bytes are there; what is left to look at goes on from here
abbrev pub invariant-loop-p : goal.invariant-loop-p
invariant-loop-p g l = record {
  cuts : (file : List ℕ) → g.M.Readable.told l.fn.input ≡ Some file → l.peek ≡ peek_of file l.peek.shape → cuts_from file l.peek.shape l.first l.count ≡ cuts_from file l.peek.shape l.p (l.first + l.count - l.p);
  bytes : (file : List ℕ) → g.M.Readable.told l.fn.input ≡ Some file → l.peek ≡ peek_of file l.peek.shape → l.bytes.items ≡ flat_map (peeked file l.peek.shape) (range_with_len l.first (l.p - l.first));
  length : vec_len l.bytes ≡ 4096 * (l.p - l.first);
  from : l.first ≤ l.p;
  leaves : Leaves (file_state g.M.Readable l.fn.input) (file_state g.M.Readable l.input);
}
