use Rattle.std.proofs.Common.{◌≡◌, ◌+◌, ◌++◌, length, take}
use Rattle.vm_report.proofs.text.Text.put.Given as goal

abbrev pub invariant-loop-byte : goal.invariant-loop-byte
invariant-loop-byte l = record {
  text : l.self ≡ l.fn.self ++ take l.byte-index l.bytes;
  room : length l.self ≡ length l.fn.self + l.byte-index;
}
