use Rattle.std.proofs.Common.{◌≡◌, ◌*◌, length, take}
use Rattle.std.specs.List.{flat_map}
use Rattle.vm_report.specs.Hex.{hex_digits}
use Rattle.vm_report.proofs.serial.row_line.Given as goal

abbrev pub invariant-loop-byte : goal.invariant-loop-byte
invariant-loop-byte l = record {
  text : l.text ≡ flat_map (hex_digits 2) (take l.byte-index l.row);
  room : length l.text ≡ 2 * l.byte-index;
}
