use Rattle.std.proofs.Common.{◌≡◌, ◌-◌, ◌≤◌, vec_len}
use Rattle.image_file.specs.Elf.{memory}
use Rattle.image_file.proofs.overlay.place_segments.Given as goal

-- the bytes so far are those of the memory
abbrev pub invariant-loop-image : goal.invariant-loop-image
invariant-loop-image l = record {
  piece : vec_len l.piece ≡ 65536;
  within : vec_len l.image ≤ l.len;
  bytes : l.image.items ≡ memory l.file 0x80000000 (vec_len l.image);
}

abbrev pub decreases-loop-image : goal.decreases-loop-image
decreases-loop-image l = l.len - vec_len l.image
