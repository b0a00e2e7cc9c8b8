use Rattle.std.proofs.Common.{◌≡◌, ℕ, ◌+◌, ◌<◌, length, slice_index}
use Rattle.image_file.specs.Elf.{memory_byte}
use Rattle.image_file.proofs.overlay.fill_piece.Given as goal

-- each byte is that of the segments so far, once the first of them that counts is in place
abbrev pub invariant-loop-j : goal.invariant-loop-j
invariant-loop-j l = (k : ℕ) → k < length l.piece → (0 < l.first → l.first < l.j) → slice_index l.piece k ≡ memory_byte l.file l.j (l.from + k)
