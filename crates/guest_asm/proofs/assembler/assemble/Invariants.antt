use Rattle.std.proofs.Common.{◌≡◌, ℕ, ◌<◌, ◌≤◌, None, filter_map, vec_len}
use Rattle.std.specs.List.{range_with_len}
use Rattle.guest_asm.specs.declared.assembler.TheConstants.{MAX_ASSEMBLED}
use Rattle.guest_asm.specs.Assemble.{kind_at, piece_at}
use Rattle.guest_asm.specs.Bytes.{ArePieces}
use Rattle.guest_asm.specs.Labels.{place_of}
use Rattle.guest_asm.specs.Line.{lines_of}
use Rattle.guest_asm.proofs.assembler.assemble.Given as goal

-- the lines so far have nothing wrong, and the bytes are those of their pieces
abbrev pub invariant-loop-i : goal.invariant-loop-i
invariant-loop-i l =
    let lines = lines_of l.fn.text in
    record {
      right : (k : ℕ) → k < l.i → kind_at lines k ≡ None;
      placed : ArePieces (filter_map (piece_at lines) (range_with_len 0 l.i)) l.bytes.items;
      len : vec_len l.bytes ≡ place_of lines l.i;
      room : vec_len l.bytes ≤ MAX_ASSEMBLED;
    }
