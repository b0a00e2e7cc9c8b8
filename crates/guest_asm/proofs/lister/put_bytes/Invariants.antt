use Rattle.std.proofs.Common.{◌≡◌, ◌++◌, take, string_bytes}
use Rattle.std.specs.List.{flat_map}
use Rattle.guest_asm.specs.Listing.{byte_line}
use Rattle.guest_asm.proofs.lister.put_bytes.Given as goal

-- the lines of the bytes so far
abbrev pub invariant-loop-byte : goal.invariant-loop-byte
invariant-loop-byte l = string_bytes l.text ≡ string_bytes l.initial.text ++ flat_map byte_line (take l.byte-index l.bytes)
