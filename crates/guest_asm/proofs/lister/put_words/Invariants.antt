use Rattle.std.proofs.Common.{◌≡◌, ◌++◌, take, string_bytes}
use Rattle.std.specs.Int.{from_le_bytes, w32}
use Rattle.std.specs.List.{flat_map}
use Rattle.guest_asm.specs.Listing.{word_line}
use Rattle.guest_asm.proofs.lister.put_words.Given as goal

-- the lines of the words so far
abbrev pub invariant-loop-word : goal.invariant-loop-word
invariant-loop-word l =
    string_bytes l.text ≡ string_bytes l.initial.text ++ flat_map (λ word. word_line (from_le_bytes w32 word)) (take l.word-index l.words)
