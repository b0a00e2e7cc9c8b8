-- The listing of the bytes of one word is its line.
use Rattle.std.proofs.Common.{◌≡◌, ◌∙◌, ℕ, ◌^◌, ◌<◌, ◌++◌, [], ap, append-nil}
use Rattle.std.specs.Int.{from_le_bytes, to_le_bytes, w32}
use Rattle.std.proofs.lemmas.Nat.{from_le_bytes-to_le_bytes_4}
use Rattle.guest_asm.specs.Listing.{list_of, word_line}

pub one_word : (word : ℕ) → word < 2 ^ 32 → list_of (to_le_bytes w32 word) ≡ word_line word
unfolding list_of
one_word word small =
    let line = word_line (from_le_bytes w32 (to_le_bytes w32 word)) in
    append-nil (line ++ []) ∙ append-nil line ∙ ap word_line (from_le_bytes-to_le_bytes_4 word small)
