-- A piece of a stream: so many bytes of the file from a place on (this project's own, docs/FILE_FORMAT.md).
use Rattle.std.specs.Prelude.{◌≡◌, ⊤, ℕ, ◌+◌, ◌-◌, ◌<◌, List, ◌∷◌, length, take, drop, Result, Ok, Err, ◌==◌, nat_lt, if◌then◌else◌}
use Rattle.mig_stream.specs.declared.field_fault.FieldFault.{FieldFault}
use Rattle.mig_stream.specs.declared.field_fault.FieldFault.TheVariants.{Truncated, ReadFault}
use Rattle.mig_stream.specs.declared.text_fault.TextFault.{TextFault}
use Rattle.mig_stream.specs.declared.text_fault.TextFault.TheVariants.{Field, Differs}

-- the bytes of the piece that begins at the place, or that the file ends in it
abbrev pub piece_in : List ℕ → ℕ → ℕ → Result (List ℕ) FieldFault
piece_in file at len = if nat_lt (length file - at) len then Err (Truncated at) else Ok (take len (drop at file))

-- whether the bytes from a place on go on as the text does, or the place and the value of the first that differs
abbrev pub same_text : ℕ → List ℕ → List ℕ → Result (Unit {0}) TextFault
same_text place (found ∷ bytes) (wanted ∷ text) = if found == wanted then same_text (place + 1) bytes text else Err (Differs place found)
same_text place bytes text = Ok tt

-- the piece of which the bytes must be those of the text
abbrev pub checked_text : ℕ → List ℕ → Result (List ℕ) FieldFault → Result (Unit {0}) TextFault
checked_text at text (Ok bytes) = same_text at bytes text
checked_text at text (Err fault) = Err (Field fault)

-- whether the piece at the place is the text, or why it isn't
abbrev pub text_in : List ℕ → ℕ → List ℕ → Result (Unit {0}) TextFault
text_in file at text = checked_text at text (piece_in file at (length text))

-- the buffer has the piece, or the fault is the piece's own, unless reading failed
abbrev pub ReadsPiece : Result (List ℕ) FieldFault → List ℕ → Result (Unit {0}) FieldFault → Type 0
ReadsPiece piece buf (Ok _) = piece ≡ Ok buf
ReadsPiece piece buf (Err (Truncated at)) = piece ≡ Err (Truncated at)
ReadsPiece piece buf (Err ReadFault) = ⊤

-- the text was found or not found as it stands in the file, unless reading failed
abbrev pub ReadsText : Result (Unit {0}) TextFault → Result (Unit {0}) TextFault → Type 0
ReadsText text (Ok _) = text ≡ Ok tt
ReadsText text (Err (Differs place found)) = text ≡ Err (Differs place found)
ReadsText text (Err (Field (Truncated at))) = text ≡ Err (Field (Truncated at))
ReadsText text (Err (Field ReadFault)) = ⊤

-- the bytes of the file from the place on, as many as the piece has
abbrev pub Has : List ℕ → ℕ → List ℕ → Type 0
Has file at piece = take (length piece) (drop at file) ≡ piece

-- wherever a file has the text of a number below the limit and these bytes, the bytes are the text, and the number
-- that was read from them is the one that was put
abbrev pub ReadsBack : (ℕ → List ℕ) → ℕ → List ℕ → ℕ → Type 0
ReadsBack text limit bytes number = (file : List ℕ) (at v : ℕ) → v < limit → Has file at (text v) → Has file at bytes → (bytes ≡ text v) × (number ≡ v)
