-- The pieces of a file, one behind another: each is read whole and then checked, and the first that fails refuses the file
-- (this project's own, docs/FILE_FORMAT.md).
use Rattle.std.specs.Prelude.{ℕ, Bool, List, Result, Ok, Err, if◌then◌else◌}
use Rattle.mig_stream.specs.Pieces.{piece_in}
use Rattle.mig_stream.specs.Text.{be32_at, be64_at}
use Rattle.mig_stream.specs.declared.field_fault.FieldFault.{FieldFault}
use Rattle.mig_stream.specs.declared.field_fault.FieldFault.TheVariants.{Truncated, ReadFault}

-- what follows, where this is there and right
abbrev pub and_then : {A B F : Type 0} → Result A F → (A → Result B F) → Result B F
and_then (Ok found) rest = rest found
and_then (Err refusal) rest = Err refusal

-- a check of what was read
abbrev pub check : {F : Type 0} → Bool → F → Result (Unit {0}) F
check right refusal = if right then Ok tt else Err refusal

-- where the piece begins in which the file ends; bytes that are told have no fault of reading
abbrev pub cut_at : FieldFault → ℕ
cut_at (Truncated at) = at
cut_at ReadFault = 0

-- what is read from a piece, or the refusal that a cut piece has by its place
abbrev pub read_from : {A F : Type 0} → (ℕ → F) → (List ℕ → A) → Result (List ℕ) FieldFault → Result A F
read_from cut read (Ok bytes) = Ok (read bytes)
read_from cut read (Err fault) = Err (cut (cut_at fault))

-- the number of the piece of four bytes at the place, and of eight
abbrev pub number32_in : {F : Type 0} → (ℕ → F) → List ℕ → ℕ → Result ℕ F
number32_in cut file at = read_from cut (λ bytes. be32_at bytes 0) (piece_in file at 4)

abbrev pub number64_in : {F : Type 0} → (ℕ → F) → List ℕ → ℕ → Result ℕ F
number64_in cut file at = read_from cut (λ bytes. be64_at bytes 0) (piece_in file at 8)
