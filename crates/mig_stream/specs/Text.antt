-- The texts of a stream of sections (this project's own, docs/FILE_FORMAT.md).
use Rattle.std.specs.Prelude.{ℕ, List, ◌∷◌, ◌++◌, length, take, drop}
use Rattle.std.specs.Int.{w32, w64, from_be_bytes, to_be_bytes}
use Rattle.mig_stream.specs.declared.put.TheConstants.{FOOTER}

-- a number in four bytes, the highest first
abbrev pub be32 : ℕ → List ℕ
be32 n = to_be_bytes w32 n

-- a number in eight bytes, the highest first
abbrev pub be64 : ℕ → List ℕ
be64 n = to_be_bytes w64 n

-- the number in the four bytes from a place on, and in the eight
abbrev pub be32_at : List ℕ → ℕ → ℕ
be32_at bytes at = from_be_bytes w32 (take 4 (drop at bytes))

abbrev pub be64_at : List ℕ → ℕ → ℕ
be64_at bytes at = from_be_bytes w64 (take 8 (drop at bytes))

-- a header that names its section: type, id, name after its length, instance and version
abbrev pub start_text : ℕ → ℕ → List ℕ → ℕ → ℕ → List ℕ
start_text kind id name instance version = kind ∷ (be32 id ++ (length name ∷ (name ++ (be32 instance ++ be32 version))))

-- a header of a section that has begun: type and id
abbrev pub part_text : ℕ → ℕ → List ℕ
part_text kind id = kind ∷ be32 id

-- what ends a section's part
abbrev pub footer_text : ℕ → List ℕ
footer_text id = part_text FOOTER id
