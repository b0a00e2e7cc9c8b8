-- The text of an order of events: an order file (this project's own, docs/FILE_FORMAT.md).
use Rattle.std.specs.Prelude.{ℕ, ◌+◌, ◌*◌, ◌<◌, ◌≤◌, List, [], ◌∷◌, ◌++◌, length, All}
use Rattle.mig_stream.specs.Text.{be32, be64}
use Rattle.order_log.specs.declared.format.TheConstants.{MAGIC, VERSION, MAX_EVENTS}

-- an order of a machine with so many vCPUs: each member is one of them
pub record IsOrder (vcpus : ℕ) (o : List ℕ) : Type 0 where
  pub most : length o ≤ MAX_EVENTS
  pub members : All (λ k. k < vcpus) o

-- the members, two a byte: the earlier in the low four bits, and behind an odd last one 0
unfoldable pub packed : List ℕ → List ℕ
packed [] = []
packed (k ∷ []) = k ∷ []
packed (k ∷ j ∷ o) = (k + 16 * j) ∷ packed o

-- what stands before the members: the magic, the version, how many vCPUs there are, and how many members
abbrev pub head_text : ℕ → ℕ → List ℕ
head_text vcpus count = (be32 MAGIC ++ be32 VERSION) ++ (be32 vcpus ++ be64 count)

-- the text of an order of a machine with so many vCPUs
unfoldable pub text_of : List ℕ → ℕ → List ℕ
text_of o vcpus = head_text vcpus (length o) ++ packed o
