-- The image of a machine, of a source's bytes (this project's own limits, docs/COMMAND_LINE.md; the first bytes of an
-- ELF file, ELF-64 Object File Format, version 1.5, ELF Identification).
use Rattle.std.specs.Prelude.{◌≡◌, ℕ, ◌+◌, ◌≤◌, List, [], ◌∷◌, ◌++◌, length, take, drop, Option, Some, None, Result, Ok, Err, if◌then◌else◌, nat_lt, nat_eq}
use Rattle.std.specs.List.{starts_with}
use Rattle.ram_block.specs.Shape.{ShapeData, ram_bytes_of}
use Rattle.medium.specs.States.{SourceState}
use Rattle.image_file.specs.declared.raw.TheConstants.{MOST_IMAGE}
use Rattle.image_file.specs.declared.image.TheConstants.{ELF_MAGIC}
use Rattle.image_file.specs.declared.image_refusal.ImageRefusal.{ImageRefusal}
use Rattle.image_file.specs.declared.image_refusal.ImageRefusal.TheVariants.{Empty, TooLong}
use Rattle.image_file.specs.declared.image_fault.ImageFault.{ImageFault}
use Rattle.image_file.specs.declared.image_fault.ImageFault.TheVariants.{Refused, ReadFault, NoMemory}
use Rattle.image_file.specs.Elf.{elf_of}

-- the bytes, of which there may be at most limit
abbrev pub raw_of : List ℕ → ℕ → Result (List ℕ) ImageRefusal
raw_of bytes limit = if nat_lt limit (length bytes) then Err (TooLong (limit + 1)) else Ok bytes

-- the bytes as they are, of which there may be at most those of RAM
abbrev pub flat_of : List ℕ → ℕ → Result (List ℕ) ImageRefusal
flat_of bytes ram = if nat_lt ram (length bytes) then Err (TooLong (length bytes)) else Ok bytes

-- the image that a file within the limit holds
abbrev pub image_within : List ℕ → ShapeData → Result (List ℕ) ImageRefusal
image_within [] shape = Err Empty
image_within (b ∷ bytes) shape =
    if starts_with nat_eq (b ∷ bytes) ELF_MAGIC then elf_of (b ∷ bytes) (ram_bytes_of shape) else flat_of (b ∷ bytes) (ram_bytes_of shape)

-- the image that these bytes are for a machine of this shape, or why they are refused
abbrev pub image_of : List ℕ → ShapeData → Result (List ℕ) ImageRefusal
image_of bytes shape = if nat_lt MOST_IMAGE (length bytes) then Err (TooLong (MOST_IMAGE + 1)) else image_within bytes shape

-- the call answered this, unless reading failed or memory ran out
abbrev pub Answers : {X : Type 0} → (X → List ℕ) → Result (List ℕ) ImageRefusal → Result X ImageFault → Type 0
Answers view read (Ok x) = read ≡ Ok (view x)
Answers view read (Err (Refused r)) = read ≡ Err r
Answers view read (Err ReadFault) = Unit {0}
Answers view read (Err NoMemory) = Unit {0}

-- no other refusal comes
abbrev pub RefusesOnly : ImageRefusal → ImageFault → Type 0
RefusesOnly r (Refused q) = q ≡ r
RefusesOnly r ReadFault = Unit {0}
RefusesOnly r NoMemory = Unit {0}

-- it refuses nothing
abbrev pub RefusesNothing : ImageFault → Type 0
RefusesNothing (Refused q) = ⊥
RefusesNothing ReadFault = Unit {0}
RefusesNothing NoMemory = Unit {0}

-- it is no fault of reading
abbrev pub IsNoReadFault : ImageFault → Type 0
IsNoReadFault (Refused q) = Unit {0}
IsNoReadFault ReadFault = ⊥
IsNoReadFault NoMemory = Unit {0}

-- what stands behind the first n bytes
unfoldable pub behind : ℕ → List ℕ → List ℕ
behind n bytes = drop n bytes

-- n bytes went from the front of what was left to the end of what was read; 0 is the end
pub record MovesBytes (old : List ℕ) (new : Option (List ℕ)) (n : ℕ) (before after : List ℕ) : Type 0 where
  pub within : n ≤ length old
  pub moved : after ≡ before ++ take n old
  pub rest : new ≡ Some (behind n old)
  pub end : n ≡ 0 → old ≡ []

-- the same, where the bytes are told; a source that tells none goes on telling none
abbrev pub Moves : Option (List ℕ) → Option (List ℕ) → ℕ → List ℕ → List ℕ → Type 0
Moves (Some old) new n before after = MovesBytes old new n before after
Moves None new n before after = new ≡ None

-- the call came to the end of the bytes, or to its limit
abbrev pub IsReadToEnd : {X : Type 0} → Result X ImageFault → Type 0
IsReadToEnd (Ok x) = Unit {0}
IsReadToEnd (Err (Refused r)) = Unit {0}
IsReadToEnd (Err ReadFault) = ⊥
IsReadToEnd (Err NoMemory) = ⊥

-- some of the first bytes that were left were read, and no more of them than this; a source that tells none goes on
-- telling none
abbrev pub LeavesBehind : ℕ → Option (List ℕ) → Option (List ℕ) → Type 0
LeavesBehind most (Some old) new = (n : ℕ) × (n ≤ most) × (new ≡ Some (behind n old))
LeavesBehind most None new = new ≡ None

-- what a call that reads at most so many bytes leaves of its source
pub record ReadsOn (most : ℕ) (old new : SourceState) : Type 0 where
  pub left : LeavesBehind most old.left new.left
  pub never_falls : old.faults ≤ new.faults
