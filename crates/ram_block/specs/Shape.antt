-- The size of a machine (this project's own limits, docs/MACHINE.md).
use Rattle.std.specs.Prelude.{ℕ, ◌*◌, ◌≤◌}
use Rattle.ram_block.specs.declared.page_buf.TheConstants.{PAGE}
use Rattle.ram_block.specs.declared.shape.TheConstants.{MAX_VCPUS, MAX_BLOCKS, MAX_PAGES}

-- how many vCPUs, blocks of RAM, and pages in each block
pub record ShapeData : Type 0 where
  pub vcpus : ℕ
  pub blocks : ℕ
  pub pages : ℕ

-- from one to the most
abbrev pub IsWithin : ℕ → ℕ → Type 0
IsWithin n most = (1 ≤ n) × (n ≤ most)

-- within the limits
pub record IsShape (s : ShapeData) : Type 0 where
  pub vcpus : IsWithin s.vcpus MAX_VCPUS
  pub blocks : IsWithin s.blocks MAX_BLOCKS
  pub pages : IsWithin s.pages MAX_PAGES

-- the pages of all blocks
abbrev pub total_pages_of : ShapeData → ℕ
total_pages_of s = s.blocks * s.pages

-- the bytes of all blocks
abbrev pub ram_bytes_of : ShapeData → ℕ
ram_bytes_of s = total_pages_of s * PAGE
