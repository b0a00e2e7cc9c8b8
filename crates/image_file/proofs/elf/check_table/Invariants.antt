use Rattle.std.proofs.Common.{◌≡◌, ℕ, ◌<◌, ◌≤◌, None}
use Rattle.ram_block.specs.Shape.{ram_bytes_of}
use Rattle.image_file.specs.Elf.{table_fault, image_len, IsSoundHeader}
use Rattle.image_file.proofs.elf.check_table.Given as goal
use Rattle.ram_block.specs.declared.limits.TheConstants.{MAX_RAM}

-- the program headers so far have no fault
abbrev pub invariant-loop-j : goal.invariant-loop-j
invariant-loop-j l = record {
  same_ram : l.ram ≡ ram_bytes_of l.shape;
  small : l.ram ≤ MAX_RAM;
  none : table_fault l.file l.ram l.j ≡ None;
  len : l.len ≡ image_len l.file l.j;
  fits : l.len ≤ l.ram;
  sound : (i : ℕ) → i < l.j → IsSoundHeader l.file i;
}
