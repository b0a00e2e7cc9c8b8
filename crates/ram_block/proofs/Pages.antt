-- A page of zeros behind bytes from its start.
use Rattle.std.proofs.Common.{◌≡◌, ℕ, ◌-◌, length, drop}
use Rattle.std.specs.Prelude.{replicate}
use Rattle.std.proofs.lemmas.List.{drop-replicate, length-replicate}
use Rattle.ram_block.specs.Page.{zero_page}
use Rattle.ram_block.specs.declared.page_buf.TheConstants.{PAGE}

pub length-zero_page : length zero_page ≡ 4096
unfolding zero_page
length-zero_page = length-replicate {A = ℕ} 4096 0

pub drop-zero_page : (n : ℕ) → drop n zero_page ≡ replicate (4096 - n) 0
unfolding zero_page
drop-zero_page n = drop-replicate {X = ℕ} n 4096 0

-- behind the first bytes of zeros that make a page stand zeros
pub zeros_behind : (n : ℕ) → drop {A = ℕ} n (replicate PAGE 0) ≡ replicate (PAGE - n) 0
zeros_behind n = drop-replicate {X = ℕ} n PAGE 0
