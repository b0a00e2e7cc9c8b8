-- A record stands behind the pages of the block before it.
use Rattle.std.proofs.Common.{◌≡◌, ℕ, zero, suc, ◌+◌, ◌≤◌, refl, add-one, arith}
use Rattle.mapped_ram_header.specs.Places.{places_of}
use Rattle.file_plan.specs.Plan.{record_place}
use Rattle.file_plan.specs.declared.plan.TheConstants.{FIRST_RECORD, RECORD_HEAD}

pub record_place_first : (pages : ℕ) → record_place pages 0 ≡ FIRST_RECORD
unfolding record_place
record_place_first pages = refl

pub record_place_more : (pages block : ℕ) → record_place pages (block + 1) ≡ (places_of (record_place pages block + RECORD_HEAD) pages).end
unfolding record_place
record_place_more pages block = rw add-one refl

-- no record stands before the end of the front
pub record_past_front : (pages block : ℕ) → 47 ≤ record_place pages block
unfolding record_place
record_past_front pages zero = omega arith
record_past_front pages (suc block) = omega (arith, record_past_front pages block)
