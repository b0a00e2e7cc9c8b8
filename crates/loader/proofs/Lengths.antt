-- What a length that passed its checks says of the blocks and the pages.
use Rattle.std.proofs.Common.{◌≡◌, ℕ, ◌*◌, ◌/◌, ◌%◌, ◌≤◌, ◌<◌, true, ◌∙◌, ap, arith, mul_assoc, mul_comm, inl, inr, mul-zero}
use Rattle.std.proofs.lemmas.Bool.{cases_lt, and_parts, leb-true, eqb-true}
use Rattle.loader.specs.Frame.{is_length}

-- the parts of the check as numbers
pub record IsLength (total v : ℕ) : Type 0 where
  pub whole : v % 4096 ≡ 0
  pub least : 4096 ≤ v
  pub most : v ≤ 8388608
  pub divides : total % v ≡ 0
  pub blocks : total / v ≤ 8

pub length_parts : (total v : ℕ) → is_length total v ≡ true → IsLength total v
length_parts total v right =
    let four = and_parts _ _ right in
    let three = and_parts _ _ four.0 in
    let two = and_parts _ _ three.0 in
    let one = and_parts _ _ two.0 in
    record {
      whole = eqb-true _ _ one.0;
      least = leb-true _ _ one.1;
      most = leb-true _ _ two.1;
      divides = eqb-true _ _ three.1;
      blocks = leb-true _ _ four.1;
    }

-- the blocks and their pages make the total
pub total_is : (total v : ℕ) → IsLength total v → total / v * (v / 4096) * 4096 ≡ total
total_is total v parts =
    let pages : v / 4096 * 4096 ≡ v = omega (arith, parts.whole) in
    let blocks : v * (total / v) ≡ total = omega (arith, parts.divides) in
    mul_assoc (total / v) (v / 4096) 4096 ∙ ap (λ (k : ℕ). total / v * k) pages ∙ mul_comm (total / v) v ∙ blocks

-- there is a block
pub some_block : (total v : ℕ) → 4096 ≤ total → IsLength total v → 0 < total / v
some_block total v some parts =
    let blocks : v * (total / v) ≡ total = omega (arith, parts.divides) in
    elim (cases_lt 0 (total / v)) [
      | inl more ↦ more
      | inr none ↦
          let zero_blocks : total / v ≡ 0 = omega (arith, none) in
          let nothing : v * (total / v) ≡ 0 = ap (λ (k : ℕ). v * k) zero_blocks ∙ mul-zero v in
          absurd (omega (arith, nothing, blocks, some))
    ]
