-- What an AMO writes that compares: one of two values.
use Rattle.std.proofs.Common.{◌≡◌, ◌≢◌, inl, inr, ⊎_elim, ℕ, ◌^◌, ◌<◌, Bool, true, false, min, max, cond, refl, arith}
use Rattle.std.specs.Prelude.{◌⊎◌, int_lt}
use Rattle.std.specs.Int.{w32, w64, cast_signed, cast_unsigned, int_min, int_max}
use Rattle.std.proofs.lemmas.Bool.{cases_lt}
use Rattle.std.proofs.lemmas.Int.{of_z-to_z}
use Rattle.ram_block.specs.declared.place.Width.{Width}
use Rattle.ram_block.specs.declared.place.Width.TheVariants.{One, Two, Four, Eight}
use Rattle.rv64i_decode.specs.declared.op.AmoOp.TheVariants.{Min, Max}
use Rattle.rv64i_step.specs.Amo.{amo_written}
use Rattle.rv64i_step.specs.Laws.{AmosChoose, FitsIn, WritesOneOf}

-- of two numbers with sign, the one that was chosen, as 64 bits again
wide_choice : (b : Bool) (x y : ℕ) → x < 2 ^ 64 → y < 2 ^ 64 →
    (cast_unsigned w64 (cond b (cast_signed w64 x) (cast_signed w64 y)) ≡ x) ⊎ (cast_unsigned w64 (cond b (cast_signed w64 x) (cast_signed w64 y)) ≡ y)
wide_choice true x y p q = inl (of_z-to_z w64 x p)
wide_choice false x y p q = inr (of_z-to_z w64 y q)

-- and as 32 bits
word_choice : (b : Bool) (x y : ℕ) → x < 2 ^ 32 → y < 2 ^ 32 →
    (cast_unsigned w32 (cond b (cast_signed w32 x) (cast_signed w32 y)) ≡ x) ⊎ (cast_unsigned w32 (cond b (cast_signed w32 x) (cast_signed w32 y)) ≡ y)
word_choice true x y p q = inl (of_z-to_z w32 x p)
word_choice false x y p q = inr (of_z-to_z w32 y q)

-- the two in the other order
swapped : (r x y : ℕ) → (r ≡ x) ⊎ (r ≡ y) → (r ≡ y) ⊎ (r ≡ x)
swapped r x y (inl e) = inr e
swapped r x y (inr e) = inl e

-- a value of at most 32 bits
is_word : (width : Width) (a : ℕ) → width ≢ Eight → FitsIn width a → a < 2 ^ 32
is_word One a narrow fits = omega (arith, fits.1)
is_word Two a narrow fits = omega (arith, fits.1)
is_word Four a narrow fits = omega (arith, fits.1)
is_word Eight a narrow fits = absurd (narrow refl)

word_min : (x y : ℕ) → x < 2 ^ 32 → y < 2 ^ 32 →
    (cast_unsigned w32 (int_min (cast_signed w32 x) (cast_signed w32 y)) ≡ x) ⊎ (cast_unsigned w32 (int_min (cast_signed w32 x) (cast_signed w32 y)) ≡ y)
word_min x y p q = swapped _ y x (word_choice (int_lt (cast_signed w32 y) (cast_signed w32 x)) y x q p)

word_max : (x y : ℕ) → x < 2 ^ 32 → y < 2 ^ 32 →
    (cast_unsigned w32 (int_max (cast_signed w32 x) (cast_signed w32 y)) ≡ x) ⊎ (cast_unsigned w32 (int_max (cast_signed w32 x) (cast_signed w32 y)) ≡ y)
word_max x y p q = word_choice (int_lt (cast_signed w32 y) (cast_signed w32 x)) x y p q

one_by_min : WritesOneOf Min
unfolding amo_written
one_by_min One x y p q = word_min x y (is_word One x (λ e. cc) p) (is_word One y (λ e. cc) q)
one_by_min Two x y p q = word_min x y (is_word Two x (λ e. cc) p) (is_word Two y (λ e. cc) q)
one_by_min Four x y p q = word_min x y (is_word Four x (λ e. cc) p) (is_word Four y (λ e. cc) q)
one_by_min Eight x y p q = swapped _ y x (wide_choice (int_lt (cast_signed w64 y) (cast_signed w64 x)) y x q.0 p.0)

one_by_max : WritesOneOf Max
unfolding amo_written
one_by_max One x y p q = word_max x y (is_word One x (λ e. cc) p) (is_word One y (λ e. cc) q)
one_by_max Two x y p q = word_max x y (is_word Two x (λ e. cc) p) (is_word Two y (λ e. cc) q)
one_by_max Four x y p q = word_max x y (is_word Four x (λ e. cc) p) (is_word Four y (λ e. cc) q)
one_by_max Eight x y p q = wide_choice (int_lt (cast_signed w64 y) (cast_signed w64 x)) x y p.0 q.0

least : (x y : ℕ) → (min x y ≡ x) ⊎ (min x y ≡ y)
least x y = ⊎_elim (λ below. inl (omega arith)) (λ above. inr (omega arith)) (cases_lt x y)

greatest : (x y : ℕ) → (max x y ≡ x) ⊎ (max x y ≡ y)
greatest x y = ⊎_elim (λ below. inr (omega arith)) (λ above. inl (omega arith)) (cases_lt x y)

pub amos_choose : AmosChoose
unfolding amo_written
amos_choose = record {
  swap = λ width found value. refl;
  min = one_by_min;
  max = one_by_max;
  minu = λ width found value p q. least found value;
  maxu = λ width found value p q. greatest found value;
}
