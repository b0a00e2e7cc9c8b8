-- One more draw and its turn, and that each turn is there.
use Rattle.std.proofs.Common.{◌≡◌, ℕ, ◌+◌, ◌/◌, ◌%◌, ◌^◌, [], ◌∷◌, ◌++◌, length, All, refl, add-one, arith, inl, inr}
use Rattle.std.specs.Prelude.{nat_lt, if◌then◌else◌}
use Rattle.std.specs.List.{range_with_len}
use Rattle.std.proofs.lemmas.Bool.{cases_Bool}
use Rattle.std.proofs.lemmas.Bool.Decides.{nat_tests}
use Rattle.std.proofs.lemmas.List.Elements.{All-map}
use Rattle.std.proofs.lemmas.List.FromFn.{length-map-range_with_len, map-range_with_len_more}
use Rattle.vm_words.specs.declared.turns.TurnOf.TheVariants.{Cpu, Saver}
use Rattle.vm_words.specs.Generator.{next, draw, turn_drawn, turns_drawn}
use Rattle.vm_words.specs.Turns.{IsTurn}

-- before the first draw stands the seed
pub draw_none : (seed : ℕ) → draw seed 0 ≡ seed
unfolding draw
draw_none seed = refl

-- each draw follows the one before
pub draw_more : (seed n : ℕ) → draw seed (n + 1) ≡ next (draw seed n)
unfolding draw
draw_more seed n = rw add-one refl

-- no turn
pub turns_none : (seed vcpus : ℕ) → turns_drawn seed vcpus 0 ≡ []
unfolding turns_drawn
turns_none seed vcpus = refl

-- one more turn
pub turns_more : (seed vcpus n : ℕ) → turns_drawn seed vcpus (n + 1) ≡ turns_drawn seed vcpus n ++ turn_drawn vcpus (draw seed (n + 1)) ∷ []
unfolding turns_drawn
turns_more seed vcpus n = map-range_with_len_more (λ i. turn_drawn vcpus (draw seed (i + 1))) 0 n n (omega arith)

-- a drawn turn is there
drawn_there : (vcpus x : ℕ) → IsTurn vcpus (turn_drawn vcpus x)
drawn_there vcpus x = by_test (x / 2 ^ 33 % (vcpus + 1))
  where
    by_test : (t : ℕ) → IsTurn vcpus (if nat_lt t vcpus then Cpu t else Saver)
    by_test t = elim (cases_Bool (nat_lt t vcpus)) [
      | inl below ↦ rw below (grind (arith, nat_tests, below))
      | inr past ↦ rw past tt
    ]

-- and so are all
pub all_drawn_there : (seed vcpus n : ℕ) → All (IsTurn vcpus) (turns_drawn seed vcpus n)
unfolding turns_drawn
all_drawn_there seed vcpus n = All-map (IsTurn vcpus) (λ i. turn_drawn vcpus (draw seed (i + 1))) (range_with_len 0 n) (λ k d within. drawn_there vcpus _)

-- which are as many as were asked for
pub length-turns_drawn : (seed vcpus n : ℕ) → length (turns_drawn seed vcpus n) ≡ n
unfolding turns_drawn
length-turns_drawn seed vcpus n = length-map-range_with_len (λ i. turn_drawn vcpus (draw seed (i + 1))) 0 n
