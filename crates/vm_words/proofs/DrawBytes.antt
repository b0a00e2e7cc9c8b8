-- One more draw in the image of the workload.
use Rattle.std.proofs.Common.{◌≡◌, ℕ, ◌+◌, ◌-◌, ◌*◌, ◌^◌, ◌<◌, List, [], ◌∷◌, ◌++◌, length, length-append, get_or, take, replicate, refl, sym, ap, ◌∙◌, arith}
use Rattle.std.specs.Int.{to_le_bytes, w32, w64}
use Rattle.std.specs.List.{flat_map}
use Rattle.std.proofs.lemmas.List.{append-nil, flat_map_more, length-replicate, take_more}
use Rattle.std.proofs.lemmas.List.Concat.{flat_map-cons}
use Rattle.std.proofs.lemmas.List.FromFn.{length-map-range_with_len, map-range_with_len_more}
use Rattle.vm_words.specs.Generator.{draw}
use Rattle.vm_words.specs.Workload.{draw_bytes, draws, program_bytes, work}
use Rattle.vm_words.specs.declared.workload.TheConstants.{DRAWS, DRAWS_AT}

-- no draw
pub draw_bytes_none : (bytes : List ℕ) (seed : ℕ) → bytes ++ draw_bytes seed 0 ≡ bytes
unfolding draw_bytes
draw_bytes_none bytes seed = append-nil bytes

-- one more
pub draw_bytes_more : (bytes : List ℕ) (seed n : ℕ) → bytes ++ draw_bytes seed (n + 1) ≡ (bytes ++ draw_bytes seed n) ++ to_le_bytes w64 (draw seed (n + 1))
unfolding draw_bytes
draw_bytes_more bytes seed n =
    ap (λ (l : List ℕ). bytes ++ flat_map (to_le_bytes w64) l) (map-range_with_len_more (λ i. draw seed (i + 1)) 0 n n (omega arith))
    ∙ sym (flat_map_more (to_le_bytes w64) bytes (draws seed n) (draw seed (n + 1)))

-- one more word
pub words_more : (bytes : List ℕ) (words : List ℕ) (i : ℕ) (d : ℕ) → i < length words
    → bytes ++ flat_map (to_le_bytes w32) (take (i + 1) words) ≡ (bytes ++ flat_map (to_le_bytes w32) (take i words)) ++ to_le_bytes w32 (get_or words i d)
words_more bytes words i d inside =
    ap (λ (l : List ℕ). bytes ++ flat_map (to_le_bytes w32) l) (take_more words i d inside)
    ∙ sym (flat_map_more (to_le_bytes w32) bytes (take i words) (get_or words i d))

-- ---- The size of the image

eight_bytes : (x : ℕ) → length (to_le_bytes w64 x) ≡ 8
eight_bytes x = refl

eight_each : (xs : List ℕ) → length (flat_map (to_le_bytes w64) xs) ≡ 8 * length xs
eight_each [] = refl
eight_each (x ∷ xs) =
    omega (arith, ap length (flat_map-cons (to_le_bytes w64) x xs), length-append (to_le_bytes w64 x) (flat_map (to_le_bytes w64) xs), eight_bytes x, eight_each xs)

length_draws : (seed n : ℕ) → length (draw_bytes seed n) ≡ 8 * n
unfolding draw_bytes
length_draws seed n = omega (arith, eight_each (draws seed n), length-map-range_with_len (λ i. draw seed (i + 1)) 0 n)

program_size : length program_bytes ≡ 36
program_size = refl

pub length_work : (seed : ℕ) → length (work seed) ≡ 2 ^ 21
unfolding work
length_work seed =
    omega (
      arith,
      program_size,
      length-append (program_bytes ++ replicate (DRAWS_AT - length program_bytes) 0) (draw_bytes seed DRAWS),
      length-append program_bytes (replicate (DRAWS_AT - length program_bytes) 0),
      length-replicate {A = ℕ} (DRAWS_AT - length program_bytes) 0,
      length_draws seed DRAWS,
    )
