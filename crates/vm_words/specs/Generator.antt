-- The generator of turns: a linear congruential one, modulo 2^64 (this project's own, docs/COMMAND_LINE.md).
use Rattle.std.specs.Prelude.{ℕ, zero, suc, ◌+◌, ◌*◌, ◌/◌, ◌%◌, ◌^◌, nat_lt, List, map, if◌then◌else◌}
use Rattle.std.specs.List.{range_with_len}
use Rattle.vm_words.specs.declared.turns.TurnOf.{TurnOf}
use Rattle.vm_words.specs.declared.turns.TurnOf.TheVariants.{Cpu, Saver}

-- the draw that follows
abbrev pub next : ℕ → ℕ
next x = (x * 6364136223846793005 + 1442695040888963407) % 2 ^ 64

-- draw i of a seed: that which follows, i times
unfoldable pub draw : ℕ → ℕ → ℕ
draw seed zero = seed
draw seed (suc i) = next (draw seed i)

-- the turn that a draw gives among so many vCPUs and the saver
abbrev pub turn_drawn : ℕ → ℕ → TurnOf
turn_drawn vcpus x =
    let t = (x / 2 ^ 33) % (vcpus + 1) in
    if nat_lt t vcpus then Cpu t else Saver

-- the first n turns of a seed: turn i is that of draw i + 1
unfoldable pub turns_drawn : ℕ → ℕ → ℕ → List TurnOf
turns_drawn seed vcpus n = map (λ i. turn_drawn vcpus (draw seed (i + 1))) (range_with_len 0 n)
