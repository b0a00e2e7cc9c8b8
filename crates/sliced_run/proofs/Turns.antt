-- Turns one after another, and turns that change nothing.
use Rattle.std.proofs.Common.{◌≡◌, ℕ, zero, suc, ◌+◌, List, [], ◌∷◌, ◌++◌, replicate, Some, refl, sym, ◌∙◌, ap, arith}
use Rattle.flat_machine.specs.Machine.{MachineData}
use Rattle.bg_saver.specs.declared.save_end.SaveEnd.{SaveEnd}
use Rattle.vm_words.specs.declared.turns.TurnOf.{TurnOf}
use Rattle.vm_words.specs.declared.turns.TurnOf.TheVariants.{Saver}
use Rattle.sliced_run.specs.CoreRun.{SlicedPhase, SlicedState, sliced_after, sliced_turn, saver_turn, saver_turn_by, round_turns, rounds_of}

-- turns, and turns after them
pub after-append : (phase : SlicedPhase) (s : SlicedState) (first second : List TurnOf) →
    sliced_after phase s (first ++ second) ≡ sliced_after phase (sliced_after phase s first) second
unfolding sliced_after
after-append phase s [] second = refl
after-append phase s (turn ∷ first) second = after-append phase (sliced_turn phase s turn) first second

-- one turn more
pub after-push : (phase : SlicedPhase) (s : SlicedState) (turns : List TurnOf) (turn : TurnOf) →
    sliced_after phase s (turns ++ turn ∷ []) ≡ sliced_turn phase (sliced_after phase s turns) turn
unfolding sliced_after
after-push phase s turns turn = after-append phase s turns (turn ∷ [])

-- the saver of a save that has ended does nothing
pub ended_stays : (phase : SlicedPhase) (s : SlicedState) (saved : SaveEnd) → s.saved ≡ Some saved → saver_turn phase.fails_at s ≡ s
unfolding saver_turn
ended_stays phase s saved is = ap (λ o. saver_turn_by o phase.fails_at s) is

pub ended_turns : (phase : SlicedPhase) (s : SlicedState) (saved : SaveEnd) (n : ℕ) → s.saved ≡ Some saved → sliced_after phase s (replicate n Saver) ≡ s
unfolding sliced_after
ended_turns phase s saved zero is = refl
ended_turns phase s saved (suc n) is = ap (λ x. sliced_after phase x (replicate n Saver)) (ended_stays phase s saved is) ∙ ended_turns phase s saved n is

-- after a round that changes nothing, no other changes anything
pub idle_rounds : (phase : SlicedPhase) (s : SlicedState) (i : MachineData) (n : ℕ) → sliced_after phase s (round_turns i) ≡ s →
    sliced_after phase s (rounds_of i n) ≡ s
unfolding sliced_after rounds_of
idle_rounds phase s i zero same = refl
idle_rounds phase s i (suc n) same =
    after-append phase s (round_turns i) (rounds_of i n)
    ∙ ap (λ x. sliced_after phase x (rounds_of i n)) same
    ∙ idle_rounds phase s i n same

-- rounds, and rounds after them
pub rounds-add : (phase : SlicedPhase) (s : SlicedState) (i : MachineData) (a b : ℕ) →
    sliced_after phase s (rounds_of i (a + b)) ≡ sliced_after phase (sliced_after phase s (rounds_of i a)) (rounds_of i b)
unfolding sliced_after rounds_of
rounds-add phase s i zero b = ap (λ n. sliced_after phase s (rounds_of i n)) (let e : 0 + b ≡ b = omega arith in e)
rounds-add phase s i (suc a) b =
    ap (λ n. sliced_after phase s (rounds_of i n)) (let e : suc a + b ≡ suc (a + b) = omega arith in e)
    ∙ after-append phase s (round_turns i) (rounds_of i (a + b))
    ∙ rounds-add phase (sliced_after phase s (round_turns i)) i a b
    ∙ ap (λ x. sliced_after phase x (rounds_of i b)) (sym (after-append phase s (round_turns i) (rounds_of i a)))
