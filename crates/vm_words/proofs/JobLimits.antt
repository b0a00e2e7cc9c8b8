-- The job of a line with no fault is within its limits.
use Rattle.std.proofs.Common.{◌≡◌, ℕ, ◌+◌, ◌≤◌, ◌&&◌, ◌||◌, ◌==◌, Bool, true, false, List, [], ◌∷◌, length, codes, Option, Some, None, is_none, unwrap_or, All, refl, sym, ap, ◌∙◌, arith, inl, inr}
use Rattle.std.specs.Prelude.{nat_le, if◌then◌else◌}
use Rattle.std.specs.List.{cons_option, list_any}
use Rattle.std.specs.Option.{option_and_then, option_map_or}
use Rattle.std.proofs.lemmas.Bool.{cases_Bool, and_parts, or_parts, eqb-true, leb-true}
use Rattle.std.proofs.lemmas.Bool.Decides.{nat_tests}
use Rattle.std.proofs.lemmas.List.Elements.{All-nil, All-cons}
use Rattle.ram_block.specs.Shape.{IsShape, ram_bytes_of}
use Rattle.ram_block.specs.declared.limits.TheConstants.{MAX_INPUT}
use Rattle.vm_words.specs.declared.turns.TurnOf.{TurnOf}
use Rattle.vm_words.specs.declared.turns.TurnOf.TheVariants.{Cpu, Saver}
use Rattle.vm_words.specs.declared.turns.TheConstants.{MAX_TURNS}
use Rattle.vm_words.specs.declared.job.Mode.TheVariants.{Sliced, Threads}
use Rattle.vm_words.specs.declared.command.CommandName.{CommandName}
use Rattle.vm_words.specs.declared.command.CommandName.TheVariants.{Save, Restore, Check, Asm, Workload, Peek, Layer, Join, Record, Replay}
use Rattle.vm_words.specs.declared.key.Quantity.{Quantity}
use Rattle.vm_words.specs.declared.key.Quantity.TheVariants.{Vcpus, Blocks, Pages, Stop, Run, Seed, Relay, At, Len}
use Rattle.vm_words.specs.declared.key.KeyName.TheVariants as key
use Rattle.vm_words.specs.Command.{key_named}
use Rattle.vm_words.specs.Generator.{turns_drawn}
use Rattle.vm_words.specs.Job.{turns_given, input_given, job_given}
use Rattle.vm_words.specs.Key.{key_text, least_of, most_of}
use Rattle.vm_words.specs.Limits.{IsWithinLimits}
use Rattle.vm_words.specs.Line.{given, number_given, shape_given, has_mode, is_absent_turns, is_idle_relay}
use Rattle.vm_words.specs.Number.{is_decimal, decimal, number_within}
use Rattle.vm_words.specs.Turns.{turn_named, are_turns, turns_named, is_absent, names_absent, IsTurn}
use Rattle.vm_words.proofs.Draws.{all_drawn_there, length-turns_drawn}
use Rattle.vm_words.proofs.NoFaults.{Passes}
use Rattle.vm_words.proofs.GivenWords.{given_form, given_together}

-- ---- Numbers

-- a number from the least to the most, or a default that is
number_by : (least most default : ℕ) (o : Option (List ℕ)) → least ≤ default → default ≤ most →
    (least ≤ unwrap_or (option_and_then (number_within least most) o) default) × (unwrap_or (option_and_then (number_within least most) o) default ≤ most)
number_by least most default None low high = (low, high)
number_by least most default (Some text) low high = elim (cases_Bool (is_decimal text && nat_le least (decimal text) && nat_le (decimal text) most)) [
  | inl good ↦
      let two = and_parts (is_decimal text && nat_le least (decimal text)) (nat_le (decimal text) most) good in
      let one = and_parts (is_decimal text) (nat_le least (decimal text)) two.0 in
      rw good (leb-true _ _ one.1, leb-true _ _ two.1)
  | inr bad ↦ rw bad (low, high)
]

-- the number that a line gives is within its limits
pub number_limits : (rest : List (List ℕ)) (quantity : Quantity) → (least_of quantity ≤ number_given rest quantity) × (number_given rest quantity ≤ most_of quantity)
number_limits rest Vcpus = number_by _ _ _ (given rest (key.Number Vcpus)) (omega arith) (omega arith)
number_limits rest Blocks = number_by _ _ _ (given rest (key.Number Blocks)) (omega arith) (omega arith)
number_limits rest Pages = number_by _ _ _ (given rest (key.Number Pages)) (omega arith) (omega arith)
number_limits rest Stop = number_by _ _ _ (given rest (key.Number Stop)) (omega arith) (omega arith)
number_limits rest Run = number_by _ _ _ (given rest (key.Number Run)) (omega arith) (omega arith)
number_limits rest Seed = number_by _ _ _ (given rest (key.Number Seed)) (omega arith) (omega arith)
number_limits rest Relay = number_by _ _ _ (given rest (key.Number Relay)) (omega arith) (omega arith)
number_limits rest At = number_by _ _ _ (given rest (key.Number At)) (omega arith) (omega arith)
number_limits rest Len = number_by _ _ _ (given rest (key.Number Len)) (omega arith) (omega arith)

-- so is its shape
shape_limits : (rest : List (List ℕ)) (vcpus : ℕ) → 1 ≤ vcpus → vcpus ≤ most_of Vcpus → IsShape (shape_given rest vcpus)
shape_limits rest vcpus low high = record { vcpus = (low, high); blocks = number_limits rest Blocks; pages = number_limits rest Pages }

-- the shape with the vCPUs that it gives
given_shape : (rest : List (List ℕ)) → IsShape (shape_given rest (number_given rest Vcpus))
given_shape rest = shape_limits rest (number_given rest Vcpus) (number_limits rest Vcpus).0 (number_limits rest Vcpus).1

-- ---- Turns

-- a turn that isn't absent is there
there : (vcpus : ℕ) (turn : TurnOf) → is_absent vcpus turn ≡ false → IsTurn vcpus turn
there vcpus (Cpu k) e = grind (arith, nat_tests, e)
there vcpus Saver e = tt

-- where none is absent, all are there
all_there : (vcpus : ℕ) (turns : List TurnOf) → list_any (is_absent vcpus) turns ≡ false → All (IsTurn vcpus) turns
all_there vcpus [] e = All-nil (IsTurn vcpus)
all_there vcpus (turn ∷ turns) e =
    let parts = or_parts (is_absent vcpus turn) (list_any (is_absent vcpus) turns) e in
    All-cons (IsTurn vcpus) turn turns (there vcpus turn parts.0) (all_there vcpus turns parts.1)

-- a text names no more turns than it has characters
length-turns_named : (text : List ℕ) → length (turns_named text) ≤ length text
length-turns_named [] = omega arith
length-turns_named (c ∷ text) = elim (turn_named c) as (λ o. length (cons_option o (turns_named text)) ≤ length (c ∷ text)) [
  | None ↦ omega (arith, length-turns_named text)
  | Some turn ↦ omega (arith, length-turns_named text)
]

-- the turns of a save, which are there and few
record AreTurns (vcpus : ℕ) (turns : List TurnOf) : Type 0 where
  pub few : length turns ≤ MAX_TURNS
  pub all : All (IsTurn vcpus) turns

-- those that a text names, where it passes and clashes with nothing
named_turns : (rest : List (List ℕ)) (text word : List ℕ) → (nat_le (length text) MAX_TURNS && are_turns text) ≡ true → is_absent_turns rest word ≡ false →
    option_map_or (names_absent (number_given rest Vcpus)) (Some text) false ≡ is_absent_turns rest word → AreTurns (number_given rest Vcpus) (turns_named text)
named_turns rest text word form together same =
    let short : length text ≤ MAX_TURNS = leb-true _ _ (and_parts (nat_le (length text) MAX_TURNS) (are_turns text) form).0 in
    record {
      few = omega (arith, length-turns_named text);
      all = all_there (number_given rest Vcpus) (turns_named text) (same ∙ together);
    }

-- those of a line
save_turns : (rest : List (List ℕ)) → Passes Save rest → AreTurns (number_given rest Vcpus) (turns_given rest)
save_turns rest passes = elim (cases_Bool (has_mode rest (codes "threads"))) [
  | inl threads ↦ rw threads (record { few = omega arith; all = All-nil (IsTurn (number_given rest Vcpus)) })
  | inr sliced ↦ rw sliced (by_text (given rest key.Turns) refl)
]
  where
    by_text : (o : Option (List ℕ)) → given rest key.Turns ≡ o →
        AreTurns (number_given rest Vcpus) (option_map_or turns_named o (turns_drawn (number_given rest Seed) (number_given rest Vcpus) MAX_TURNS))
    by_text None e = record {
      few = omega (arith, length-turns_drawn (number_given rest Seed) (number_given rest Vcpus) MAX_TURNS);
      all = all_drawn_there (number_given rest Seed) (number_given rest Vcpus) MAX_TURNS;
    }
    by_text (Some text) e =
        let at = given_together Save rest key.Turns text passes e in
        named_turns rest text at.0 (given_form Save rest key.Turns text passes refl refl e) (or_parts (is_absent_turns rest at.0) (is_idle_relay rest at.0) at.2).0
        (ap (λ (o : Option (List ℕ)). option_map_or (names_absent (number_given rest Vcpus)) o false) (sym at.1))

-- ---- What goes with other values

-- an input that is given is short
input_limit : (command : CommandName) (rest : List (List ℕ)) → Passes command rest → key_named command (key_text key.Serial) ≡ Some key.Serial → length (input_given rest) ≤ MAX_INPUT
input_limit command rest passes named = by_text (given rest key.Serial) refl
  where
    by_text : (o : Option (List ℕ)) → given rest key.Serial ≡ o → length (unwrap_or o []) ≤ MAX_INPUT
    by_text None e = omega arith
    by_text (Some text) e = leb-true _ _ (given_form command rest key.Serial text passes named refl e)

-- a relay is given only with threads
relay_idle : (rest : List (List ℕ)) → Passes Save rest → has_mode rest (codes "threads") ≡ false → number_given rest Relay ≡ 0
relay_idle rest passes sliced = by_text (given rest (key.Number Relay)) refl
  where
    by_text : (o : Option (List ℕ)) → given rest (key.Number Relay) ≡ o → number_given rest Relay ≡ 0
    by_text None e = rw e refl
    by_text (Some text) e =
        let at = given_together Save rest (key.Number Relay) text passes e in
        let idle = (or_parts (is_absent_turns rest at.0) (is_idle_relay rest at.0) at.2).1 in
        elim (cases_Bool (number_given rest Relay == 0)) [
          | inl zero ↦ eqb-true _ _ zero
          | inr some ↦
              let clash = rw (at.1, some, sliced) at idle in
              cc
        ]

-- a length is given, and leads to no place past RAM
len_inside : (rest : List (List ℕ)) → Passes Peek rest → number_given rest At + number_given rest Len ≤ ram_bytes_of (shape_given rest 1)
len_inside rest passes = by_text (given rest (key.Number Len)) refl
  where
    by_text : (o : Option (List ℕ)) → given rest (key.Number Len) ≡ o → number_given rest At + number_given rest Len ≤ ram_bytes_of (shape_given rest 1)
    by_text None e =
        let parts = or_parts (is_none (given rest (key.Number At))) (is_none (given rest (key.Number Len)) || false) (or_parts (is_none (given rest key.In)) _ passes.complete).1 in
        let lacking = rw e at (or_parts (is_none (given rest (key.Number Len))) false parts.1).0 in
        cc
    by_text (Some text) e =
        let at = given_together Peek rest (key.Number Len) text passes e in
        let inside = rw at.1 at at.2 in
        grind (arith, nat_tests, inside)

-- ---- The job

-- threads are what was asked for
in_threads : (b : Bool) → (if b then Threads else Sliced) ≡ Threads → b ≡ true
in_threads true e = refl
in_threads false e = cc

-- or they aren't
in_one : (b : Bool) → (if b then Threads else Sliced) ≡ Sliced → b ≡ false
in_one true e = cc
in_one false e = refl

-- the limits of a save
save_limits : (rest : List (List ℕ)) → Passes Save rest → IsWithinLimits (job_given Save rest)
save_limits rest passes =
    let turns = save_turns rest passes in
    record {
      is_shape = given_shape rest;
      stop_most = (number_limits rest Stop).1;
      run_most = (number_limits rest Run).1;
      turns_most = turns.few;
      turns_there = turns.all;
      turns_unused = λ e. rw (in_threads (has_mode rest (codes "threads")) e) refl;
      input_most = input_limit Save rest passes refl;
      relay_most = (number_limits rest Relay).1;
      relay_unused = λ e. relay_idle rest passes (in_one (has_mode rest (codes "threads")) e);
    }

-- those of a job
pub job_limits : (command : CommandName) (rest : List (List ℕ)) → Passes command rest → IsWithinLimits (job_given command rest)
job_limits Save rest passes = save_limits rest passes
job_limits Restore rest passes = (number_limits rest Run).1
job_limits Check rest passes = tt
job_limits Asm rest passes = tt
job_limits Workload rest passes = tt
job_limits Peek rest passes = record {
  is_shape = shape_limits rest 1 (omega arith) (omega arith);
  len_least = (number_limits rest Len).0;
  len_most = (number_limits rest Len).1;
  in_ram = len_inside rest passes;
}
job_limits Layer rest passes = (number_limits rest Run).1
job_limits Join rest passes = tt
job_limits Record rest passes = record { is_shape = given_shape rest; run_most = (number_limits rest Run).1; input_most = input_limit Record rest passes refl }
job_limits Replay rest passes = record { is_shape = given_shape rest; run_most = omega arith; input_most = input_limit Replay rest passes refl }
