-- Turns one after another, by what they make of the phase and of the file.
use Rattle.std.proofs.Common.{◌≡◌, inl, inr, ℕ, zero, suc, ◌+◌, ◌-◌, ◌*◌, ◌<◌, ◌≤◌, true, List, [], ◌∷◌, ◌++◌, length, map, replicate, take, Some, None, refl, sym, ◌∙◌, ap, subst, arith}
use Rattle.std.specs.Prelude.{◌⊎◌}
use Rattle.std.specs.List.{range_with_len, slice_get}
use Rattle.std.proofs.lemmas.Bool.{cases_lt}
use Rattle.std.proofs.lemmas.List.{append_assoc, append-nil}
use Rattle.std.proofs.lemmas.Option.{none-some, same_Some}
use Rattle.ram_block.specs.Shape.{ShapeData}
use Rattle.medium.specs.Members.{file_state}
use Rattle.medium.specs.declared.readable.Readable as readable
use Rattle.flat_machine.specs.Machine.{MachineData, Rest}
use Rattle.flat_machine.specs.Run.{has_ended}
use Rattle.flat_machine.specs.UnderWay.{IsUnderWay, left_at}
use Rattle.flat_machine.proofs.Outcomes.{option_cases}
use Rattle.flat_machine.proofs.RoundPhases.{Turned}
use Rattle.page_cell.specs.Core.{CoreState}
use Rattle.plain_bus.specs.Bus.{BusData, LeavesTry, progress_of}
use Rattle.plain_bus.specs.declared.answer.StepAnswer.{StepAnswer}
use Rattle.plain_bus.specs.declared.answer.StepAnswer.TheVariants.{Idle}
use Rattle.bg_saver.specs.declared.save_end.SaveEnd.TheVariants.{Complete, Failed}
use Rattle.vm_words.specs.declared.turns.TurnOf.{TurnOf}
use Rattle.vm_words.specs.declared.turns.TurnOf.TheVariants.{Cpu, Saver}
use Rattle.sliced_run.specs.CoreRun.{round_turns, rounds_of, sliced_after, sliced_from}
use Rattle.sliced_run.specs.Sliced.{HasCome, HasEnded, HasRun, IsAt, IsSliced, IsWritten, RoundTaken, SaverStays, SaverTurned, SlicedData, TurnsTaken, VcpuTurnsTaken, WritesOn, phase_of, taken_by}
use Rattle.sliced_run.proofs.CpuTurns.{cpu_comes, cpu_keeps, cpu_writes, idle_same}
use Rattle.sliced_run.proofs.Files.{writes_none, writes_then}
use Rattle.sliced_run.proofs.Rounds.{all_ended, left_most, rounds_done, rounds_push, takes_event, turns_push}
use Rattle.sliced_run.proofs.Turns.{after-append, rounds-add}

-- ---- Turns of vCPUs

pub vcpus_none : (i : MachineData) (n : ℕ) (x : SlicedData) → IsSliced i n x → VcpuTurnsTaken i n [] x x
vcpus_none i n x is = record {
  keeps = is;
  comes = λ before come. subst (λ l. HasCome i n l x) (sym (append-nil before)) come;
  stays = record { saver = refl; saved = refl };
}

pub vcpus_then : (i : MachineData) (n : ℕ) (first second : List TurnOf) (x y z : SlicedData) → VcpuTurnsTaken i n first x y → VcpuTurnsTaken i n second y z →
    VcpuTurnsTaken i n (first ++ second) x z
vcpus_then i n first second x y z one two = record {
  keeps = two.keeps;
  comes = λ before come. subst (λ l. HasCome i n l z) (append_assoc before first second) (two.comes (before ++ first) (one.comes before come));
  stays = record { saver = two.stays.saver ∙ one.stays.saver; saved = two.stays.saved ∙ one.stays.saved };
}

pub vcpu_taken : (i : MachineData) (n : ℕ) (x y : SlicedData) (k : ℕ) (answer : StepAnswer) → IsSliced i n x → SaverStays x y → LeavesTry x.bus k answer y.bus →
    VcpuTurnsTaken i n (Cpu k ∷ []) x y
vcpu_taken i n x y k answer is stays leaves = record {
  keeps = cpu_keeps i n x y k answer is stays leaves;
  comes = λ before come. cpu_comes i n before x y k answer is stays leaves come;
  stays = stays;
}

-- ---- Any turns

module _ {M : Type 0} (g : readable.Ghosts M) (i : MachineData) (n : ℕ) where
  -- no turn
  pub taken_none : (x : SlicedData) (file : M) → IsSliced i n x → IsWritten i x (file_state g file) → TurnsTaken g i n [] x x file file
  taken_none x file is way = record {
    keeps = is;
    comes = λ before come. subst (λ l. HasCome i n l x) (sym (append-nil before)) come;
    file = writes_none g i x file way;
  }

  -- turns, and turns behind them
  pub taken_then : (first second : List TurnOf) (x y z : SlicedData) (a b c : M) → TurnsTaken g i n first x y a b → TurnsTaken g i n second y z b c →
      TurnsTaken g i n (first ++ second) x z a c
  taken_then first second x y z a b c one two = record {
    keeps = two.keeps;
    comes = λ before come. subst (λ l. HasCome i n l z) (append_assoc before first second) (two.comes (before ++ first) (one.comes before come));
    file = writes_then g i x y z a b c one.file two.file;
  }

  -- the file after turns that leave it and the saver
  pub file_stays : (x y : SlicedData) (file : M) → SaverStays x y → IsWritten i y (file_state g file) → WritesOn g i x y file file
  file_stays x y file stays way =
      let none = writes_none g i y file way in
      record {
        ended = λ over. (stays.saved, refl);
        way = way;
        whole = λ gone complete. absurd (none-some Complete (sym gone ∙ sym stays.saved ∙ complete));
        failed = λ gone failed. absurd (none-some Failed (sym gone ∙ sym stays.saved ∙ failed));
        never_falls = none.never_falls;
        syncs = λ gone. none.syncs (stays.saved ∙ gone);
        telling = none.telling;
        crash = none.crash;
      }

  pub cpu_taken : (x y : SlicedData) (file : M) (k : ℕ) (answer : StepAnswer) → IsSliced i n x → SaverStays x y → LeavesTry x.bus k answer y.bus →
      IsWritten i x (file_state g file) → TurnsTaken g i n (Cpu k ∷ []) x y file file
  cpu_taken x y file k answer is stays leaves way =
      let vcpu = vcpu_taken i n x y k answer is stays leaves in
      record {
        keeps = vcpu.keeps;
        comes = vcpu.comes;
        file = file_stays x y file stays (cpu_writes i x y (file_state g file) k answer stays leaves way);
      }

  pub saver_taken : (x y : SlicedData) (a b : M) → SaverTurned i n x y → WritesOn g i x y a b → TurnsTaken g i n (Saver ∷ []) x y a b
  saver_taken x y a b turned writes = record { keeps = turned.keeps; comes = turned.comes; file = writes }

  -- turns of vCPUs once the save has ended
  pub vcpus_taken : (turns : List TurnOf) (x y : SlicedData) (file : M) → HasEnded x → VcpuTurnsTaken i n turns x y → TurnsTaken g i n turns x y file file
  vcpus_taken turns x y file over taken = record {
    keeps = taken.keeps;
    comes = taken.comes;
    file = file_stays x y file taken.stays (λ none. absurd (over (sym taken.stays.saved ∙ none)));
  }

-- ---- A round

pub round_none : (i : MachineData) (n : ℕ) (x : SlicedData) → IsSliced i n x → RoundTaken i n 0 0 x x
round_none i n x is = record {
  turns = vcpus_none i n x is;
  less = λ k h. absurd (omega (arith, h));
  most = λ k. omega arith;
  same = λ _. refl;
  over = λ _ k h. absurd (omega (arith, h));
}

-- the turn of the next vCPU, of which so many have had theirs
pub round_more : (i : MachineData) (n : ℕ) (x y z : SlicedData) (k : ℕ) (events after : ℕ) (answer : StepAnswer) → RoundTaken i n k events x y → HasEnded x → SaverStays y z →
    LeavesTry y.bus k answer z.bus → k < length i.vcpus → ((answer ≡ Idle) × (after ≡ events)) ⊎ (0 < after) → RoundTaken i n (k + 1) after x z
round_more i n x y z k events after answer so_far over stays leaves h how =
    let is = so_far.turns.keeps in
    let ended : HasEnded y = λ none. over (sym so_far.turns.stays.saved ∙ none) in
    let within : k < length y.bus.instant.vcpus = subst (λ (m : MachineData). k < length m.vcpus) (sym is.instant) h in
    let event : Turned y.bus.instant y.bus.run (progress_of y.bus) (progress_of z.bus) k (k + 1) =
    takes_event y.bus z.bus k answer is.bus within (is.writable ended) leaves in
    let turned : Turned i n (progress_of y.bus) (progress_of z.bus) k (k + 1) =
    subst (λ r. Turned i r (progress_of y.bus) (progress_of z.bus) k (k + 1)) is.run
    (subst (λ (m : MachineData). Turned m y.bus.run (progress_of y.bus) (progress_of z.bus) k (k + 1)) is.instant event) in
    let idle : after ≡ 0 → (answer ≡ Idle) × (events ≡ 0) = λ off. still how off in
    let same : after ≡ 0 → z.bus ≡ y.bus = λ off. idle_same y.bus z.bus k (subst (λ a. LeavesTry y.bus k a z.bus) (idle off).0 leaves) in
    record {
      turns = subst (λ l. VcpuTurnsTaken i n l x z) (turns_push [] k)
          (vcpus_then i n (map Cpu (range_with_len 0 k)) (Cpu k ∷ []) x y z so_far.turns (vcpu_taken i n y z k answer is stays leaves));
      less = λ j low. elim (cases_lt j k) as (λ _. left_at i n z.bus.machine j ≤ left_at i n x.bus.machine j - 1) [
        | inl earlier ↦ omega (arith, so_far.less j earlier, turned.most j)
        | inr here ↦ omega (arith, so_far.most j, turned.less j here low)
      ];
      most = λ j. omega (arith, so_far.most j, turned.most j);
      same = λ off. same off ∙ so_far.same (idle off).1;
      over = λ off j low. elim (cases_lt j k) as (λ _. has_ended i n z.bus.machine j ≡ true) [
        | inl earlier ↦ ap (λ (b : BusData). has_ended i n b.machine j) (same off) ∙ so_far.over (idle off).1 j earlier
        | inr here ↦
            (let at : k ≡ j = omega (arith, here, low) in
            let now : has_ended y.bus.instant y.bus.run y.bus.machine k ≡ true = leaves.idle.0 (idle off).0 in
            ap (λ (b : BusData). has_ended i n b.machine j) (same off)
            ∙ subst (λ t. has_ended i n y.bus.machine t ≡ true) at
            (subst (λ r. has_ended i r y.bus.machine k ≡ true) is.run (subst (λ (m : MachineData). has_ended m y.bus.run y.bus.machine k ≡ true) is.instant now)))
      ];
    }
  where
    still : ((answer ≡ Idle) × (after ≡ events)) ⊎ (0 < after) → after ≡ 0 → (answer ≡ Idle) × (events ≡ 0)
    still (inl both) off = (both.0, sym both.1 ∙ off)
    still (inr some) off = absurd (omega (arith, some, off))

-- ---- Rounds

-- so many rounds, of so many in all: each vCPU has as many events less to make, and where its phase ends early the rest
-- changes nothing
pub record RoundsTaken (i : MachineData) (n : ℕ) (rounds : ℕ) (old new : SlicedData) : Type 0 where
  pub turns : VcpuTurnsTaken i n (rounds_of i rounds) old new
  pub less : (k : ℕ) → k < length i.vcpus → left_at i n new.bus.machine k ≤ 2 * n - rounds

pub rounds_none : (i : MachineData) (n : ℕ) (x : SlicedData) → IsSliced i n x → Rest i → RoundsTaken i n 0 x x
unfolding rounds_of
rounds_none i n x is rest = record {
  turns = vcpus_none i n x is;
  less = λ k h.
      (let way : IsUnderWay i n (progress_of x.bus) =
      subst (λ r. IsUnderWay i r (progress_of x.bus)) is.run (subst (λ (m : MachineData). IsUnderWay m x.bus.run (progress_of x.bus)) is.instant is.bus.way) in
      omega (arith, left_most i n (progress_of x.bus) k rest way));
}

-- one more
pub rounds_then : (i : MachineData) (n : ℕ) (rounds : ℕ) (events : ℕ) (x y z : SlicedData) → RoundsTaken i n rounds x y → RoundTaken i n (length i.vcpus) events y z →
    RoundsTaken i n (rounds + 1) x z
rounds_then i n rounds events x y z so_far round = record {
  turns = subst (λ l. VcpuTurnsTaken i n l x z) (rounds_push [] i rounds) (vcpus_then i n (rounds_of i rounds) (round_turns i) x y z so_far.turns round.turns);
  less = λ k h. omega (arith, so_far.less k h, round.less k h);
}

-- all rounds of a phase end it
pub rounds_all : (i : MachineData) (n : ℕ) (x y : SlicedData) → RoundsTaken i n (2 * n) x y → VcpuTurnsTaken i n (rounds_of i (2 * n)) x y × HasRun i n y
rounds_all i n x y taken = (
  taken.turns,
  λ k h.
      (let is = taken.turns.keeps in
      let way : IsUnderWay i n (progress_of y.bus) =
      subst (λ r. IsUnderWay i r (progress_of y.bus)) is.run (subst (λ (m : MachineData). IsUnderWay m y.bus.run (progress_of y.bus)) is.instant is.bus.way) in
      all_ended i n (progress_of y.bus) k way (omega (arith, taken.less k h))),
)

-- a round in which no event was made is the last that changes anything
pub rounds_early : (i : MachineData) (n : ℕ) (rounds : ℕ) (x y z : SlicedData) → rounds < 2 * n → RoundsTaken i n rounds x y → RoundTaken i n (length i.vcpus) 0 y z →
    VcpuTurnsTaken i n (rounds_of i (2 * n)) x z × HasRun i n z
rounds_early i n rounds x y z h so_far round =
    let all = rounds_then i n rounds 0 x y z so_far round in
    let over : HasRun i n z = λ k low. round.over refl k low in (
      record {
        keeps = all.turns.keeps;
        comes = λ before come fails_at fits.
            (let phase = phase_of i n fails_at in
            let start = sliced_after phase (sliced_from i) before in
            let at = all.turns.comes before come fails_at fits in
            let s = sliced_after phase (sliced_from i) (before ++ rounds_of i (rounds + 1)) in
            let ended : (k : ℕ) → k < length i.vcpus → has_ended i n s.core.machine k ≡ true =
            λ k low. ap (λ (c : CoreState). has_ended i n c.machine k) at.core ∙ over k low in
            let rest : sliced_after phase s (rounds_of i (2 * n - (rounds + 1))) ≡ s = rounds_done phase s (rounds + 1) (2 * n) (omega (arith, h)) ended in
            let count : rounds + 1 + (2 * n - (rounds + 1)) ≡ 2 * n = omega (arith, h) in
            let whole : sliced_after phase (sliced_from i) (before ++ rounds_of i (2 * n)) ≡ s =
            after-append phase (sliced_from i) before (rounds_of i (2 * n))
            ∙ ap (λ r. sliced_after phase start (rounds_of i r)) (sym count)
            ∙ rounds-add phase start i (rounds + 1) (2 * n - (rounds + 1))
            ∙ ap (λ t. sliced_after phase t (rounds_of i (2 * n - (rounds + 1)))) (sym (after-append phase (sliced_from i) before (rounds_of i (rounds + 1))))
            ∙ rest in
            subst (λ t. IsAt t z) (sym whole) at);
        stays = all.turns.stays;
      },
      over,
    )

-- ---- The calls, seen through the model of the phase

-- the turn of a vCPU
pub cpu_call : {M : Type 0} (g : readable.Ghosts M) (y x : SlicedData) (b : BusData) (file : M) (k : ℕ) (answer : StepAnswer) → y ≡ x → IsSliced x.bus.instant x.bus.run x →
    IsWritten x.bus.instant x (file_state g file) → LeavesTry y.bus k answer b →
    TurnsTaken g x.bus.instant x.bus.run (Cpu k ∷ []) x (record { bus = b; saver = y.saver; saved = y.saved }) file file
cpu_call g y x b file k answer view is way leaves =
    cpu_taken g x.bus.instant x.bus.run x (record { bus = b; saver = y.saver; saved = y.saved }) file k answer is
    (record { saver = ap (λ (d : SlicedData). d.saver) view; saved = ap (λ (d : SlicedData). d.saved) view })
    (subst (λ (d : SlicedData). LeavesTry d.bus k answer b) view leaves) way

-- one in a round
pub round_call : (i : MachineData) (n : ℕ) (start y x : SlicedData) (b : BusData) (k : ℕ) (events after : ℕ) (answer : StepAnswer) → y ≡ x → RoundTaken i n k events start x → HasEnded start →
    LeavesTry y.bus k answer b → k < length i.vcpus → ((answer ≡ Idle) × (after ≡ events)) ⊎ (0 < after) →
    RoundTaken i n (k + 1) after start (record { bus = b; saver = y.saver; saved = y.saved })
round_call i n start y x b k events after answer view so_far over leaves h how =
    round_more i n start x (record { bus = b; saver = y.saver; saved = y.saved }) k events after answer so_far over
    (record { saver = ap (λ (d : SlicedData). d.saver) view; saved = ap (λ (d : SlicedData). d.saved) view })
    (subst (λ (d : SlicedData). LeavesTry d.bus k answer b) view leaves) h how

-- ---- Calls one after another

module _ {M : Type 0} (g : readable.Ghosts M) where
  -- turns behind others, told of the bus as it is then
  pub taken_next : (first second : List TurnOf) (i : MachineData) (n : ℕ) (x y z : SlicedData) (a b c : M) → TurnsTaken g i n first x y a b →
      TurnsTaken g y.bus.instant y.bus.run second y z b c → TurnsTaken g i n (first ++ second) x z a c
  taken_next first second i n x y z a b c one two =
      taken_then g i n first second x y z a b c one
      (subst (λ r. TurnsTaken g i r second y z b c) one.keeps.run (subst (λ (m : MachineData). TurnsTaken g m y.bus.run second y z b c) one.keeps.instant two))

  -- the save went on before where it goes on after
  pub was_none : (i : MachineData) (x y : SlicedData) (a b : M) → WritesOn g i x y a b → y.saved ≡ None → x.saved ≡ None
  was_none i x y a b writes none =
      elim (option_cases x.saved) as (λ _. x.saved ≡ None) [
        | inl gone ↦ gone
        | inr (end, is) ↦ absurd (none-some end (sym none ∙ (writes.ended (λ gone. none-some end (sym gone ∙ is))).0 ∙ is))
      ]

  -- a save has taken a page in each turn so far
  pub more_taken : (i : MachineData) (x y : SlicedData) (a b : M) (count : ℕ) → WritesOn g i x y a b → (x.saved ≡ None → count ≤ taken_by x) →
      (y.saved ≡ None → taken_by y ≡ taken_by x + 1) → y.saved ≡ None → count + 1 ≤ taken_by y
  more_taken i x y a b count writes so_far more none = omega (arith, so_far (was_none i x y a b writes none), more none)

-- one more of the same
pub replicate_push : (n : ℕ) → replicate n Saver ++ Saver ∷ [] ≡ replicate (n + 1) Saver
replicate_push zero = refl
replicate_push (suc n) = ap (λ l. Saver ∷ l) (replicate_push n) ∙ ap (λ k. replicate k Saver) (let e : suc (n + 1) ≡ suc n + 1 = omega arith in e)

-- the next turn of a line
pub take_next : (turns : List TurnOf) (i : ℕ) (turn : TurnOf) → slice_get turns i ≡ Some turn → take i turns ++ turn ∷ [] ≡ take (i + 1) turns
take_next [] i turn is = absurd (none-some turn is)
take_next (t ∷ turns) zero turn is = ap (λ x. x ∷ []) (sym (same_Some t turn is))
take_next (t ∷ turns) (suc i) turn is =
    ap (λ l. t ∷ l) (take_next turns i turn is) ∙ ap (λ k. take k (t ∷ turns)) (let e : suc (i + 1) ≡ suc i + 1 = omega arith in e)

-- rounds behind others, told of the bus as it is then
round_here : (i : MachineData) (n : ℕ) (events : ℕ) (y z : SlicedData) → IsSliced i n y → RoundTaken y.bus.instant y.bus.run (length y.bus.instant.vcpus) events y z →
    RoundTaken i n (length i.vcpus) events y z
round_here i n events y z is round =
    subst (λ r. RoundTaken i r (length i.vcpus) events y z) is.run (subst (λ (m : MachineData). RoundTaken m y.bus.run (length m.vcpus) events y z) is.instant round)

pub rounds_next : (i : MachineData) (n : ℕ) (rounds events : ℕ) (x y z : SlicedData) → RoundsTaken i n rounds x y →
    RoundTaken y.bus.instant y.bus.run (length y.bus.instant.vcpus) events y z → RoundsTaken i n (rounds + 1) x z
rounds_next i n rounds events x y z so_far round = rounds_then i n rounds events x y z so_far (round_here i n events y z so_far.turns.keeps round)

pub rounds_last : (i : MachineData) (n : ℕ) (rounds events : ℕ) (x y z : SlicedData) → rounds < 2 * n → RoundsTaken i n rounds x y →
    RoundTaken y.bus.instant y.bus.run (length y.bus.instant.vcpus) events y z → events ≡ 0 → VcpuTurnsTaken i n (rounds_of i (2 * n)) x z × HasRun i n z
rounds_last i n rounds events x y z h so_far round none =
    rounds_early i n rounds x y z h so_far (round_here i n 0 y z so_far.turns.keeps (subst (λ e. RoundTaken y.bus.instant y.bus.run (length y.bus.instant.vcpus) e y z) none round))

pub there : {X : Type 0} (xs : List X) (i : ℕ) → i < length xs → (x : X) × (slice_get xs i ≡ Some x)
there [] i h = absurd (omega (arith, h))
there (x ∷ xs) zero h = (x, refl)
there (x ∷ xs) (suc i) h = there xs i (omega (arith, h))

-- a vCPU of the start is one of the bus as it is
pub vcpu_here : (i : MachineData) (n : ℕ) (x y : SlicedData) (k : ℕ) → IsSliced i n x → IsSliced x.bus.instant x.bus.run y → k < x.bus.machine.shape.vcpus → k < length y.bus.instant.vcpus
vcpu_here i n x y k is here h =
    omega (arith, h, x_count, ap (λ (m : MachineData). length m.vcpus) here.instant)
  where
    x_count : length x.bus.instant.vcpus ≡ x.bus.machine.shape.vcpus
    x_count = is.bus.instant.vcpus ∙ ap (λ (s : ShapeData). s.vcpus) (sym is.bus.shape)

-- a round of all vCPUs
pub whole_round : (i : MachineData) (n : ℕ) (x y : SlicedData) (k events : ℕ) → IsSliced i n x → RoundTaken x.bus.instant x.bus.run k events x y → k ≡ x.bus.machine.shape.vcpus →
    RoundTaken x.bus.instant x.bus.run (length x.bus.instant.vcpus) events x y
whole_round i n x y k events is round all =
    subst (λ c. RoundTaken x.bus.instant x.bus.run c events x y) (all ∙ sym (is.bus.instant.vcpus ∙ ap (λ (s : ShapeData). s.vcpus) (sym is.bus.shape))) round

-- the next turn of a round, told of the bus as it is then
pub step_next : (i : MachineData) (n : ℕ) (x y z : SlicedData) (k events made : ℕ) → RoundTaken i n k events x y → HasEnded x →
    ((start : SlicedData) (before : ℕ) → HasEnded start → RoundTaken y.bus.instant y.bus.run k before start y → RoundTaken y.bus.instant y.bus.run (k + 1) (before + made) start z) →
    RoundTaken i n (k + 1) (events + made) x z
step_next i n x y z k events made so_far over step =
    let is = so_far.turns.keeps in
    let here : RoundTaken y.bus.instant y.bus.run k events x y =
    subst (λ r. RoundTaken y.bus.instant r k events x y) (sym is.run) (subst (λ (m : MachineData). RoundTaken m n k events x y) (sym is.instant) so_far) in
    subst (λ r. RoundTaken i r (k + 1) (events + made) x z) is.run
    (subst (λ (m : MachineData). RoundTaken m y.bus.run (k + 1) (events + made) x z) is.instant (step x events over here))
