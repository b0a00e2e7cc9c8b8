-- Members that name vCPUs, one after another.
use Rattle.std.proofs.Common.{◌≡◌, ℕ, zero, suc, ◌+◌, ◌/◌, ◌<◌, ◌≤◌, List, [], ◌∷◌, length, take, drop, get_or, All, Ok, Err, Result, refl, sym, ◌∙◌, ap, arith, Bool, true}
use Rattle.std.specs.Prelude.{nat_lt}
use Rattle.std.proofs.lemmas.Bool.{lt-ltb}
use Rattle.std.proofs.lemmas.List.{at_drop_more, drop_all, get_or-take, length-take}
use Rattle.std.proofs.lemmas.List.Elements.{All-head, All-tail}
use Rattle.mig_stream.specs.Checks.{and_then, check}
use Rattle.order_log.specs.Reading.{members_name}
use Rattle.order_log.specs.declared.fault.OrderRefusal.{OrderRefusal}
use Rattle.order_log.specs.declared.fault.OrderRefusal.TheVariants.{Member}
use Rattle.order_log.specs.declared.format.TheConstants.{HEAD_LEN}

-- the next member is looked at, and then those behind it
pub name_more : (vcpus t : ℕ) (o : List ℕ) → t < length o
    → members_name vcpus t (drop t o) ≡ and_then (check (nat_lt (get_or o t 0) vcpus) (Member (HEAD_LEN + t / 2) (get_or o t 0))) (λ _. members_name vcpus (t + 1) (drop (t + 1) o))
unfolding members_name
name_more vcpus t o within = at_drop_more (members_name vcpus t) o t 0 within

-- behind the last one nothing is refused
pub name_none : (vcpus t : ℕ) (o : List ℕ) → length o ≤ t → members_name vcpus t (drop t o) ≡ Ok tt
unfolding members_name
name_none vcpus t o past = ap (members_name vcpus t) (drop_all t o past)

-- members that name vCPUs are not refused
pub name_all : (vcpus t : ℕ) (o : List ℕ) → All (λ k. k < vcpus) o → members_name vcpus t o ≡ Ok tt
unfolding members_name
name_all vcpus t [] named = refl
name_all vcpus t (k ∷ o) named =
    ap (λ (right : Bool). and_then (check right (Member (HEAD_LEN + t / 2) k)) (λ _. members_name vcpus (t + 1) o)) (let e : nat_lt k vcpus ≡ true = lt-ltb _ _ (All-head (λ j. j < vcpus) k o named) in e)
    ∙ name_all vcpus (t + 1) o (All-tail (λ j. j < vcpus) k o named)

-- what is left to be looked at, after the next member of those that were read
name_on : {answer : Result (Unit {0}) OrderRefusal} (vcpus t count k : ℕ) (read : List ℕ) (found : Result (Unit {0}) OrderRefusal) → t < count → count ≤ length read → k ≡ get_or read t 0
    → answer ≡ members_name vcpus t (drop t (take count read)) → found ≡ check (nat_lt k vcpus) (Member (HEAD_LEN + t / 2) k)
    → answer ≡ and_then found (λ _. members_name vcpus (t + 1) (drop (t + 1) (take count read)))
name_on vcpus t count k read found within few is so_far checked =
    let rest = members_name vcpus (t + 1) (drop (t + 1) (take count read)) in
    let member : get_or (take count read) t 0 ≡ k = get_or-take count read t 0 within ∙ sym is in
    let whole = name_more vcpus t (take count read) (omega (arith, within, few, length-take count read)) in
    so_far ∙ whole
    ∙ ap (λ (j : ℕ). and_then (check (nat_lt j vcpus) (Member (HEAD_LEN + t / 2) j)) (λ _. rest)) member
    ∙ ap (λ (r : Result (Unit {0}) OrderRefusal). and_then r (λ _. rest)) (sym checked)

pub name_fails : {answer : Result (Unit {0}) OrderRefusal} (vcpus t count k : ℕ) (read : List ℕ) (found : Result (Unit {0}) OrderRefusal) (refusal : OrderRefusal) → t < count → count ≤ length read → k ≡ get_or read t 0
    → answer ≡ members_name vcpus t (drop t (take count read)) → found ≡ check (nat_lt k vcpus) (Member (HEAD_LEN + t / 2) k) → found ≡ Err refusal → answer ≡ Err refusal
name_fails vcpus t count k read found refusal within few is so_far checked failed =
    name_on vcpus t count k read found within few is so_far checked
    ∙ ap (λ (r : Result (Unit {0}) OrderRefusal). and_then r (λ _. members_name vcpus (t + 1) (drop (t + 1) (take count read)))) failed

pub name_goes_on : {answer : Result (Unit {0}) OrderRefusal} (vcpus t count k : ℕ) (read : List ℕ) (found : Result (Unit {0}) OrderRefusal) → t < count → count ≤ length read → k ≡ get_or read t 0
    → answer ≡ members_name vcpus t (drop t (take count read)) → found ≡ check (nat_lt k vcpus) (Member (HEAD_LEN + t / 2) k) → found ≡ Ok tt → answer ≡ members_name vcpus (t + 1) (drop (t + 1) (take count read))
name_goes_on vcpus t count k read found within few is so_far checked passed =
    name_on vcpus t count k read found within few is so_far checked
    ∙ ap (λ (r : Result (Unit {0}) OrderRefusal). and_then r (λ _. members_name vcpus (t + 1) (drop (t + 1) (take count read)))) passed

-- a member of those below a limit, and 0 behind them
pub below_most : (o : List ℕ) (i most : ℕ) → 0 < most → All (λ k. k < most) o → get_or o i 0 < most
below_most [] i most some all = some
below_most (k ∷ o) zero most some all = All-head (λ j. j < most) k o all
below_most (k ∷ o) (suc i) most some all = below_most o i most some (All-tail (λ j. j < most) k o all)
