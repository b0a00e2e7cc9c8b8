-- The sections of the vCPUs, one by one as they are read.
use Rattle.std.proofs.Common.{◌≡◌, ℕ, zero, suc, ◌+◌, ◌-◌, ◌<◌, List, [], ◌∷◌, ◌++◌, Result, Ok, Err, length, refl, sym, ap, ◌∙◌, arith, append_assoc, length-append}
use Rattle.std.proofs.lemmas.List.{append-nil}
use Rattle.rv64i_step.specs.Vcpu.{VcpuData}
use Rattle.mig_stream.specs.Checks.{and_then}
use Rattle.device_state.specs.Reading.{start_in, vcpu_in, vcpus_in}
use Rattle.device_state.specs.declared.fault.DeviceReadFault.{DeviceReadFault}
use Rattle.device_state.specs.declared.kind.DeviceKind.TheVariants.{Cpu, Serial}

-- vCPUs that were read before these
abbrev pub behind : List VcpuData → Result (List VcpuData × ℕ) DeviceReadFault → Result (List VcpuData × ℕ) DeviceReadFault
behind before rest = and_then rest (λ r. Ok (before ++ r.0, r.1))

pub behind_none : (rest : Result (List VcpuData × ℕ) DeviceReadFault) → rest ≡ behind [] rest
behind_none (Ok found) = refl
behind_none (Err fault) = refl

behind_one : (before : List VcpuData) (v : VcpuData) (rest : Result (List VcpuData × ℕ) DeviceReadFault) → behind before (and_then rest (λ r. Ok (v ∷ r.0, r.1))) ≡ behind (before ++ v ∷ []) rest
behind_one before v (Ok found) = ap (λ (l : List VcpuData). Ok (l, found.1)) (sym (append_assoc before (v ∷ []) found.0))
behind_one before v (Err fault) = refl

pub serial_starts : (file : List ℕ) (more at c end : ℕ) → start_in file at c ≡ Ok (Serial, end) → vcpus_in file more at c ≡ Ok ([], end)
unfolding vcpus_in
serial_starts file zero at c end is = rw is
serial_starts file (suc more) at c end is = rw is

start_fails : (file : List ℕ) (more at c : ℕ) (fault : DeviceReadFault) → start_in file at c ≡ Err fault → vcpus_in file more at c ≡ Err fault
unfolding vcpus_in
start_fails file zero at c fault is = rw is
start_fails file (suc more) at c fault is = rw is

next_fails : (file : List ℕ) (more at c vcpu_at : ℕ) (fault : DeviceReadFault) → start_in file at c ≡ Ok (Cpu, vcpu_at) → vcpu_in file vcpu_at c ≡ Err fault → vcpus_in file (suc more) at c ≡ Err fault
unfolding vcpus_in
next_fails file more at c vcpu_at fault start is = rw (start, is)

pub next_vcpu : (file : List ℕ) (more at c vcpu_at end : ℕ) (v : VcpuData) → start_in file at c ≡ Ok (Cpu, vcpu_at) → vcpu_in file vcpu_at c ≡ Ok (v, end)
    → vcpus_in file (suc more) at c ≡ and_then (vcpus_in file more end (c + 1)) (λ r. Ok (v ∷ r.0, r.1))
unfolding vcpus_in
next_vcpu file more at c vcpu_at end v start is = rw (start, is)

-- what is left to read, after so many vCPUs
abbrev pub left : List ℕ → ℕ → List VcpuData → Result (List VcpuData × ℕ) DeviceReadFault
left file at before = behind before (vcpus_in file (8 - length before) at (length before))

module _ (file : List ℕ) (from at n : ℕ) (before : List VcpuData) (is : n ≡ length before) (so_far : vcpus_in file 8 from 0 ≡ left file at before) where
  pub turn_fails : (fault : DeviceReadFault) → start_in file at n ≡ Err fault → vcpus_in file 8 from 0 ≡ Err fault
  turn_fails fault fails =
      so_far ∙ ap (behind before) (start_fails file (8 - length before) at (length before) fault (ap (start_in file at) (sym is) ∙ fails))

  pub turn_ends : (end : ℕ) → start_in file at n ≡ Ok (Serial, end) → vcpus_in file 8 from 0 ≡ Ok (before, end)
  turn_ends end serial =
      so_far
      ∙ ap (behind before) (serial_starts file (8 - length before) at (length before) end (ap (start_in file at) (sym is) ∙ serial))
      ∙ ap (λ (l : List VcpuData). Ok (l, end)) (append-nil before)

  module _ (lt : n < 8) (vcpu_at : ℕ) (start : start_in file at n ≡ Ok (Cpu, vcpu_at)) where
    one_less : 8 - length before ≡ suc (8 - (length before + 1))
    one_less = omega (arith, lt, is)

    here : start_in file at (length before) ≡ Ok (Cpu, vcpu_at)
    here = ap (start_in file at) (sym is) ∙ start

    pub vcpu_fails : (fault : DeviceReadFault) → vcpu_in file vcpu_at n ≡ Err fault → vcpus_in file 8 from 0 ≡ Err fault
    vcpu_fails fault fails =
        so_far
        ∙ ap (λ (m : ℕ). behind before (vcpus_in file m at (length before))) one_less
        ∙ ap (behind before) (next_fails file (8 - (length before + 1)) at (length before) vcpu_at fault here (ap (vcpu_in file vcpu_at) (sym is) ∙ fails))

    pub turn_goes_on : (v : VcpuData) (end : ℕ) (after : List VcpuData) → vcpu_in file vcpu_at n ≡ Ok (v, end) → after ≡ before ++ v ∷ [] → vcpus_in file 8 from 0 ≡ left file end after
    turn_goes_on v end after found one =
        let count : length before + 1 ≡ length after = omega (arith, ap length one, length-append before (v ∷ [])) in
        so_far
        ∙ ap (λ (m : ℕ). behind before (vcpus_in file m at (length before))) one_less
        ∙ ap (behind before) (next_vcpu file (8 - (length before + 1)) at (length before) vcpu_at end v here (ap (vcpu_in file vcpu_at) (sym is) ∙ found))
        ∙ behind_one before v (vcpus_in file (8 - (length before + 1)) end (length before + 1))
        ∙ ap (λ (l : List VcpuData). behind l (vcpus_in file (8 - (length before + 1)) end (length before + 1))) (sym one)
        ∙ ap (λ (k : ℕ). behind after (vcpus_in file (8 - k) end k)) count
