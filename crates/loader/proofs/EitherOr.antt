-- A file is a layout of the machine that is loaded of it, and of no other; where it is refused, of none.
use Rattle.std.proofs.Common.{◌≡◌, ◌⊎◌, inl, inr, ℕ, ◌<◌, ◌^◌, List, IsSome, None, Ok, Err, Result, All, length, refl, sym, ◌∙◌, ap, subst, arith}
use Rattle.std.proofs.lemmas.Bool.{cases_lt}
use Rattle.std.proofs.lemmas.List.{get_or_past}
use Rattle.flat_machine.specs.Machine.{MachineData}
use Rattle.device_state.proofs.Bodies.{Bytes}
use Rattle.file_plan.specs.Layout.{Lay}
use Rattle.mig_stream.specs.Checks.{and_then}
use Rattle.loader.specs.Frame.{FrameData, frame_in}
use Rattle.loader.specs.Loaded.{IsLoaded, loaded, machine_of, refusal, refusal_in}
use Rattle.loader.specs.declared.refusal.Refusal.{Refusal}
use Rattle.loader.proofs.BackwardFrame.{frame_of}
use Rattle.loader.proofs.ForwardFrame.{frame, frame_has, frame_limits, frame_told}
use Rattle.loader.proofs.Lays.{lays}
use Rattle.loader.proofs.Limits.{machine_limits}
use Rattle.loader.proofs.Whole.{both_ok, frame_whole}

-- a file is a layout of one machine at most
abbrev pub OneEach : Type 0
OneEach = (file : List ℕ) (m n : MachineData) → Lay file m → Lay file n → m ≡ n

-- a layout is loaded as its machine
pub layout_loads : OneEach → (file : List ℕ) (m : MachineData) → Lay file m → loaded file ≡ Ok m
unfolding loaded
layout_loads one file m lay =
    let found = frame file m lay in
    let told = frame_told file m lay in
    let limits = frame_limits file m lay in
    let whole = frame_whole file found told in
    let machine = machine_limits file found limits whole in
    let read = lays file found (frame_has file m lay) limits whole machine.0 machine.1 in
    ap (λ (r : Result FrameData Refusal). and_then r (λ (f : FrameData). Ok (machine_of file f))) told
    ∙ ap (λ (x : MachineData). Ok x) (one file (machine_of file found) m read lay)

-- what is loaded is the machine of a layout
pub loads_layout : (file : List ℕ) (m : MachineData) → Bytes file → loaded file ≡ Ok m → Lay file m
unfolding loaded
loads_layout file m each is =
    let found = both_ok (frame_in file) (λ (f : FrameData). Ok (machine_of file f)) m is in
    let read = frame_of file found.0 each found.1 in
    let whole = frame_whole file found.0 found.1 in
    let machine = machine_limits file found.0 read.limits whole in
    let same : machine_of file found.0 ≡ m = cc in
    subst (Lay file) same (lays file found.0 read.has read.limits whole machine.0 machine.1)

-- numbers below 256 are bytes
are_bytes : (file : List ℕ) → All (λ b. b < 2 ^ 8) file → Bytes file
are_bytes file all i = elim (cases_lt i (length file)) [
  | inl within ↦ all i 0 within
  | inr past ↦ subst (λ (b : ℕ). b < 256) (sym (get_or_past file i 0 past)) (omega arith)
]

-- one of the two
either_of : (file : List ℕ) → Bytes file → (found : Result MachineData Refusal) → loaded file ≡ found → IsLoaded file ⊎ IsSome (refusal_in found)
either_of file each (Ok m) is = inl (record { machine = m; layout = loads_layout file m each is; loads = is })
either_of file each (Err refused) is = inr refl

pub either : (file : List ℕ) → All (λ b. b < 2 ^ 8) file → IsLoaded file ⊎ IsSome (refusal file)
either file all = either_of file (are_bytes file all) (loaded file) refl

-- and never both
pub never_both : OneEach → (file : List ℕ) (m : MachineData) → Lay file m → refusal file ≡ None
never_both one file m lay = ap refusal_in (layout_loads one file m lay)
