-- The sections of the vCPUs one after another.
use Rattle.std.proofs.Common.{◌≡◌, ℕ, ◌+◌, ◌<◌, List, [], ◌∷◌, ◌++◌, length, take, Some, sym, ap, ◌∙◌, arith, append_assoc}
use Rattle.std.specs.Prelude.{slice_get}
use Rattle.std.proofs.lemmas.List.{append-nil, take_more, length-take}
use Rattle.std.proofs.lemmas.Option.{slice_get_within, get_or_from_slice_get}
use Rattle.rv64i_step.specs.Vcpu.{VcpuData}
use Rattle.device_state.specs.DeviceText.{cpu_section, cpu_sections}

cpu_sections-append : (c : ℕ) (vs ws : List VcpuData) → cpu_sections c (vs ++ ws) ≡ cpu_sections c vs ++ cpu_sections (c + length vs) ws
cpu_sections-append c [] ws =
    let here : c ≡ c + 0 = omega arith in
    ap (λ (k : ℕ). cpu_sections k ws) here
cpu_sections-append c (v ∷ vs) ws =
    let behind : c + 1 + length vs ≡ c + length (v ∷ vs) = omega arith in
    ap (λ (l : List ℕ). cpu_section c v ++ l) (cpu_sections-append (c + 1) vs ws)
    ∙ sym (append_assoc (cpu_section c v) (cpu_sections (c + 1) vs) (cpu_sections (c + 1 + length vs) ws))
    ∙ ap (λ (k : ℕ). (cpu_section c v ++ cpu_sections (c + 1) vs) ++ cpu_sections k ws) behind

-- one vCPU more
pub sections_more : (vs : List VcpuData) (k : ℕ) (v : VcpuData) → slice_get vs k ≡ Some v → cpu_sections 0 (take k vs) ++ cpu_section k v ≡ cpu_sections 0 (take (k + 1) vs)
sections_more vs k v is =
    let lt : k < length vs = slice_get_within vs k v is in
    let number : 0 + length (take k vs) ≡ k = omega (arith, lt, length-take k vs) in
    sym (
    ap (cpu_sections 0) (take_more vs k v lt ∙ ap (λ (w : VcpuData). take k vs ++ (w ∷ [])) (get_or_from_slice_get vs k v v is))
    ∙ cpu_sections-append 0 (take k vs) (v ∷ [])
    ∙ ap (λ (n : ℕ). cpu_sections 0 (take k vs) ++ (cpu_section n v ++ [])) number
    ∙ ap (λ (l : List ℕ). cpu_sections 0 (take k vs) ++ l) (append-nil (cpu_section k v)))
