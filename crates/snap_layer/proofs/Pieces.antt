-- The pieces of a layer that is put, one behind another.
use Rattle.std.proofs.Common.{◌≡◌, ℕ, List, ◌++◌, length, ap, ◌∙◌, append_assoc}
use Rattle.std.specs.List.{flat_map}
use Rattle.flat_machine.specs.Machine.{MachineData}
use Rattle.device_state.specs.DeviceText.{Two, device_text}
use Rattle.snap_layer.specs.Layer.{changed_pages, front_text, layer_of, layer_text, page_text}

pub layer_put : (base m : MachineData) (pages : List ℕ) (front entries text : List ℕ) → pages ≡ changed_pages base m → front ≡ front_text base (length pages) → entries ≡ front ++ flat_map (page_text m) pages
    → text ≡ entries ++ device_text Two m → text ≡ layer_of base m
unfolding layer_text
layer_put base m pages front entries text is first second third =
    third
    ∙ ap (λ (l : List ℕ). l ++ device_text Two m) (second ∙ ap (λ (l : List ℕ). l ++ flat_map (page_text m) pages) first)
    ∙ append_assoc (front_text base (length pages)) (flat_map (page_text m) pages) (device_text Two m)
    ∙ ap (λ (l : List ℕ). front_text base (length l) ++ (flat_map (page_text m) l ++ device_text Two m)) is
