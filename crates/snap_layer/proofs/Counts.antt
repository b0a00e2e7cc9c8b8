-- How many pages a layer has that was put, and how long it is.
use Rattle.std.proofs.Common.{◌≡◌, ℕ, ◌+◌, ◌*◌, ◌^◌, ◌<◌, ◌≤◌, Bool, not, List, length, refl, sym, ap, ◌∙◌, subst, arith, length-append}
use Rattle.std.specs.List.{filter, flat_map, range_with_len}
use Rattle.std.proofs.lemmas.List.{take_all}
use Rattle.std.proofs.lemmas.List.Filters.{length-filter_both}
use Rattle.std.proofs.lemmas.List.FromFn.{length-range_with_len}
use Rattle.std.proofs.lemmas.Nat.{from_be_bytes-to_be_bytes_4}
use Rattle.std.specs.Int.{w32, from_be_bytes}
use Rattle.ram_block.specs.Shape.{total_pages_of}
use Rattle.mig_stream.specs.Pieces.{Has}
use Rattle.mig_stream.specs.Text.{be32, be32_at}
use Rattle.flat_machine.specs.Machine.{IsMachine, MachineData, page_of}
use Rattle.flat_machine.proofs.Inside.{length-page_of}
use Rattle.device_state.specs.DeviceText.{Two, device_text}
use Rattle.snap_layer.specs.Layer.{changed_pages, differs, layer_of, layer_text, page_text}
use Rattle.snap_layer.proofs.Entries.{length-entries}
use Rattle.snap_layer.proofs.Fronts.{total_most}
use Rattle.snap_layer.proofs.Joins.{filtered, length-layer, text_parts}

-- what passes a test is no more than there is
few_pass : (test : ℕ → Bool) (numbers : List ℕ) → length (filter test numbers) ≤ length numbers
few_pass test numbers = omega (arith, length-filter_both test (λ n. not (test n)) (λ n. refl) numbers)

-- the changed pages are no more than there are
pub changed_most : (base m : MachineData) → IsMachine m → length (changed_pages base m) ≤ 16384
changed_most base m is =
    omega (arith, few_pass (differs base m) (range_with_len 0 (total_pages_of m.shape)), length-range_with_len 0 (total_pages_of m.shape), total_most m.shape is.shape)

-- the number at its place in a layer that was put
pub count_of_layer : (layer : List ℕ) (base m : MachineData) → IsMachine m → layer ≡ layer_of base m → be32_at layer 32 ≡ length (changed_pages base m)
count_of_layer layer base m is same =
    let text = layer_of base m in
    let has : Has layer 0 text = subst (λ (l : List ℕ). Has l 0 text) (sym same) (take_all (length text) text (omega arith)) in
    let front = (text_parts Two base m (changed_pages base m) layer has).0 in
    ap (from_be_bytes w32) front.count ∙ from_be_bytes-to_be_bytes_4 (length (changed_pages base m)) (omega (arith, changed_most base m is))

-- a layer that was put is its front, its pages and its device text
pub length-layer_of : (base m : MachineData) → IsMachine m → length (layer_of base m) ≡ 36 + 4100 * length (changed_pages base m) + length (device_text Two m)
length-layer_of base m is =
    let pages = changed_pages base m in
    let entries = flat_map (page_text m) pages in
    let total = total_pages_of m.shape in
    let count : length entries ≡ 4100 * length pages =
    length-entries (page_of m) total 0 pages (λ p lt. length-page_of m p is.ram lt) (filtered (differs base m) 0 total total (omega arith)) in
    omega (arith, length-layer Two base m pages, length-append entries (device_text Two m), count)
