use Rattle.std.proofs.Common.{ap, ◌∙◌, ℕ, replicate, List, Bool, ◌≡◌}
use Rattle.page_bitmap.specs.Bitmap.{byte_len_of}
use Rattle.page_bitmap.proofs.Packed.{zeros_packed, zeros_bits}
use Rattle.page_bitmap.proofs.bitmap.Bitmap.new.Goals as goal

pub invariant_of-result : goal.invariant_of-result
invariant_of-result c = zeros_packed _ _ (c.in_ok-vec.ensures.items_if_clones_equal (λ y h. h) ∙ ap (λ (n : ℕ). replicate n 0) c.bytes_for.ensures)

pub returns : goal.returns
returns c =
    let zeros : c.in_ok-vec.field-0.items ≡ replicate (byte_len_of c.args.pages) 0 = c.in_ok-vec.ensures.items_if_clones_equal (λ y h. h) ∙ ap (λ (n : ℕ). replicate n 0) c.bytes_for.ensures in
    ap (λ (bits : List Bool). record { pages = c.args.pages; bits = bits }) (zeros_bits c.args.pages _ zeros)
