use Rattle.std.proofs.Common.{◌≡◌, List, ℕ, Some, [], ◌∷◌, ap, codes}
use Rattle.std.specs.Fmt.{styled_digits_output}
use Rattle.guest_asm.specs.Listing.{hex_digits}
use Rattle.guest_asm.proofs.Hex.{hex_word, written}
use Rattle.guest_asm.proofs.lister.put_data.Goals as goal

pub returns : goal.returns
returns c =
    let hole : styled_digits_output c.in_radix.result c.laid_out.result ≡ Some (hex_digits 8 c.args.word) =
    rw (c.laid_out.ensures, c.in_radix.ensures) (ap (λ (ds : List ℕ). Some ds) (hex_word c.args.word c.ranges.word.fits)) in
    written c.writeln.result _ _ (codes ".word 0x") (10 ∷ []) (hex_digits 8 c.args.word) _ hole c.writeln.ensures.bytes
