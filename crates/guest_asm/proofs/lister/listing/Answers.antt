use Rattle.std.proofs.Common.{◌≡◌, ℕ, ◌<◌, ◌^◌, ◌≤◌, length, All, rules, subst, sym}
use Rattle.guest_asm.specs.declared.assembler.TheConstants.{MAX_TEXT}
use Rattle.guest_asm.specs.Assemble.{IsAssembled}
use Rattle.guest_asm.specs.Listing.{list_of}
use Rattle.guest_asm.proofs.Chunks.{list_by_chunks}
use Rattle.guest_asm.proofs.ListingText.{listing_assembles}
use Rattle.std.proofs.lemmas.List.Elements.{All-from_get_or}
use Rattle.guest_asm.proofs.lister.listing.Goals as goal

pub returns-clause-assembles : goal.returns-clause-assembles
returns-clause-assembles c =
    let bytes = c.args.bytes.now in
    let text : c.into_bytes.result.items ≡ list_of bytes = search (rules, list_by_chunks) in
    let small : All (λ byte. byte < 2 ^ 8) bytes = All-from_get_or (λ (b : ℕ). b < 2 ^ 8) bytes 0 (λ i within. (c.type_inv.bytes i).fits) in
    subst (λ t. length t ≤ MAX_TEXT → IsAssembled t bytes) (sym text)
    (λ short. listing_assembles bytes small short)
