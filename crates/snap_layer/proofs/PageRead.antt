-- One page of a layer more, or why there is none.
use Rattle.std.proofs.Common.{◌≡◌, ℕ, suc, ◌+◌, ◌<◌, List, Ok, Err, Result, length, slice_set, refl, sym, ap, ◌∙◌}
use Rattle.ram_block.specs.declared.page_buf.TheConstants.{PAGE}
use Rattle.mig_stream.specs.Checks.{and_then, read_from}
use Rattle.mig_stream.specs.Pieces.{piece_in}
use Rattle.mig_stream.specs.declared.field_fault.FieldFault.{FieldFault}
use Rattle.mig_stream.specs.declared.field_fault.FieldFault.TheVariants as fields
use Rattle.flat_machine.specs.Page.{joined, with_page}
use Rattle.flat_machine.proofs.Pages.{AreWhole, joined-set}
use Rattle.snap_layer.specs.Reading.{LayerPage, number_in, page_in, ram_in}
use Rattle.snap_layer.specs.declared.refusal.LayerRefusal.{LayerRefusal}
use Rattle.snap_layer.specs.declared.refusal.LayerRefusal.TheVariants.{Truncated}

-- the number is wrong
pub number_refused : (layer : List ℕ) (total least at n : ℕ) (ram : List ℕ) (refusal : LayerRefusal) → number_in layer total least at ≡ Err refusal → ram_in layer total (suc n) least at ram ≡ Err refusal
unfolding page_in ram_in
number_refused layer total least at n ram refusal is =
    ap (λ (r : Result ℕ LayerRefusal). and_then (and_then r (λ p. read_from Truncated (λ (bytes : List ℕ). record { number = p; bytes = bytes }) (piece_in layer (at + 4) PAGE)))
    (λ (page : LayerPage). ram_in layer total n (page.number + 1) (at + 4100) (with_page ram page.number page.bytes))) is

-- the bytes of the page with this number
bytes_are : (layer : List ℕ) (total least at n p : ℕ) (ram : List ℕ) (piece : Result (List ℕ) FieldFault) → number_in layer total least at ≡ Ok p → piece_in layer (at + 4) PAGE ≡ piece
    → ram_in layer total (suc n) least at ram
    ≡ and_then (read_from Truncated (λ (bytes : List ℕ). record { number = p; bytes = bytes }) piece) (λ (page : LayerPage). ram_in layer total n (page.number + 1) (at + 4100) (with_page ram page.number page.bytes))
unfolding page_in ram_in
bytes_are layer total least at n p ram piece number is =
    ap (λ (r : Result ℕ LayerRefusal). and_then (and_then r (λ q. read_from Truncated (λ (bytes : List ℕ). record { number = q; bytes = bytes }) (piece_in layer (at + 4) PAGE)))
    (λ (page : LayerPage). ram_in layer total n (page.number + 1) (at + 4100) (with_page ram page.number page.bytes))) number
    ∙ ap (λ (r : Result (List ℕ) FieldFault). and_then (read_from Truncated (λ (bytes : List ℕ). record { number = p; bytes = bytes }) r)
    (λ (page : LayerPage). ram_in layer total n (page.number + 1) (at + 4100) (with_page ram page.number page.bytes))) is

-- the layer ends in the page
pub bytes_cut : (layer : List ℕ) (total least at n p place : ℕ) (ram : List ℕ) → number_in layer total least at ≡ Ok p → piece_in layer (at + 4) PAGE ≡ Err (fields.Truncated place)
    → ram_in layer total (suc n) least at ram ≡ Err (Truncated place)
bytes_cut layer total least at n p place ram number is = bytes_are layer total least at n p ram (Err (fields.Truncated place)) number is

-- the page is there
pub page_put : (layer : List ℕ) (total least at n p : ℕ) (ram bytes : List ℕ) → number_in layer total least at ≡ Ok p → piece_in layer (at + 4) PAGE ≡ Ok bytes
    → ram_in layer total (suc n) least at ram ≡ ram_in layer total n (p + 1) (at + 4100) (with_page ram p bytes)
page_put layer total least at n p ram bytes number is = bytes_are layer total least at n p ram (Ok bytes) number is

-- no page is left
pub ram_none : (layer : List ℕ) (total least at : ℕ) (ram : List ℕ) → ram_in layer total 0 least at ram ≡ Ok ram
unfolding ram_in
ram_none layer total least at ram = refl

-- the page is put into the list of pages
pub page_is_put : (layer : List ℕ) (total found least at n p : ℕ) (pages : List (List ℕ)) (page bytes : List ℕ) → found ≡ total → AreWhole pages → p < length pages
    → number_in layer found least at ≡ Ok p → piece_in layer (at + 4) PAGE ≡ Ok bytes → page ≡ bytes
    → ram_in layer total (suc n) least at (joined pages) ≡ ram_in layer total n (p + 1) (at + 4100) (joined (slice_set pages p page))
page_is_put layer total found least at n p pages page bytes same whole inside number piece is =
    page_put layer total least at n p (joined pages) bytes (ap (λ (k : ℕ). number_in layer k least at) (sym same) ∙ number) piece
    ∙ ap (λ (b : List ℕ). ram_in layer total n (p + 1) (at + 4100) (with_page (joined pages) p b)) (sym is)
    ∙ ap (λ (r : List ℕ). ram_in layer total n (p + 1) (at + 4100) r) (sym (joined-set pages p page whole inside))
