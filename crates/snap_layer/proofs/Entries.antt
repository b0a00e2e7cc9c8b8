-- The pages of a layer, both ways.
use Rattle.std.proofs.Common.{◌≡◌, ◌≢◌, ℕ, zero, suc, ◌+◌, ◌*◌, ◌<◌, ◌≤◌, true, List, [], ◌∷◌, ◌++◌, length, All, Ok, refl, sym, ap, ◌∙◌, subst, arith, length-append}
use Rattle.std.specs.Prelude.{◌&&◌, nat_le, nat_lt}
use Rattle.std.specs.List.{flat_map}
use Rattle.std.proofs.lemmas.Bool.{and_from, and_parts, le-leb, leb-true, lt-ltb, ltb-true}
use Rattle.ram_block.specs.declared.page_buf.TheConstants.{PAGE}
use Rattle.mig_stream.specs.Pieces.{Has, piece_in}
use Rattle.mig_stream.specs.Text.{be32}
use Rattle.flat_machine.specs.Page.{page_at, with_page}
use Rattle.flat_machine.proofs.Pages.{length-with_page, page_at-with_page_other, page_at-with_page_same}
use Rattle.device_state.proofs.Bodies.{Bytes}
use Rattle.device_state.proofs.Found.{piece_is, piece_of}
use Rattle.device_state.proofs.Parts.{has_both, has_parts, has_piece, piece_by, piece_count}
use Rattle.mig_stream.specs.Checks.{number32_in, read_from}
use Rattle.snap_layer.specs.Layer.{AreAscending}
use Rattle.snap_layer.specs.Reading.{LayerPage, number_in, page_in, ram_in}
use Rattle.snap_layer.specs.declared.refusal.LayerRefusal.TheVariants.{Page, Truncated}
use Rattle.snap_layer.proofs.Numbers.{both_ok, check_ok, number32_is, number32_of, of_piece, passes, then_ok}
use Rattle.snap_layer.proofs.Rams.{AreWhole, inside, none_below, written}

-- a page behind its number
abbrev pub entry : (ℕ → List ℕ) → ℕ → List ℕ
entry page p = be32 p ++ page p

pub length-entry : (page : ℕ → List ℕ) (p : ℕ) → length (page p) ≡ PAGE → length (entry page p) ≡ 4100
length-entry page p whole = omega (arith, whole, length-append (be32 p) (page p))

pub length-entries : (page : ℕ → List ℕ) (total least : ℕ) (pages : List ℕ) → AreWhole page total → AreAscending least total pages → length (flat_map (entry page) pages) ≡ 4100 * length pages
length-entries page total least [] whole ascending = refl
length-entries page total least (p ∷ pages) whole ascending =
    omega (arith, length-append (entry page p) (flat_map (entry page) pages), length-entry page p (whole p ascending.1), length-entries page total (p + 1) pages whole ascending.2)

-- ---- Forward

page_is : (layer : List ℕ) (page : ℕ → List ℕ) (total least p at : ℕ) → total ≤ 16384 → least ≤ p → p < total → length (page p) ≡ PAGE → Has layer at (entry page p)
    → page_in layer total least at ≡ Ok (record { number = p; bytes = page p })
unfolding page_in number_in
page_is layer page total least p at small from below whole has =
    let parts = has_parts layer at (be32 p) (page p) has in
    let bytes : piece_in layer (at + 4) PAGE ≡ Ok (page p) = piece_is layer (at + 4) PAGE (page p) (piece_by layer (at + 4) PAGE (page p) whole parts.1) in
    let right : nat_le least p && nat_lt p total ≡ true = and_from _ _ (le-leb _ _ from) (lt-ltb _ _ below) in
    let number : number_in layer total least at ≡ Ok p =
    then_ok (number32_in Truncated layer at) _ p p (number32_is layer at p (omega (arith, small, below)) parts.0) (check_ok (nat_le least p && nat_lt p total) (Page at p) _ p right refl) in
    then_ok (number_in layer total least at) _ p (record { number = p; bytes = page p }) number
    (ap (read_from Truncated (λ (b : List ℕ). record { number = p; bytes = b })) bytes)

pub pages_are : (layer : List ℕ) (page : ℕ → List ℕ) (total least at : ℕ) (pages ram : List ℕ) → total ≤ 16384 → AreWhole page total → AreAscending least total pages → Has layer at (flat_map (entry page) pages)
    → ram_in layer total (length pages) least at ram ≡ Ok (written page pages ram)
unfolding ram_in
pages_are layer page total least at [] ram small whole ascending has = refl
pages_are layer page total least at (p ∷ pages) ram small whole ascending has =
    let parts = has_parts layer at (entry page p) (flat_map (entry page) pages) has in
    let rest : Has layer (at + 4100) (flat_map (entry page) pages) =
    subst (λ (n : ℕ). Has layer (at + n) (flat_map (entry page) pages)) (length-entry page p (whole p ascending.1)) parts.1 in
    then_ok (page_in layer total least at) (λ (found : LayerPage). ram_in layer total (length pages) (found.number + 1) (at + 4100) (with_page ram found.number found.bytes))
    (record { number = p; bytes = page p }) (written page pages (with_page ram p (page p)))
    (page_is layer page total least p at small ascending.0 ascending.1 (whole p ascending.1) parts.0)
    (pages_are layer page total (p + 1) (at + 4100) pages (with_page ram p (page p)) small whole ascending.2 rest)

-- ---- Backward

-- a page that was read
record IsPage (layer : List ℕ) (total least at : ℕ) (page : LayerPage) : Type 0 where
  from : least ≤ page.number
  below : page.number < total
  number : Has layer at (be32 page.number)
  bytes : Has layer (at + 4) page.bytes
  whole : length page.bytes ≡ PAGE

page_of : (layer : List ℕ) (total least at : ℕ) (page : LayerPage) → Bytes layer → page_in layer total least at ≡ Ok page → IsPage layer total least at page
unfolding page_in number_in
page_of layer total least at page each is =
    let zero = both_ok (number_in layer total least at) _ page is in
    let p : ℕ = zero.0 in
    let one = both_ok (number32_in Truncated layer at) _ p zero.1 in
    let right = passes (nat_le least one.0 && nat_lt one.0 total) (Page at one.0) _ p one.2 in
    let same_number : one.0 ≡ p = cc in
    let limits = and_parts _ _ right.0 in
    let two = of_piece (λ (bytes : List ℕ). record { number = p; bytes = bytes }) (piece_in layer (at + 4) PAGE) page zero.2 in
    let same : record { number = p; bytes = two.0 } ≡ page = two.2 in
    let piece = piece_of layer (at + 4) PAGE two.0 two.1 in
    subst (IsPage layer total least at) same (record {
      from = subst (λ (k : ℕ). least ≤ k) same_number (leb-true _ _ limits.0);
      below = subst (λ (k : ℕ). k < total) same_number (ltb-true _ _ limits.1);
      number = number32_of layer at p each (one.1 ∙ ap (λ (k : ℕ). Ok k) same_number);
      bytes = has_piece layer (at + 4) PAGE two.0 piece;
      whole = piece_count layer (at + 4) PAGE two.0 piece;
    })

-- the pages that were read: what stands in the layer, and what RAM has then
pub record ArePages (layer : List ℕ) (total n least at : ℕ) (before after : List ℕ) : Type 0 where
  pub pages : List ℕ
  pub count : length pages ≡ n
  pub ascending : AreAscending least total pages
  pub long : length after ≡ PAGE * total
  pub others : (q : ℕ) → All (λ p. p ≢ q) pages → page_at after q ≡ page_at before q
  pub stands : Has layer at (flat_map (entry (page_at after)) pages)

pub pages_of : (layer : List ℕ) (total n least at : ℕ) (before after : List ℕ) → Bytes layer → length before ≡ PAGE * total → ram_in layer total n least at before ≡ Ok after
    → ArePages layer total n least at before after
unfolding ram_in
pages_of layer total zero least at before after each long is =
    let same : before ≡ after = cc in
    record {
      pages = [];
      count = refl;
      ascending = tt;
      long = subst (λ (r : List ℕ). length r ≡ PAGE * total) same long;
      others = λ q none. ap (λ (r : List ℕ). page_at r q) (sym same);
      stands = refl;
    }
pages_of layer total (suc n) least at before after each long is =
    let found = both_ok (page_in layer total least at) (λ (page : LayerPage). ram_in layer total n (page.number + 1) (at + 4100) (with_page before page.number page.bytes)) after is in
    let page : LayerPage = found.0 in
    let p = page.number in
    let here = page_of layer total least at page each found.1 in
    let within = inside p total before here.below long in
    let next = with_page before p page.bytes in
    let next_long : length next ≡ PAGE * total = length-with_page before page.bytes p here.whole within ∙ long in
    let rest = pages_of layer total n (p + 1) (at + 4100) next after each next_long found.2 in
    let one_on : p < p + 1 = omega arith in
    let kept : page_at after p ≡ page.bytes = rest.others p (none_below (p + 1) total p rest.pages one_on rest.ascending) ∙ page_at-with_page_same before page.bytes p here.whole within in
    let bytes : Has layer (at + 4) (page_at after p) = subst (Has layer (at + 4)) (sym kept) here.bytes in
    let first : Has layer at (entry (page_at after) p) = has_both layer at (be32 p) (page_at after p) here.number bytes in
    let first_long : length (entry (page_at after) p) ≡ 4100 = length-entry (page_at after) p (ap length kept ∙ here.whole) in
    record {
      pages = p ∷ rest.pages;
      count = ap suc rest.count;
      ascending = (here.from, here.below, rest.ascending);
      long = rest.long;
      others = λ q none.
          rest.others q (λ k d h. none (suc k) d (omega arith))
          ∙ page_at-with_page_other before page.bytes p q (none 0 0 (omega arith)) here.whole within;
      stands = has_both layer at (entry (page_at after) p) (flat_map (entry (page_at after)) rest.pages) first
          (subst (λ (k : ℕ). Has layer (at + k) (flat_map (entry (page_at after)) rest.pages)) (sym first_long) rest.stands);
    }
