-- What is wrong with the lines and what they place, by a map of the labels as by the lines themselves.
use Rattle.std.proofs.Common.{◌≡◌, ◌∙◌, ℕ, ◌+◌, ◌<◌, ◌++◌, Bool, false, Bor, List, [], ◌∷◌, length, take, get_or, map, nat_lt, cond, Option, Some, None, Ok, Err, refl, sym, ap, subst, append_assoc}
use mathlib.Core.Path.{fun_ext}
use Rattle.std.proofs.lemmas.List.{append-nil, get_or-map, length-map}
use Rattle.std.specs.BTreeMap.{BTreeMap}
use Rattle.std.specs.List.{list_any, position, slice_get}
use Rattle.std.specs.Option.{option_map, option_map_or, option_to_list}
use Rattle.guest_asm.specs.declared.fault.AsmFault.{AsmFault}
use Rattle.guest_asm.specs.declared.fault.AsmFault.TheVariants as fault
use Rattle.guest_asm.specs.declared.fault.AsmKind.{AsmKind}
use Rattle.guest_asm.specs.declared.fault.AsmKind.TheVariants as kind
use Rattle.guest_asm.specs.declared.labels.Spot.{Spot}
use Rattle.guest_asm.specs.Assemble.{IsFaultOf, asm_of, faults, kind_at, line_at, line_kind, piece_at, pieces, statement_piece}
use Rattle.guest_asm.specs.Bytes.{ArePieces, Piece}
use Rattle.guest_asm.specs.Labels.{has_label, label_place, place_of}
use Rattle.guest_asm.specs.Line.{line_of, lines_of}
use Rattle.guest_asm.specs.Steps.{HasLabelsOf, IsFaultAt, PutsAny, PutsPiece, kind_by, piece_by, place_in, stood_earlier}
use Rattle.guest_asm.proofs.Options.{map_map, or_map}
use Rattle.guest_asm.proofs.Runs.{first_given, none_given}
use Rattle.guest_asm.proofs.Spots.{position_before}

-- the labels of a map have the places that they have among the lines
same_places : (lines : List (List ℕ)) (labels : BTreeMap (Bor (List ℕ)) Spot) → HasLabelsOf lines labels → place_in labels ≡ label_place lines
same_places lines labels h =
    fun_ext
    (λ name. ap (option_map (λ (spot : Spot). spot.place)) (h name)
    ∙ map_map (λ (spot : Spot). spot.place) (λ i. record { line = i; place = place_of lines i }) (position (has_label name) lines))

-- and stand on an earlier line where they do among the lines
same_earlier : (lines : List (List ℕ)) (labels : BTreeMap (Bor (List ℕ)) Spot) (i : ℕ) → HasLabelsOf lines labels →
    stood_earlier labels i ≡ (λ name. list_any (has_label name) (take i lines))
same_earlier lines labels i h =
    fun_ext
    (λ name. ap (λ o. option_map_or (λ (spot : Spot). nat_lt spot.line i) o false) (h name)
    ∙ or_map (λ (spot : Spot). nat_lt spot.line i) (λ k. record { line = k; place = place_of lines k }) (position (has_label name) lines) false
    ∙ position_before (has_label name) lines i)

-- what is wrong with a line among labels that stand on earlier lines and have places
kind_among : (List ℕ → Bool) → (List ℕ → Option ℕ) → ℕ → List ℕ → Option AsmKind
kind_among earlier places place text =
    cond (option_map_or earlier (line_of text).label false) (Some kind.Twice) (line_kind places place text)

-- what is wrong with a line, by a map of the labels as by the lines
pub same_kind : (lines : List (List ℕ)) (labels : BTreeMap (Bor (List ℕ)) Spot) (i place : ℕ) (text : List ℕ) → HasLabelsOf lines labels →
    place ≡ place_of lines i → text ≡ line_at lines i → kind_by labels i place text ≡ kind_at lines i
unfolding kind_at kind_among
same_kind lines labels i place text h here is =
    ap (λ earlier. kind_among earlier (place_in labels) place text) (same_earlier lines labels i h)
    ∙ ap (λ places. kind_among (λ name. list_any (has_label name) (take i lines)) places place text) (same_places lines labels h)
    ∙ ap (λ at. kind_among (λ name. list_any (has_label name) (take i lines)) (label_place lines) at text) here
    ∙ ap (λ line. kind_among (λ name. list_any (has_label name) (take i lines)) (label_place lines) (place_of lines i) line) is

-- what a line places, by the one as by the other
pub same_piece : (lines : List (List ℕ)) (labels : BTreeMap (Bor (List ℕ)) Spot) (i place : ℕ) (text : List ℕ) → HasLabelsOf lines labels →
    place ≡ place_of lines i → text ≡ line_at lines i → piece_by labels place text ≡ piece_at lines i
unfolding piece_at
same_piece lines labels i place text h here is =
    ap (λ places. statement_piece places place (line_of text).statement) (same_places lines labels h)
    ∙ ap (λ at. statement_piece (label_place lines) at (line_of text).statement) here
    ∙ ap (λ line. statement_piece (label_place lines) (place_of lines i) (line_of line).statement) is

-- the bytes of pieces, with those of one more behind them
ArePieces-push : (pieces : List Piece) (piece : Piece) (old new : List ℕ) → ArePieces pieces old → PutsPiece piece old new →
    ArePieces (pieces ++ piece ∷ []) new
ArePieces-push [] piece old new placed put = (put.added, [], put.is_piece, refl, rw (put.joined, placed) (sym (append-nil put.added)))
ArePieces-push (first ∷ rest) piece old new placed put =
    let pushed : PutsPiece piece placed.1 (placed.1 ++ put.added) = record { added = put.added; is_piece = put.is_piece; joined = refl } in
    let whole : old ≡ placed.0 ++ placed.1 = placed.4 in
    let behind = ArePieces-push rest piece placed.1 (placed.1 ++ put.added) placed.3 pushed in
    (placed.0, placed.1 ++ put.added, placed.2, behind, rw (put.joined, whole) (append_assoc placed.0 placed.1 put.added))

-- and with one more or none
pub ArePieces-more : (pieces : List Piece) (found : Option Piece) (old new : List ℕ) → ArePieces pieces old → PutsAny found old new →
    ArePieces (pieces ++ option_to_list found) new
ArePieces-more pieces None old new placed put = rw (append-nil pieces, put) placed
ArePieces-more pieces (Some piece) old new placed put = ArePieces-push pieces piece old new placed put

-- the first wrong line of a text
pub first_fault : (text : List ℕ) (i : ℕ) (kind : AsmKind) → i < length (lines_of text) →
    ((k : ℕ) → k < i → kind_at (lines_of text) k ≡ None) → kind_at (lines_of text) i ≡ Some kind → asm_of text ≡ Err (i + 1, kind)
unfolding asm_of
first_fault text i kind within right wrong =
    let lines = lines_of text in
    let none = λ (k : ℕ) (below : k < i). ap (option_map (λ w. (k + 1, w))) (right k below) in
    let here = ap (option_map (λ w. (i + 1, w))) wrong in
    let found : slice_get (faults lines) 0 ≡ Some (i + 1, kind) =
    first_given (λ k. option_map (λ w. (k + 1, w)) (kind_at lines k)) (length lines) i (i + 1, kind) within none here in
    rw found

-- a text without a wrong line
pub no_fault : (text : List ℕ) → ((k : ℕ) → k < length (lines_of text) → kind_at (lines_of text) k ≡ None) →
    asm_of text ≡ Ok (pieces (lines_of text))
unfolding asm_of
no_fault text right =
    let lines = lines_of text in
    let none : faults lines ≡ [] =
    none_given (λ k. option_map (λ w. (k + 1, w)) (kind_at lines k)) (length lines)
    (λ k below. ap (option_map (λ w. (k + 1, w))) (right k below)) in
    rw none

-- what the code says of the first wrong line is what is wrong with the text
pub is_fault : (text : List ℕ) (i : ℕ) (wrong : AsmFault) → i < length (lines_of text) → ((k : ℕ) → k < i → kind_at (lines_of text) k ≡ None) →
    IsFaultAt i (kind_at (lines_of text) i) wrong → IsFaultOf text wrong
is_fault text i (fault.Line line kind) within right wrong = rw wrong.0 (first_fault text i kind within right wrong.1)
is_fault text i fault.NoMemory within right wrong = tt

-- as many lines as stand behind references
pub count_shown : (text : List ℕ) (items shown : List (Bor (List ℕ))) → shown ≡ items →
    map (λ (line : Bor (List ℕ)). line.now) items ≡ lines_of text → length shown ≡ length (lines_of text)
count_shown text items shown same is = rw (← is, same, length-map)

-- and each of them
pub line_shown : (text : List ℕ) (items shown : List (Bor (List ℕ))) (i : ℕ) (d : Bor (List ℕ)) → shown ≡ items →
    map (λ (line : Bor (List ℕ)). line.now) items ≡ lines_of text → i < length shown → (get_or shown i d).now ≡ line_at (lines_of text) i
line_shown text items shown i d same is within =
    let all : map (λ (line : Bor (List ℕ)). line.now) shown ≡ lines_of text = rw (same, is) in
    rw (← all) (sym (get_or-map (λ (line : Bor (List ℕ)). line.now) shown i d [] within))

-- the labels of lines behind references are those of the text's lines
pub labels_shown : (text : List ℕ) (items shown : List (Bor (List ℕ))) (labels : BTreeMap (Bor (List ℕ)) Spot) → shown ≡ items →
    map (λ (line : Bor (List ℕ)). line.now) items ≡ lines_of text → HasLabelsOf (map (λ (line : Bor (List ℕ)). line.now) shown) labels →
    HasLabelsOf (lines_of text) labels
labels_shown text items shown labels same is h =
    let all : map (λ (line : Bor (List ℕ)). line.now) shown ≡ lines_of text = rw (same, is) in
    subst (λ lines. HasLabelsOf lines labels) all h
