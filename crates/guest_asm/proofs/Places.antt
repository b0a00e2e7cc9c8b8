-- Where the lines and their labels stand, line by line.
use Rattle.std.proofs.Common.{◌≡◌, ◌∙◌, ℕ, ◌+◌, ◌<◌, ◌≤◌, false, Bor, List, [], length, take, get_or, cond, Option, Some, None, refl, sym, ap, take-take, arith}
use Rattle.std.specs.BTreeMap.{BTreeMap, IsEmpty}
use Rattle.std.specs.List.{position}
use Rattle.std.specs.Option.{option_copied, option_map, option_map_or, option_or}
use Rattle.std.specs.Str.{bytes_eq}
use Rattle.std.proofs.lemmas.Grind.{common_steps}
use Rattle.std.proofs.lemmas.List.Sums.{sum_by_more}
use Rattle.guest_asm.specs.declared.labels.Spot.{Spot}
use Rattle.guest_asm.specs.declared.line.LineParts.{LineParts}
use Rattle.guest_asm.specs.Labels.{has_label, line_size, place_of, size_placed}
use Rattle.guest_asm.specs.Line.{line_of}
use Rattle.guest_asm.specs.Parts.{parts_value}
use Rattle.guest_asm.specs.Steps.{HasLabelsOf, first_spot, spot_in}
use Rattle.guest_asm.proofs.Options.{IfSome-map, map_if, map_or, map_same}
use Rattle.guest_asm.proofs.Spots.{position_more, position_within}

-- the first lines have the places that they have among all
place_of-take : (lines : List (List ℕ)) (i k : ℕ) → k ≤ i → place_of (take i lines) k ≡ place_of lines k
unfolding place_of
place_of-take lines i k h = rw (take-take k i lines h)

-- a line begins where the line before it ends
pub place_of_more : (lines : List (List ℕ)) (i : ℕ) → i < length lines → place_of lines (i + 1) ≡ place_of lines i + line_size (get_or lines i [])
unfolding place_of
place_of_more lines i h = sum_by_more line_size lines i [] h

-- and so where a line whose statement is known ends
pub place_of_more_by : (lines : List (List ℕ)) (i place size : ℕ) (parts : LineParts) → i < length lines → place ≡ place_of lines i →
    parts_value parts ≡ line_of (get_or lines i []) → size ≡ size_placed parts.statement.now → place + size ≡ place_of lines (i + 1)
place_of_more_by lines i place size parts within here is placed =
    let more : place_of lines (i + 1) ≡ place_of lines i + line_size (get_or lines i []) = place_of_more lines i within in
    rw (more, here, placed, ← is)

-- the first line begins at 0
pub place_of_none : (lines : List (List ℕ)) → 0 ≡ place_of lines 0
unfolding place_of
place_of_none lines = refl

-- a line as the place of a label
abbrev spot_at : List (List ℕ) → ℕ → Spot
spot_at lines k = record { line = k; place = place_of lines k }

-- the first of some lines that has a label, as a place among all of them
first_spot-take : (lines : List (List ℕ)) (i : ℕ) (name : List ℕ) →
    first_spot (take i lines) name ≡ option_map (spot_at lines) (position (has_label name) (take i lines))
first_spot-take lines i name =
    map_same (spot_at (take i lines)) (spot_at lines) (position (has_label name) (take i lines))
    (IfSome-map (λ k. k < length (take i lines)) (λ k. spot_at (take i lines) k ≡ spot_at lines k) (position (has_label name) (take i lines))
    (λ k h. ap (λ (p : ℕ). let s : Spot = record { line = k; place = p } in s) (place_of-take lines i k (grind (arith, common_steps))))
    (position_within (has_label name) (take i lines)))

-- the first line that has a label, with one more line: the line before, or else this
first_spot_more : (lines : List (List ℕ)) (i : ℕ) (name : List ℕ) → i < length lines →
    first_spot (take (i + 1) lines) name
    ≡ option_or (first_spot (take i lines) name) (cond (has_label name (get_or lines i [])) (Some (spot_at lines i)) None)
first_spot_more lines i name h =
    let all : first_spot (take (i + 1) lines) name ≡ option_map (spot_at lines) (position (has_label name) (take (i + 1) lines)) = first_spot-take lines (i + 1) name in
    let first : first_spot (take i lines) name ≡ option_map (spot_at lines) (position (has_label name) (take i lines)) = first_spot-take lines i name in
    rw (all, first, position_more (has_label name) lines i [] h)
    (map_or (spot_at lines) (position (has_label name) (take i lines)) (cond (has_label name (get_or lines i [])) (Some i) None)
    ∙ ap (option_or (option_map (spot_at lines) (position (has_label name) (take i lines)))) (map_if (spot_at lines) (has_label name (get_or lines i [])) i))

-- a test of what a label is, before and behind the reference
copied_or : (name : List ℕ) (label : Option (Bor (List ℕ))) →
    option_map_or (bytes_eq name) (option_copied label) false ≡ option_map_or (λ (l : Bor (List ℕ)). bytes_eq name l.now) label false
copied_or name None = refl
copied_or name (Some l) = refl

-- the label of a line whose parts are known
has_label-parts : (name text : List ℕ) (parts : LineParts) → parts_value parts ≡ line_of text →
    has_label name text ≡ option_map_or (λ (l : Bor (List ℕ)). bytes_eq name l.now) parts.label false
unfolding has_label
has_label-parts name text parts h =
    rw (sym h) (copied_or name parts.label)

-- no labels before the first line
pub labels_none : (lines : List (List ℕ)) (labels : BTreeMap (Bor (List ℕ)) Spot) → IsEmpty labels → HasLabelsOf (take 0 lines) labels
labels_none lines labels h = λ name. rw h refl

-- the labels with those of one more line
pub labels_more : (lines : List (List ℕ)) (i place : ℕ) (parts : LineParts) (labels new : BTreeMap (Bor (List ℕ)) Spot) → i < length lines →
    HasLabelsOf (take i lines) labels → parts_value parts ≡ line_of (get_or lines i []) → place ≡ place_of lines i →
    ((name : List ℕ) → spot_in new name ≡ option_or (spot_in labels name)
    (cond (option_map_or (λ (l : Bor (List ℕ)). bytes_eq name l.now) parts.label false) (Some (record { line = i; place = place })) None)) →
    HasLabelsOf (take (i + 1) lines) new
labels_more lines i place parts labels new within so_far is here noted = λ name.
    let more = first_spot_more lines i name within in
    let has = has_label-parts name (get_or lines i []) parts is in
    let old : spot_in labels name ≡ first_spot (take i lines) name = so_far name in
    let put = noted name in
    rw (more, put, old, has, here)
