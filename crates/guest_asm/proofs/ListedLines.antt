-- The lines of a listing: nothing is wrong with any of them, and they place their bytes one after the other.
use Rattle.std.proofs.Common.{◌≡◌, ℕ, zero, suc, ◌+◌, ◌*◌, ◌<◌, ◌≤◌, ◌++◌, ◌==◌, not, Bool, true, false, All, List, [], ◌∷◌, length, map, get_or, sum_by, Option, Some, None, refl, sym, ap, ◌∙◌, append_assoc, length-append, arith}
use Rattle.std.proofs.lemmas.List.{length-map}
use Rattle.std.specs.List.{flat_map, list_all, slice_split}
use Rattle.std.specs.Option.{option_map}
use Rattle.std.proofs.lemmas.Bool.Decides.{nat_tests}
use Rattle.std.proofs.lemmas.List.Elements.{All-cons, All-get_or, All-nil, All-weaker}
use Rattle.std.proofs.lemmas.List.Splits.{slice_split_at}
use Rattle.std.proofs.lemmas.List.Sums.{AllPass-from_list_all, sum_by-cons, sum_by_more_le}
use Rattle.guest_asm.specs.declared.assembler.TheConstants.{MAX_ASSEMBLED, MAX_TEXT}
use Rattle.guest_asm.specs.Assemble.{IsAssembled, asm_of, faults, is_too_large, kind_at, line_at, piece_at, pieces, statement_kind, statement_piece}
use Rattle.guest_asm.specs.Bytes.{ArePieces, IsPiece, Piece}
use Rattle.guest_asm.specs.Labels.{label_place, line_size, place_of}
use Rattle.guest_asm.specs.Line.{line_of, lines_of}
use Rattle.guest_asm.proofs.Empty.{empty_kind, empty_piece, empty_size}
use Rattle.guest_asm.proofs.Listed.{Places}
use Rattle.guest_asm.proofs.Runs.{filter_map_each, none_from}

-- a line of a listing, without its line feed, and what it places
pub record ListedLine : Type 0 where
  pub line : List ℕ
  pub piece : Piece
  pub bytes : List ℕ
  pub places : Places line piece (length bytes)
  pub is_piece : IsPiece piece bytes
  pub few : length bytes ≤ 4

-- the same with its line feed
abbrev pub text_of : ListedLine → List ℕ
text_of l = l.line ++ 10 ∷ []

-- the lines of a text of such lines: behind the last line feed stands an empty one
abbrev pub lines_in : List ListedLine → List (List ℕ)
lines_in ls = map (λ l. l.line) ls ++ [] ∷ []

-- ---- The lines of the text

-- what is not so is false
not_true : (b : Bool) → not b ≡ true → b ≡ false
not_true true h = sym h
not_true false h = refl

-- the first line and its line feed
split_line : (line rest : List ℕ) → list_all (λ b. not (b == 10)) line ≡ true →
    slice_split (λ b. b == 10) ((line ++ 10 ∷ []) ++ rest) ≡ line ∷ slice_split (λ b. b == 10) rest
split_line line rest h =
    let none = All-weaker (λ (b : ℕ). not (b == 10) ≡ true) (λ (b : ℕ). (b == 10) ≡ false) (λ b e. not_true (b == 10) e) line
    (AllPass-from_list_all (λ b. not (b == 10)) line h) in
    rw append_assoc (slice_split_at (λ b. b == 10) line 10 rest none refl)

-- the lines of the text
lines_listed : (ls : List ListedLine) → lines_of (flat_map text_of ls) ≡ lines_in ls
unfolding lines_of
lines_listed [] = refl
lines_listed (l ∷ ls) = split_line l.line (flat_map text_of ls) l.places.one_line ∙ ap (λ (xs : List (List ℕ)). l.line ∷ xs) (lines_listed ls)

-- ---- Nothing is wrong

-- a line without a label, with nothing wrong in its statement wherever it stands
record IsRight (line : List ℕ) : Type 0 where
  unlabelled : (line_of line).label ≡ None
  right : (places : List ℕ → Option ℕ) (place : ℕ) → statement_kind places place (line_of line).statement ≡ None

-- an empty line has no label
empty_label : (line_of []).label ≡ None
unfolding line_of
empty_label = refl

-- and no statement
empty_statement : (line_of []).statement ≡ []
unfolding line_of
empty_statement = refl

-- so nothing is wrong with it
empty_is_right : IsRight []
empty_is_right = record { unlabelled = empty_label; right = λ places place. empty_kind places place _ (ap length empty_statement) }

-- so are all lines of a listing
all_right : (ls : List ListedLine) → All IsRight (lines_in ls)
all_right [] = All-cons IsRight [] [] empty_is_right (All-nil IsRight)
all_right (l ∷ ls) = All-cons IsRight l.line (lines_in ls) (record { unlabelled = l.places.unlabelled; right = l.places.right }) (all_right ls)

-- such a line has no fault where the bytes up to its end are few enough
kind_none : (lines : List (List ℕ)) (i : ℕ) → IsRight (line_at lines i) → place_of lines i + line_size (line_at lines i) ≤ MAX_ASSEMBLED →
    kind_at lines i ≡ None
unfolding kind_at
kind_none lines i h small =
    let room : is_too_large (place_of lines i) (line_at lines i) ≡ false = grind (arith, nat_tests) in
    rw (h.unlabelled, h.right (label_place lines) (place_of lines i), room) refl

-- ---- The bytes

-- what such lines place, joined
abbrev pub bytes_of : List ListedLine → List ℕ
bytes_of ls = flat_map (λ l. l.bytes) ls

-- an empty line places no byte
empty_line_size : line_size [] ≡ 0
empty_line_size = empty_size _ (ap length empty_statement)

-- and has no piece
empty_line_piece : (places : List ℕ → Option ℕ) (place : ℕ) → statement_piece places place (line_of []).statement ≡ None
empty_line_piece places place = empty_piece places place _ (ap length empty_statement)

-- the lines place as many bytes as there are
size_listed : (ls : List ListedLine) → sum_by line_size (lines_in ls) ≡ length (bytes_of ls)
size_listed [] = sum_by-cons line_size [] [] ∙ omega (arith, empty_line_size)
size_listed (l ∷ ls) =
    let rest = size_listed ls in
    let joined = length-append l.bytes (bytes_of ls) in
    sum_by-cons line_size l.line (lines_in ls) ∙ omega (arith, l.places.sized)

-- a line places at most four bytes
few_bytes : (ls : List ListedLine) → length (bytes_of ls) ≤ 4 * length ls
few_bytes [] = omega arith
few_bytes (l ∷ ls) = omega (arith, l.few, few_bytes ls, length-append l.bytes (bytes_of ls))

-- and has at least its line feed
some_text : (ls : List ListedLine) → length ls ≤ length (flat_map text_of ls)
some_text [] = omega arith
some_text (l ∷ ls) =
    omega (arith, some_text ls, length-append (text_of l) (flat_map text_of ls), length-append l.line (10 ∷ []))

-- so the bytes of a text that is short enough are few enough
room : (ls : List ListedLine) → length (flat_map text_of ls) ≤ MAX_TEXT → length (bytes_of ls) ≤ MAX_ASSEMBLED
room ls short = omega (arith, few_bytes ls, some_text ls)

-- ---- The answer

-- one line more than those of the listing
length_lines : (ls : List ListedLine) → length (lines_in ls) ≡ length ls + 1
length_lines ls = omega (arith, length-append (map (λ l. l.line) ls) ([] ∷ []), length-map ls (λ l. l.line))

-- no line is wrong
no_fault : (ls : List ListedLine) → length (bytes_of ls) ≤ MAX_ASSEMBLED → (i : ℕ) → i < length (lines_in ls) → kind_at (lines_in ls) i ≡ None
unfolding place_of
no_fault ls few i within =
    let lines = lines_in ls in
    let upto = sum_by_more_le line_size lines i [] within in
    kind_none lines i (All-get_or IsRight lines i [] within (all_right ls)) (omega (arith, size_listed ls))

-- so there is no fault
no_faults : (ls : List ListedLine) → length (bytes_of ls) ≤ MAX_ASSEMBLED → faults (lines_in ls) ≡ []
no_faults ls few =
    none_from (λ i. option_map (λ k. (i + 1, k)) (kind_at (lines_in ls) i)) 0 (length (lines_in ls))
    (λ i low high. ap (option_map (λ k. (i + 1, k))) (no_fault ls few i (omega arith)))

-- a line among the others
line_in : (ls : List ListedLine) (i : ℕ) (d : ListedLine) → i < length ls → line_at (lines_in ls) i ≡ (get_or ls i d).line
line_in [] i d within = absurd (omega arith)
line_in (l ∷ ls) zero d within = refl
line_in (l ∷ ls) (suc i) d within = line_in ls i d (omega arith)

-- the line behind the last line feed
last_line : (ls : List ListedLine) → line_at (lines_in ls) (length ls) ≡ []
last_line [] = refl
last_line (l ∷ ls) = last_line ls

-- each line of the listing places its piece
piece_in : (ls : List ListedLine) (i : ℕ) (d : ListedLine) → i < length ls → piece_at (lines_in ls) (0 + i) ≡ Some (get_or ls i d).piece
unfolding piece_at
piece_in ls i d within =
    let lines = lines_in ls in
    let same : 0 + i ≡ i = omega arith in
    rw (same, line_in ls i d within) ((get_or ls i d).places.placed (label_place lines) (place_of lines i))

-- and the empty line none
no_piece : (ls : List ListedLine) (i : ℕ) → i ≡ length ls → piece_at (lines_in ls) i ≡ None
unfolding piece_at
no_piece ls i last =
    let lines = lines_in ls in
    rw (last, last_line ls) (empty_line_piece (label_place lines) (place_of lines (length ls)))

-- so the pieces of the text are those of its lines
pieces_listed : (ls : List ListedLine) → pieces (lines_in ls) ≡ map (λ l. l.piece) ls
pieces_listed ls =
    filter_map_each (piece_at (lines_in ls)) (λ l. l.piece) ls 0 (length (lines_in ls)) (length_lines ls) (piece_in ls) (no_piece ls (0 + length ls) (omega arith))

-- the bytes are those of the pieces
joined_listed : (ls : List ListedLine) → ArePieces (map (λ l. l.piece) ls) (bytes_of ls)
joined_listed [] = refl
joined_listed (l ∷ ls) = (l.bytes, bytes_of ls, l.is_piece, joined_listed ls, refl)

-- a text of such lines that is short enough assembles to their bytes
pub assembled : (ls : List ListedLine) → length (flat_map text_of ls) ≤ MAX_TEXT → IsAssembled (flat_map text_of ls) (bytes_of ls)
unfolding asm_of
assembled ls short = record {
  placed = map (λ l. l.piece) ls;
  answer = rw (lines_listed ls, no_faults ls (room ls short), pieces_listed ls) refl;
  joined = joined_listed ls;
}
