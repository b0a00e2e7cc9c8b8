-- Reading a source from its start, piece after piece.
use Rattle.std.proofs.Common.{◌≡◌, ℕ, ◌+◌, ◌<◌, ◌≤◌, Bool, cond, List, [], ◌++◌, length, take, drop, Option, Some, None, Ok, Err, refl, sym, ap, subst, ◌∙◌, arith, length-append}
use Rattle.std.proofs.lemmas.Bool.{le-ltb}
use Rattle.std.proofs.lemmas.List.{length-take, length-drop, take_all, drop_all, drop-drop}
use Rattle.std.proofs.Math.Seq.{take-add}
use Rattle.medium.specs.Bytes.{TakesFrom}
use Rattle.image_file.specs.declared.image_refusal.ImageRefusal.TheVariants.{TooLong}
use Rattle.image_file.specs.Image.{behind, raw_of, Moves, MovesBytes, LeavesBehind}

-- nothing was read
pub reads_none : (most : ℕ) (left : Option (List ℕ)) → LeavesBehind most left left
unfolding behind
reads_none most (Some old) = (0, omega arith, refl)
reads_none most None = refl

-- one answer of a source, without its buffer
pub took : (left next : Option (List ℕ)) (n : ℕ) (buf all after : List ℕ) → 0 < length buf → TakesFrom left next n buf → after ≡ all ++ take n buf → Moves left next n all after
unfolding behind
took (Some old) next n buf all after some takes is = record {
  within = takes.within;
  moved = is ∙ ap (λ (l : List ℕ). all ++ l) takes.bytes;
  rest = takes.rest;
  end = takes.end some;
}
took None next n buf all after some takes is = takes

-- one answer of a source reads on
pub took_on : (most : ℕ) (left next : Option (List ℕ)) (n : ℕ) (buf : List ℕ) → n ≤ most → TakesFrom left next n buf → LeavesBehind most left next
unfolding behind
took_on most (Some old) next n buf le takes = (n, le, takes.rest)
took_on most None next n buf le takes = takes

-- the bytes of all stood in the front of what was left, and what is left stands behind them
pub record IsRead (old : List ℕ) (now : Option (List ℕ)) (all : List ℕ) : Type 0 where
  pub rest : now ≡ Some (behind (length all) old)
  pub front : all ≡ take (length all) old
  pub within : length all ≤ length old

-- the same, where the bytes are told; a source that tells none goes on telling none
abbrev pub HasRead : Option (List ℕ) → Option (List ℕ) → List ℕ → Type 0
HasRead (Some old) now all = IsRead old now all
HasRead None now all = now ≡ None

-- before the first piece
pub read_none : (left : Option (List ℕ)) (all : List ℕ) → all ≡ [] → HasRead left left all
unfolding behind
read_none (Some old) all is = let none : length all ≡ 0 = ap length is in record {
  rest = ap (λ (k : ℕ). Some (drop k old)) (sym none);
  front = is ∙ ap (λ (k : ℕ). take k old) (sym none);
  within = omega arith;
}
read_none None all is = refl

-- one piece more
pub read_more : (left now next : Option (List ℕ)) (all after : List ℕ) (n : ℕ) → HasRead left now all → Moves now next n all after → HasRead left next after
unfolding behind
read_more (Some old) now next all after n read moves =
    let rest = drop (length all) old in
    let step : MovesBytes rest next n all after = subst (λ (o : Option (List ℕ)). Moves o next n all after) read.rest moves in
    let longer : length after ≡ length all + n = ap length step.moved ∙ omega (arith, length-append all (take n rest), length-take n rest, step.within) in
    record {
      rest = step.rest ∙ ap Some (drop-drop n (length all) old ∙ ap (λ (k : ℕ). drop k old) (sym longer));
      front = step.moved ∙ ap (λ (l : List ℕ). l ++ take n rest) read.front ∙ sym (take-add (length all) n old) ∙ ap (λ (k : ℕ). take k old) (sym longer);
      within = omega (arith, length-drop (length all) old, step.within, read.within);
    }
read_more None now next all after n read moves = subst (λ (o : Option (List ℕ)). Moves o next n all after) read moves

-- a source that was read so far is read on
pub reads_on : (most room : ℕ) (left now next : Option (List ℕ)) (all : List ℕ) → length all + room ≤ most → HasRead left now all → LeavesBehind room now next → LeavesBehind most left next
unfolding behind
reads_on most room (Some old) now next all le read on =
    let more : LeavesBehind room (Some (drop (length all) old)) next = subst (λ (o : Option (List ℕ)). LeavesBehind room o next) read.rest on in
    (length all + more.0, omega (arith, more.1), more.2 ∙ ap Some (drop-drop more.0 (length all) old))
reads_on most room None now next all le read on = subst (λ (o : Option (List ℕ)). LeavesBehind room o next) read on

-- the source has ended, within the limit
pub record IsWhole (limit : ℕ) (bytes : List ℕ) (next : Option (List ℕ)) (all : List ℕ) : Type 0 where
  pub answer : raw_of bytes limit ≡ Ok all
  pub end : next ≡ Some (behind (limit + 1) bytes)
  pub nothing : next ≡ Some []

-- an answer of no byte within the limit is the end
pub ended : (limit n : ℕ) (left now next : Option (List ℕ)) (all after : List ℕ) → HasRead left now all → Moves now next n all after → n ≡ 0 → length after ≤ limit
    → (bytes : List ℕ) → left ≡ Some bytes → IsWhole limit bytes next after
unfolding behind
ended limit n left now next all after read moves zero le bytes is =
    let was : IsRead bytes now all = subst (λ (o : Option (List ℕ)). HasRead o now all) is read in
    let step : MovesBytes (drop (length all) bytes) next n all after = subst (λ (o : Option (List ℕ)). Moves o next n all after) was.rest moves in
    let nothing : drop (length all) bytes ≡ [] = step.end zero in
    let same : length after ≡ length all = ap length step.moved ∙ omega (arith, length-append all (take n (drop (length all) bytes)), length-take n (drop (length all) bytes)) in
    let long : length bytes ≤ length all = omega (arith, length-drop (length all) bytes, ap length nothing) in
    let more : IsRead bytes next after = read_more (Some bytes) now next all after n was moves in
    let whole : after ≡ bytes = more.front ∙ take_all (length after) bytes (omega arith) in
    record {
      answer = ap (λ (b : Bool). cond b (Err (TooLong (limit + 1))) (Ok bytes)) (le-ltb _ _ (omega arith)) ∙ ap (λ (l : List ℕ). Ok l) (sym whole);
      end = more.rest ∙ ap Some (drop_all (length after) bytes (omega arith) ∙ sym (drop_all (limit + 1) bytes (omega arith)));
      nothing = more.rest ∙ ap Some (drop_all (length after) bytes (omega arith));
    }
