-- How one read behind another goes on with a piece.
use Rattle.std.proofs.Common.{ℕ, ◌+◌, ◌-◌, ◌≤◌, List, ◌++◌, Option, Some, None, length, take, drop, sym, ◌∙◌, ap, arith, IfSome}
use Rattle.std.proofs.Math.Seq.{take-add, take-append-add}
use Rattle.std.proofs.lemmas.List.{drop-drop, length-take-le, take-append-le}
use Rattle.medium.specs.Bytes.{ReadsAt}
use Rattle.mig_stream.specs.Turns.{IsFront}

-- what a read adds to the front of the piece
front_on_file : (file : List ℕ) (at got n : ℕ) (buf new rest : List ℕ) → got ≤ length buf → n ≤ length new → IsFront file at got buf → ReadsAt file (at + got) n new → IsFront file at (got + n) (take got buf ++ (new ++ rest))
front_on_file file at got n buf new rest le within front read =
    let room : got ≤ length file - at = front.room in
    let count : n ≤ length file - (at + got) = omega (arith, read.count) in
    record {
      room = omega (arith, room, count);
      bytes =
          take-add got n (drop at file)
          ∙ ap (λ (xs : List ℕ). xs ++ take n (drop got (drop at file))) front.bytes
          ∙ ap (λ (xs : List ℕ). take got buf ++ take n xs) (drop-drop got at file)
          ∙ ap (λ (xs : List ℕ). take got buf ++ xs) (sym read.bytes)
          ∙ ap (λ (xs : List ℕ). take got buf ++ xs) (sym (take-append-le n new rest within))
          ∙ sym (take-append-add (take got buf) (new ++ rest) n)
          ∙ ap (λ (k : ℕ). take (k + n) (take got buf ++ (new ++ rest))) (length-take-le got buf le);
    }

pub front_on : (told : Option (List ℕ)) (at got n : ℕ) (buf new rest : List ℕ) → got ≤ length buf → n ≤ length new
    → IfSome told (λ file. IsFront file at got buf) → IfSome told (λ file. ReadsAt file (at + got) n new) → IfSome told (λ file. IsFront file at (got + n) (take got buf ++ (new ++ rest)))
front_on None at got n buf new rest le within front read = tt
front_on (Some file) at got n buf new rest le within front read = front_on_file file at got n buf new rest le within front read

-- before the first read
pub front_none : (told : Option (List ℕ)) (at : ℕ) (buf : List ℕ) → IfSome told (λ file. IsFront file at 0 buf)
front_none None at buf = tt
front_none (Some file) at buf = record { room = omega arith; bytes = Prim.cc }
