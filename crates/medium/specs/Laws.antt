-- Why the laws of a file hold of one in memory: its bytes are an image, and an image is one since each moment.
use Rattle.std.proofs.Common.{◌≡◌, inl, inr, ℕ, ◌+◌, ◌-◌, ◌≤◌, min, max, List, [], ◌∷◌, ◌++◌, Some, length, take, drop, replicate, refl, sym, ◌∙◌, ap, subst, arith, append_assoc, length-append}
use Rattle.std.proofs.lemmas.List.{take_min, take_at, drop_at, length-take, length-drop, length-replicate}
use Rattle.medium.specs.Bytes.{written}
use Rattle.medium.specs.Crash.{Torn}
use Rattle.medium.specs.History.{Event, Wrote, Synced, bytes_after, MayLeave, MightHaveLeft}
use Rattle.medium.specs.Memory.{MediumData, bytes_of, images_of, moment_of, since_of}

-- the file before the place of a write, with zeros in a gap
abbrev pub front : ℕ → List ℕ → List ℕ
front at file = take at file ++ replicate (at - length file) 0

pub length-front : (at : ℕ) (file : List ℕ) → length (front at file) ≡ at
length-front at file = omega (arith, length-append (take at file) (replicate (at - length file) 0), length-take at file, length-replicate {A = ℕ} (at - length file) 0)

pub written_parts : (at : ℕ) (bytes file : List ℕ) → written at bytes file ≡ front at file ++ (bytes ++ drop (at + length bytes) file)
written_parts at bytes file = sym (append_assoc (take at file) (replicate (at - length file) 0) (bytes ++ drop (at + length bytes) file))

pub length-written : (at : ℕ) (bytes file : List ℕ) → length (written at bytes file) ≡ max (length file) (at + length bytes)
length-written at bytes file =
    let parts = ap length (written_parts at bytes file) in
    let whole = length-append (front at file) (bytes ++ drop (at + length bytes) file) in
    let tail = length-append bytes (drop (at + length bytes) file) in
    omega (arith, parts, whole, tail, length-front at file, length-drop (at + length bytes) file)

-- a crash may leave the file as it was
pub torn_same : (at n : ℕ) (file : List ℕ) → Torn at n file file
torn_same at n file = record { before = take_min at file; after = refl; no_shorter = omega arith }

-- or the whole write
pub torn_written : (at : ℕ) (bytes file : List ℕ) → Torn at (length bytes) file (written at bytes file)
torn_written at bytes file = record {
  before = take_at (take at file) (replicate (at - length file) 0 ++ (bytes ++ drop (at + length bytes) file)) (min at (length file)) (length-take at file);
  after =
      ap (drop (at + length bytes)) (written_parts at bytes file ∙ sym (append_assoc (front at file) bytes (drop (at + length bytes) file)))
      ∙ drop_at (front at file ++ bytes) (drop (at + length bytes) file) (at + length bytes) (omega (arith, length-append (front at file) bytes, length-front at file));
  no_shorter = omega (arith, length-written at bytes file);
}

-- the bytes are an image
pub whole_image : (first : List ℕ) (past : List Event) → MayLeave first past (bytes_after first past)
whole_image first [] = refl
whole_image first (Wrote at bytes ∷ past) = (bytes_after first past, whole_image first past, torn_written at bytes (bytes_after first past))
whole_image first (Synced ∷ past) = refl

pub told_image : (m : MediumData) (bytes : List ℕ) → Some (bytes_of m) ≡ Some bytes → images_of m bytes
told_image m bytes told =
    let is : bytes_of m ≡ bytes = cc in
    subst (images_of m) is (whole_image m.first m.past)

-- an image is one since each moment that came
counts_from : (first : List ℕ) (past : List Event) (t : ℕ) (image : List ℕ) → MayLeave first past image → MightHaveLeft first past t image
counts_from first [] t image now = now
counts_from first (event ∷ past) t image now = inl now

pub image_counts : (m : MediumData) (t : ℕ) (image : List ℕ) → t ≤ moment_of m → images_of m image → since_of m t image
image_counts m t image le now = counts_from m.first m.past t image now

only_from : (first : List ℕ) (past : List Event) (image : List ℕ) → MightHaveLeft first past (length past) image → MayLeave first past image
only_from first [] image left = left
only_from first (event ∷ past) image (inl now) = now
only_from first (event ∷ past) image (inr before) = absurd (omega (arith, before.0))

pub only_now_image : (m : MediumData) (image : List ℕ) → since_of m (moment_of m) image → images_of m image
only_now_image m image left = only_from m.first m.past image left
