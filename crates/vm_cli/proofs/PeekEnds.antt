-- The cause of each end of a job that looks into its input, and what it printed.
use Rattle.std.proofs.Common.{◌≡◌, inl, inr, ℕ, ◌/◌, ◌%◌, ◌≤◌, List, [], ◌∷◌, take, drop, Option, Some, None, Ok, Err, refl, sym, ◌∙◌, ap, arith}
use Rattle.std.specs.Prelude.{IfSome}
use Rattle.std.specs.List.{flat_map, range_with_len}
use Rattle.medium.specs.Count.{HasRisen}
use Rattle.medium.specs.States.{FileState}
use Rattle.page_peek.specs.Heads.{heads_refusal}
use Rattle.page_peek.specs.Peeked.{Opens, PeekData, peek_of, peeked}
use Rattle.page_peek.specs.declared.fault.PeekFault.{PeekFault}
use Rattle.page_peek.specs.declared.fault.PeekFault.TheVariants as peeks
use Rattle.page_peek.specs.declared.fault.PeekRefusal.TheVariants.{Truncated}
use Rattle.page_peek.proofs.Refusals.{heads_or_refusal}
use Rattle.ram_block.specs.Shape.{IsShape, ShapeData}
use Rattle.vm_cli.specs.Answer.{fault_of_peek}
use Rattle.vm_cli.specs.Jobs.Common.{print_step}
use Rattle.vm_cli.specs.Jobs.Peek.{IsRangeUnread, cuts_from, pages_touched, peek_fault, peek_steps, peeked_bytes, read_heads_step, read_range_step}
use Rattle.vm_cli.specs.Steps.{Faults, HasCause, Passes, Step}
use Rattle.vm_cli.specs.declared.answer.Fault.{Fault}
use Rattle.vm_cli.specs.declared.answer.Fault.TheVariants as faults
use Rattle.vm_cli.proofs.Causes.{passed, told_fact, where_told}

-- ---- The heads

-- heads that weren't read
pub unopened : (old new : Faults) (s : ShapeData) (input : FileState) (steps : List Step) (e : PeekFault) → IfSome input.told (λ file. Opens file s (Err e))
    → (e ≡ peeks.ReadFault → HasRisen old.input new.input) → HasCause old new (read_heads_step s input ∷ steps) (Some (fault_of_peek e))
unopened old new s input steps (peeks.Refused r) answer rose =
    inr (inr (inl (
      refl,
      where_told (λ file. peek_fault (heads_refusal file s)) input.told (λ v. v ≡ Some (faults.PeekRefused r))
          (λ file is. ap peek_fault (told_fact (λ bytes. heads_refusal bytes s ≡ Some r) input.told file answer is)),
    )))
unopened old new s input steps peeks.ReadFault answer rose = inr (inl (refl, rose refl))
unopened old new s input steps peeks.NoMemory answer rose = inl refl

-- heads that were read
pub heads_pass : (s : ShapeData) (input : FileState) (d : PeekData) → IsShape s → IfSome input.told (λ file. Opens file s (Ok d)) → Passes (read_heads_step s input)
heads_pass s input d is answer =
    where_told (λ file. peek_fault (heads_refusal file s)) input.told (λ v. v ≡ None)
    (λ file told. ap peek_fault ((heads_or_refusal file s is).0 (told_fact (λ bytes. Opens bytes s (Ok d)) input.told file answer told).0))

-- what was read of them is what the file says
known : (told : Option (List ℕ)) (s : ShapeData) (d : PeekData) (file : List ℕ) → d.shape ≡ s → IfSome told (λ f. Opens f s (Ok d)) → told ≡ Some file → d ≡ peek_of file d.shape
known told s d file shape answer is = (told_fact (λ f. Opens f s (Ok d)) told file answer is).1 ∙ ap (peek_of file) (sym shape)

-- ---- The range

-- the pages of a range, by numbers that are its own
pub record IsOf (at len p b n : ℕ) : Type 0 where
  pub page : p ≡ at / 4096
  pub begin : b ≡ at % 4096
  pub count : n ≡ pages_touched at len

-- pages that weren't read
pub range_unread : (old new : Faults) (s : ShapeData) (at len : ℕ) (input mid now : FileState) (d : PeekData) (page begin count : ℕ) (fault : Fault) → IsShape s → d.shape ≡ s → IsOf at len page begin count
    → IfSome input.told (λ file. Opens file s (Ok d)) → mid.told ≡ input.told → old.input ≤ mid.faults → now.faults ≡ new.input → IsRangeUnread mid now d page count fault
    → HasCause old new (peek_steps s at len input) (Some fault)
range_unread old new s at len input mid now d page begin count faults.NoMemory is shape of heads same le last unread = inl refl
range_unread old new s at len input mid now d page begin count faults.FileFault is shape of heads same le last unread =
    let rose : HasRisen old.input new.input = omega (arith, unread, le, last) in
    inr (inr (inr (heads_pass s input d is heads, inl (refl, rose))))
range_unread old new s at len input mid now d page begin count (faults.PeekRefused (Truncated place)) is shape of heads same le last unread =
    inr (inr (inr (
      heads_pass s input d is heads,
      inr (inl (
        refl,
        where_told (λ file. peek_fault (cuts_from file s (at / 4096) (pages_touched at len))) input.told (λ v. v ≡ Some (faults.PeekRefused (Truncated place)))
            (λ file told.
            ap peek_fault (
            ap (λ n. cuts_from file s n (pages_touched at len)) (sym of.page) ∙ ap (cuts_from file s page) (sym of.count) ∙ ap (λ (t : ShapeData). cuts_from file t page count) (sym shape)
            ∙ told_fact (λ f. d ≡ peek_of f d.shape → cuts_from f d.shape page count ≡ Some (Truncated place)) mid.told file unread (same ∙ told) (known input.told s d file shape heads told)
            )),
      )),
    )))
range_unread old new s at len input mid now d page begin count _ is shape of heads same le last unread = absurd unread

-- pages that were read
pub range_passes : (s : ShapeData) (at len : ℕ) (input mid : FileState) (d : PeekData) (page begin count : ℕ) (items : List ℕ) → d.shape ≡ s → IsOf at len page begin count
    → IfSome input.told (λ file. Opens file s (Ok d)) → mid.told ≡ input.told
    → ((file : List ℕ) → mid.told ≡ Some file → d ≡ peek_of file d.shape → (items ≡ flat_map (peeked file d.shape) (range_with_len page count)) × (cuts_from file d.shape page count ≡ None))
    → Passes (read_range_step s at len input)
range_passes s at len input mid d page begin count items shape of heads same read =
    where_told (λ file. peek_fault (cuts_from file s (at / 4096) (pages_touched at len))) input.told (λ v. v ≡ None)
    (λ file told.
    ap peek_fault (
    ap (λ n. cuts_from file s n (pages_touched at len)) (sym of.page) ∙ ap (cuts_from file s page) (sym of.count) ∙ ap (λ (t : ShapeData). cuts_from file t page count) (sym shape)
    ∙ (read file (same ∙ told) (known input.told s d file shape heads told)).1
    ))

-- what is left of their cause is that of the print
pub range_read : (old new : Faults) (s : ShapeData) (at len : ℕ) (input mid : FileState) (d : PeekData) (page begin count : ℕ) (items : List ℕ) (end : Option Fault) → IsShape s → d.shape ≡ s → IsOf at len page begin count
    → IfSome input.told (λ file. Opens file s (Ok d)) → mid.told ≡ input.told
    → ((file : List ℕ) → mid.told ≡ Some file → d ≡ peek_of file d.shape → (items ≡ flat_map (peeked file d.shape) (range_with_len page count)) × (cuts_from file d.shape page count ≡ None))
    → HasCause old new (print_step ∷ []) end → HasCause old new (peek_steps s at len input) end
range_read old new s at len input mid d page begin count items end is shape of heads same read printed =
    passed old new (read_heads_step s input) (read_range_step s at len input ∷ print_step ∷ []) end (heads_pass s input d is heads)
    (passed old new (read_range_step s at len input) (print_step ∷ []) end (range_passes s at len input mid d page begin count items shape of heads same read) printed)

-- and their bytes
pub range_bytes : (s : ShapeData) (at len : ℕ) (told mid : Option (List ℕ)) (d : PeekData) (page begin count : ℕ) (items bytes : List ℕ) → d.shape ≡ s → IsOf at len page begin count
    → IfSome told (λ file. Opens file s (Ok d)) → mid ≡ told
    → ((file : List ℕ) → mid ≡ Some file → d ≡ peek_of file d.shape → (items ≡ flat_map (peeked file d.shape) (range_with_len page count)) × (cuts_from file d.shape page count ≡ None))
    → bytes ≡ take len (drop begin items) → IfSome told (λ file. bytes ≡ peeked_bytes file s at len)
range_bytes s at len None mid d page begin count items bytes shape of heads same read is = tt
range_bytes s at len (Some file) mid d page begin count items bytes shape of heads same read is =
    is ∙ ap (λ n. take len (drop n items)) of.begin
    ∙ ap (λ (l : List ℕ). take len (drop (at % 4096) l)) (
    (read file same (known (Some file) s d file shape heads refl)).0
    ∙ ap (λ (t : ShapeData). flat_map (peeked file t) (range_with_len page count)) shape
    ∙ ap (λ n. flat_map (peeked file s) (range_with_len n count)) of.page
    ∙ ap (λ n. flat_map (peeked file s) (range_with_len (at / 4096) n)) of.count
    )
