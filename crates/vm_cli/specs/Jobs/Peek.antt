-- The job of `peek`: the heads of the input are read, and then the pages of a range of RAM alone, whose bytes are printed
-- (this project's own, docs/COMMAND_LINE.md).
use Rattle.std.specs.Prelude.{◌≡◌, ℕ, zero, suc, ◌+◌, ◌-◌, ◌/◌, ◌%◌, ◌&&◌, Bool, true, false, nat_lt, List, [], ◌∷◌, length, take, drop, Option, Some, None, option_map, IfSome, if◌then◌else◌}
use Rattle.std.specs.Int.{div_ceil}
use Rattle.std.specs.List.{flat_map, range_with_len}
use Rattle.ram_block.specs.Shape.{ShapeData}
use Rattle.ram_block.specs.declared.page_buf.TheConstants.{PAGE}
use Rattle.file_plan.specs.Layout.{page_bit}
use Rattle.file_plan.specs.Plan.{block_places, page_place}
use Rattle.medium.specs.Count.{HasRisen}
use Rattle.medium.specs.States.{FileState}
use Rattle.page_peek.specs.Heads.{heads_refusal, or_else}
use Rattle.page_peek.specs.Peeked.{PeekData, peek_of, peeked}
use Rattle.page_peek.specs.declared.fault.PageFault.{PageFault}
use Rattle.page_peek.specs.declared.fault.PageFault.TheVariants as pages
use Rattle.page_peek.specs.declared.fault.PeekRefusal.{PeekRefusal}
use Rattle.page_peek.specs.declared.fault.PeekRefusal.TheVariants.{Truncated}
use Rattle.vm_cli.specs.Jobs.Common.{Printing, print_step}
use Rattle.vm_cli.specs.Outside.{End, Outside}
use Rattle.vm_cli.specs.Steps.{Step, Input}
use Rattle.vm_cli.specs.declared.answer.Fault.{Fault}
use Rattle.vm_cli.specs.declared.answer.Fault.TheVariants as faults
use Rattle.vm_report.specs.Report.{row_lines}

-- ---- The bytes

-- how many pages a range of bytes touches, from that of its first byte on
abbrev pub pages_touched : ℕ → ℕ → ℕ
pages_touched at len = div_ceil (at % PAGE + len) PAGE

-- the bytes of a range of RAM as the file has them, counted from the start of RAM
abbrev pub peeked_bytes : List ℕ → ShapeData → ℕ → ℕ → List ℕ
peeked_bytes file s at len = take len (drop (at % PAGE) (flat_map (peeked file s) (range_with_len (at / PAGE) (pages_touched at len))))

-- ---- Refusals

-- a page that the file has, and in whose bytes it ends
abbrev pub cut_refusal : List ℕ → ShapeData → ℕ → Option PeekRefusal
cut_refusal file s p =
    let at = page_place s.pages p in
    if page_bit file (block_places s.pages (p / s.pages)).bitmap (p % s.pages) && nat_lt (length file - at) PAGE then Some (Truncated at) else None

-- the first of so many pages from this one on that is cut
unfoldable pub cuts_from : List ℕ → ShapeData → ℕ → ℕ → Option PeekRefusal
cuts_from file s p zero = None
cuts_from file s p (suc n) = or_else (cut_refusal file s p) (cuts_from file s (p + 1) n)

-- the fault of a page that isn't read
abbrev pub page_fault_of : PageFault → Fault
page_fault_of (pages.Truncated at) = faults.PeekRefused (Truncated at)
page_fault_of pages.ReadFault = faults.FileFault

-- so many pages from this one on weren't read: one of them is cut, or a call failed, or memory ran out
abbrev pub IsRangeUnread : FileState → FileState → PeekData → ℕ → ℕ → Fault → Type 0
IsRangeUnread old new peek first count (faults.PeekRefused (Truncated at)) = IfSome old.told (λ file. peek ≡ peek_of file peek.shape → cuts_from file peek.shape first count ≡ Some (Truncated at))
IsRangeUnread old new peek first count faults.FileFault = HasRisen old.faults new.faults
IsRangeUnread old new peek first count faults.NoMemory = Unit {0}
IsRangeUnread old new peek first count fault = ⊥

-- ---- Steps

abbrev pub is_peek_refusal : Fault → Bool
is_peek_refusal (faults.PeekRefused refusal) = true
is_peek_refusal _ = false

abbrev pub is_cut_page : Fault → Bool
is_cut_page (faults.PeekRefused (Truncated at)) = true
is_cut_page _ = false

abbrev pub peek_fault : Option PeekRefusal → Option Fault
peek_fault refusal = option_map (λ why. faults.PeekRefused why) refusal

-- the heads are read, and refused as the bytes of the input call for
abbrev pub read_heads_step : ShapeData → FileState → Step
read_heads_step s input = record { calls = Some Input; may_refuse = is_peek_refusal; verdict = option_map (λ file. peek_fault (heads_refusal file s)) input.told }

-- the pages of the range are read, and the first is refused that is cut
abbrev pub read_range_step : ShapeData → ℕ → ℕ → FileState → Step
read_range_step s at len input =
    record { calls = Some Input; may_refuse = is_cut_page; verdict = option_map (λ file. peek_fault (cuts_from file s (at / PAGE) (pages_touched at len))) input.told }

abbrev pub peek_steps : ShapeData → ℕ → ℕ → FileState → List Step
peek_steps s at len input = read_heads_step s input ∷ read_range_step s at len input ∷ print_step ∷ []

-- ---- What it did, where its work came to its end

-- these are the bytes of the range, so many over every input
pub record IsRangeOf (s : ShapeData) (at len : ℕ) (input : FileState) (bytes : List ℕ) : Type 0 where
  pub peeked : IfSome input.told (λ file. bytes ≡ peeked_bytes file s at len)
  pub count : length bytes ≡ len

pub record PrintsRange (prints : Printing) (s : ShapeData) (at len : ℕ) (old new : Outside) (end : End) : Type 0 where
  pub bytes : List ℕ
  pub range : IsRangeOf s at len old.input bytes
  pub printed : prints end.fault (row_lines bytes) old.console new.console
