-- A machine that is restored page by page, each at its first touch (this project's own, docs/ARCHITECTURE.md).
use Rattle.std.specs.Prelude.{◌≡◌, ℕ, ◌<◌, nat_eq, List, [], map, All, Option, Some, None, if◌then◌else◌}
use Rattle.std.specs.List.{range_with_len, IsDistinct}
use Rattle.ram_block.specs.PageLinks.{is_listed}
use Rattle.ram_block.specs.Shape.{total_pages_of}
use Rattle.flat_machine.specs.Cell.{CellName, PageCell}
use Rattle.flat_machine.specs.Machine.{IsMachine, MachineData, page_of}
use Rattle.flat_machine.specs.Page.{joined}
use Rattle.page_peek.specs.Peeked.{IsCutPage, IsPeek, PeekData, page_in}

-- what is held: a machine, in which a page that wasn't touched may be any; what is known of the file; and the pages
-- that were touched, each once, in the order of their first events
pub record LazyData : Type 0 where
  pub machine : MachineData
  pub peek : PeekData
  pub touched : List ℕ

-- a machine that is there; one that is taken out, which no caller meets, is shown as one of nothing
abbrev pub machine_in : Option MachineData → MachineData
machine_in (Some m) = m
machine_in None = record { shape = record { vcpus = 0; blocks = 0; pages = 0 }; ram = []; vcpus = []; serial = record { bytes = []; lost = 0; input = [] }; cmp = 0; clock = 0 }

-- within the limits
pub record IsLazy (d : LazyData) : Type 0 where
  pub machine : IsMachine d.machine
  pub peek : IsPeek d.peek
  pub shape : d.peek.shape ≡ d.machine.shape
  pub distinct : IsDistinct nat_eq d.touched
  pub below : All (λ p. p < total_pages_of d.machine.shape) d.touched

-- a page of the machine that is shown: once it was touched the one that is held, and until then the one of the file
abbrev pub shown_page : List ℕ → LazyData → ℕ → List ℕ
shown_page file d p = if is_listed d.touched p then page_of d.machine p else page_in file d.peek p

-- The machine that is shown, made of what is held and the bytes of the file.
unfoldable pub shown : List ℕ → LazyData → MachineData
shown file d = record d.machine { ram = joined (map (shown_page file d) (range_with_len 0 (total_pages_of d.machine.shape))) }

-- the file ends in no page that it has
abbrev pub IsWhole : List ℕ → LazyData → Type 0
IsWhole file d = (p : ℕ) → p < total_pages_of d.machine.shape → ¬ IsCutPage file d.peek p

-- the page that a cell is, where it is one
abbrev pub page_of_cell : Option CellName → Option ℕ
page_of_cell (Some (PageCell p)) = Some p
page_of_cell cell = None

-- the same, where it wasn't touched so far
abbrev pub new_page : LazyData → Option ℕ → Option ℕ
new_page d None = None
new_page d (Some p) = if is_listed d.touched p then None else Some p
