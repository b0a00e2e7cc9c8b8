-- What an event writes to a cell is a content of that cell: a whole page stays one, and the page is in RAM.
use Rattle.std.proofs.Common.{◌≡◌, ℕ, ◌+◌, ◌*◌, ◌<◌, ◌≤◌, List, ◌++◌, length, take, drop, Some, refl, arith, length-append}
use Rattle.std.specs.List.{slice_get}
use Rattle.std.proofs.lemmas.List.{length-take, length-drop, length-take-le}
use Rattle.ram_block.specs.AddressMap.{width_bytes}
use Rattle.ram_block.specs.Shape.{ShapeData, ram_bytes_of, total_pages_of}
use Rattle.ram_block.specs.declared.page_buf.TheConstants.{PAGE}
use Rattle.ram_block.specs.declared.place.Place.TheVariants as places
use Rattle.ram_block.specs.declared.place.Width.{Width}
use Rattle.ram_block.specs.declared.place.Width.TheVariants.{One, Two, Four, Eight}
use Rattle.rv64i_step.specs.Event.{IsServable, request_of}
use Rattle.rv64i_step.specs.Request.{CanServe}
use Rattle.rv64i_step.specs.Vcpu.{VcpuData}
use Rattle.rv64i_step.specs.declared.request.Request.{Request}
use Rattle.rv64i_step.specs.declared.request.Request.TheVariants.{Store, Amo}
use Rattle.rv64i_step.proofs.Servable.{request_served}
use Rattle.flat_machine.specs.Cell.{CellName, PageCell, SerialCell, TimerCell, content, content_after, page_after}
use Rattle.flat_machine.specs.Laws.{IsContentOf, IsCellOf, ServesAll}
use Rattle.flat_machine.specs.Machine.{MachineData, page_of}
use Rattle.flat_machine.specs.Next.{cell_of}
use Rattle.flat_machine.specs.Page.{bytes_of, with_number, page_at}
use Rattle.flat_machine.proofs.Cells.{page_within}
use Rattle.flat_machine.proofs.Outcomes.{All-slice_get}
use Rattle.flat_machine.proofs.Served.{cell_there}

-- ---- Writes within a page

-- as many bytes as the width says
length-bytes_of : (width : Width) (value : ℕ) → length (bytes_of width value) ≡ width_bytes width
length-bytes_of One value = refl
length-bytes_of Two value = refl
length-bytes_of Four value = refl
length-bytes_of Eight value = refl

-- a number within a page leaves it as long as it was
length-with_number : (width : Width) (page : List ℕ) (off value : ℕ) → length page ≡ PAGE → off + width_bytes width ≤ PAGE →
    length (with_number width page off value) ≡ PAGE
unfolding with_number
length-with_number width page off value whole within =
    let bytes = bytes_of width value in
    let count = length-bytes_of width value in
    omega (arith, whole, count, length-append (take off page) (bytes ++ drop (off + length bytes) page), length-append bytes (drop (off + length bytes) page), length-take off page, length-drop (off + length bytes) page)

-- ---- What an event writes

-- a page stays whole
page_stays : (shape : ShapeData) (r : Request) (bytes : List ℕ) → CanServe shape r → length bytes ≡ PAGE → length (page_after r bytes) ≡ PAGE
unfolding page_after
page_stays shape (Store (places.Ram page off) width value) bytes is whole = length-with_number width bytes off _ whole is.in_page
page_stays shape (Amo (places.Ram page off) width op value) bytes is whole = length-with_number width bytes off _ whole is.0.in_page
page_stays shape _ bytes is whole = whole

-- a page that is there is whole
pub length-page_of : (m : MachineData) (p : ℕ) → length m.ram ≡ ram_bytes_of m.shape → p < total_pages_of m.shape → length (page_of m p) ≡ PAGE
unfolding page_at
length-page_of m p size h =
    let within = page_within m.shape p (length m.ram) size h in
    length-take-le PAGE (drop (PAGE * p) m.ram) (omega (arith, within, length-drop (PAGE * p) m.ram))

-- so it is a content of its cell
content_stays : (m : MachineData) (r : Request) (c : CellName) → length m.ram ≡ ram_bytes_of m.shape → CanServe m.shape r → IsCellOf m.shape c →
    IsContentOf m.shape c (content_after r (content m c))
unfolding content_after
content_stays m r (PageCell p) size is there = (there, page_stays m.shape r (page_of m p) is (length-page_of m p size there))
content_stays m r SerialCell size is there = tt
content_stays m r TimerCell size is there = tt

-- what the event of a request writes is a content of its cell
pub written_inside : (m : MachineData) (r : Request) (c : CellName) → length m.ram ≡ ram_bytes_of m.shape → CanServe m.shape r → cell_of r ≡ Some c →
    IsContentOf m.shape c (content_after r (content m c))
written_inside m r c size is touches = content_stays m r c size is (cell_there m.shape r c is touches)

-- what is asked of a machine that can serve each pending access, it can serve
pub asked_served : (m : MachineData) (k : ℕ) (v : VcpuData) → ServesAll m → slice_get m.vcpus k ≡ Some v → CanServe m.shape (request_of m.shape v)
asked_served m k v serves stood = request_served m.shape v (All-slice_get (IsServable m.shape) m.vcpus k v serves.each stood)
