-- A machine is determined by its shape, its vCPUs, its clock and its cells.
use Rattle.std.proofs.Common.{◌≡◌, ℕ, zero, suc, ◌+◌, ◌*◌, ◌<◌, List, ◌++◌, length, take, drop, refl, sym, ◌∙◌, ap, arith, mul_comm}
use Rattle.std.proofs.lemmas.List.{length-drop, drop-drop, take-append-drop, nil_from_length}
use Rattle.ram_block.specs.Shape.{ram_bytes_of, total_pages_of}
use Rattle.ram_block.specs.declared.page_buf.TheConstants.{PAGE}
use Rattle.flat_machine.specs.Cell.{PageCell, SerialCell, TimerCell}
use Rattle.flat_machine.specs.Laws.{HasTheSame}
use Rattle.flat_machine.specs.Machine.{MachineData, page_of}
use Rattle.flat_machine.specs.Page.{page_at}

-- a page behind the first
page_behind : (ram : List ℕ) (p : ℕ) → page_at (drop PAGE ram) p ≡ page_at ram (suc p)
unfolding page_at
page_behind ram p =
    ap (take PAGE) (drop-drop (PAGE * p) PAGE ram ∙ ap (λ n. drop n ram) (let e : PAGE + PAGE * p ≡ PAGE * suc p = omega arith in e))

first_page : (ram : List ℕ) → page_at ram 0 ≡ take PAGE ram
unfolding page_at
first_page ram = refl

-- lists of so many pages that have the same pages
same_pages : (ram other : List ℕ) (count : ℕ) → length ram ≡ PAGE * count → length other ≡ PAGE * count →
    ((p : ℕ) → p < count → page_at other p ≡ page_at ram p) → other ≡ ram
same_pages ram other zero size size_other same =
    nil_from_length other (omega arith) ∙ sym (nil_from_length ram (omega arith))
same_pages ram other (suc count) size size_other same =
    let first : take PAGE other ≡ take PAGE ram = sym (first_page other) ∙ same 0 (omega arith) ∙ first_page ram in
    let rest : drop PAGE other ≡ drop PAGE ram =
    same_pages (drop PAGE ram) (drop PAGE other) count (omega (arith, length-drop PAGE ram)) (omega (arith, length-drop PAGE other))
    (λ p h. page_behind other p ∙ same (suc p) (omega arith) ∙ sym (page_behind ram p)) in
    sym (take-append-drop PAGE other) ∙ ap (λ l. l ++ drop PAGE other) first ∙ ap (λ l. take PAGE ram ++ l) rest ∙ take-append-drop PAGE ram

-- RAM with as many bytes as its shape has is determined by its pages
pub same_ram : (m other : MachineData) → other.shape ≡ m.shape → length m.ram ≡ ram_bytes_of m.shape → length other.ram ≡ ram_bytes_of other.shape →
    ((p : ℕ) → p < total_pages_of m.shape → page_of other p ≡ page_of m p) → other.ram ≡ m.ram
same_ram m other shape size size_other same =
    same_pages m.ram other.ram (total_pages_of m.shape) (size ∙ mul_comm (total_pages_of m.shape) PAGE)
    (size_other ∙ ap ram_bytes_of shape ∙ mul_comm (total_pages_of m.shape) PAGE) same

-- a machine is determined by its parts
same_parts : (m other : MachineData) → other.shape ≡ m.shape → other.ram ≡ m.ram → other.vcpus ≡ m.vcpus → other.serial ≡ m.serial →
    other.cmp ≡ m.cmp → other.clock ≡ m.clock → other ≡ m
same_parts m other shape ram vcpus serial cmp clock =
    ap (λ x. record { shape = x; ram = other.ram; vcpus = other.vcpus; serial = other.serial; cmp = other.cmp; clock = other.clock }) shape
    ∙ ap (λ x. record { shape = m.shape; ram = x; vcpus = other.vcpus; serial = other.serial; cmp = other.cmp; clock = other.clock }) ram
    ∙ ap (λ x. record { shape = m.shape; ram = m.ram; vcpus = x; serial = other.serial; cmp = other.cmp; clock = other.clock }) vcpus
    ∙ ap (λ x. record { shape = m.shape; ram = m.ram; vcpus = m.vcpus; serial = x; cmp = other.cmp; clock = other.clock }) serial
    ∙ ap (λ x. record { shape = m.shape; ram = m.ram; vcpus = m.vcpus; serial = m.serial; cmp = x; clock = other.clock }) cmp
    ∙ ap (λ (x : ℕ). record { shape = m.shape; ram = m.ram; vcpus = m.vcpus; serial = m.serial; cmp = m.cmp; clock = x }) clock

-- and by its cells
pub same_machine : (m other : MachineData) → HasTheSame m other → other ≡ m
same_machine m other same =
    let ram = same_ram m other same.shape same.ram same.other_ram (λ p h. (let e = same.cells (PageCell p) h in cc)) in
    let serial : other.serial ≡ m.serial = (let e = same.cells SerialCell tt in cc) in
    let cmp : other.cmp ≡ m.cmp = (let e = same.cells TimerCell tt in cc) in
    same_parts m other same.shape ram same.vcpus serial cmp same.clock
