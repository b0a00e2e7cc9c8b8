-- A file is a layout of one machine at most: its front and its first record tell the shape, its tail the devices, and
-- its bitmaps and pages the RAM.
use Rattle.std.proofs.Common.{◌≡◌, inl, inr, true, false, ℕ, ◌+◌, ◌*◌, ◌/◌, ◌%◌, ◌^◌, ◌<◌, List, length, get_or, take, drop, refl, sym, ap, ◌∙◌, subst, arith}
use Rattle.std.proofs.lemmas.Bool.{cases_Bool}
use Rattle.std.proofs.lemmas.List.{append_cancel_left, ext_get_or, get_or-take, get_or-drop}
use Rattle.std.proofs.Math.Nat.{div-lt_iff_lt-mul, mul-div_cancel}
use Rattle.std.proofs.lemmas.Nat.{mul-le}
use Rattle.ram_block.specs.Page.{zero_page}
use Rattle.ram_block.specs.Shape.{ShapeData, IsShape, ram_bytes_of}
use Rattle.mig_stream.specs.Text.{be64}
use Rattle.device_state.specs.DeviceText.{SameDevices, device_text}
use Rattle.device_state.proofs.Split.{be64-same}
use Rattle.device_state.proofs.Texts.{same_devices}
use Rattle.flat_machine.specs.Machine.{MachineData, page_of}
use Rattle.flat_machine.specs.Page.{page_at}
use Rattle.flat_machine.proofs.Inside.{length-page_of}
use Rattle.file_plan.specs.Plan.{record_place, block_places, tail_place}
use Rattle.file_plan.specs.Layout.{StandsAt, Lay, front_text, record_text, tail_text, page_bit}

-- two texts of one length that stand at one place are equal
same_text : (file one two : List ℕ) (at : ℕ) → length one ≡ length two → StandsAt file at one → StandsAt file at two → one ≡ two
same_text file one two at len first second = sym first ∙ ap (λ (n : ℕ). take n (drop at file)) len ∙ second

-- the total in the front
front_total : (s t : ShapeData) → front_text s ≡ front_text t → be64 (ram_bytes_of s + 4) ≡ be64 (ram_bytes_of t + 4)
unfolding front_text
front_total s t same = ap (drop 39) same

-- the used length in the first record
record_length : (s t : ShapeData) → record_text s 0 ≡ record_text t 0 → be64 (4096 * s.pages) ≡ be64 (4096 * t.pages)
unfolding record_text
record_length s t same = ap (λ (l : List ℕ). take 8 (drop 5 l)) same

length-front : (s t : ShapeData) → length (front_text s) ≡ length (front_text t)
unfolding front_text
length-front s t = refl

length-record : (s t : ShapeData) → length (record_text s 0) ≡ length (record_text t 0)
unfolding record_text
length-record s t = refl

-- the shape of RAM is told by the two
module _ (s t : ShapeData) (is : IsShape s) (other : IsShape t) (total : be64 (ram_bytes_of s + 4) ≡ be64 (ram_bytes_of t + 4)) (used : be64 (4096 * s.pages) ≡ be64 (4096 * t.pages)) where
  same_pages : s.pages ≡ t.pages
  same_pages = let used_is = be64-same (4096 * s.pages) (4096 * t.pages) (omega (arith, is.pages)) (omega (arith, other.pages)) used in omega (arith, used_is)

  fits : (u : ShapeData) → IsShape u → ram_bytes_of u + 4 < 2 ^ 64
  fits u within = omega (arith, mul-le u.blocks u.pages 8 2048 within.blocks.1 within.pages.1)

  same_total : s.blocks * s.pages ≡ t.blocks * t.pages
  same_total = let total_is = be64-same (ram_bytes_of s + 4) (ram_bytes_of t + 4) (fits s is) (fits t other) total in omega (arith, total_is)

  same_blocks : s.blocks ≡ t.blocks
  same_blocks =
      let quotient : s.blocks * s.pages / s.pages ≡ t.blocks * t.pages / t.pages = λ i. same_total i / same_pages i in
      sym (mul-div_cancel s.blocks (omega (arith, is.pages))) ∙ quotient ∙ mul-div_cancel t.blocks (omega (arith, other.pages))

-- a page by its bit: it stands at its place, or is all zeros
abbrev IsPageOf : List ℕ → ℕ → ℕ → ℕ → List ℕ → Type 0
IsPageOf file pages block p page =
    (page_bit file (block_places pages block).bitmap p ≡ true → StandsAt file ((block_places pages block).pages + 4096 * p) page)
    × (page_bit file (block_places pages block).bitmap p ≡ false → page ≡ zero_page)

same_page : (file : List ℕ) (pages block p : ℕ) (one two : List ℕ) → length one ≡ length two → IsPageOf file pages block p one → IsPageOf file pages block p two → one ≡ two
same_page file pages block p one two len first second = elim (cases_Bool (page_bit file (block_places pages block).bitmap p)) [
  | inl set ↦ same_text file one two ((block_places pages block).pages + 4096 * p) len (first.0 set) (second.0 set)
  | inr clear ↦ first.1 clear ∙ sym (second.1 clear)
]

page_byte : (ram : List ℕ) (p i : ℕ) → i < 4096 → get_or (page_at ram p) i 0 ≡ get_or ram (4096 * p + i) 0
unfolding page_at
page_byte ram p i lt = get_or-take 4096 (drop (4096 * p) ram) i 0 lt ∙ get_or-drop (4096 * p) ram i 0

module _ (file : List ℕ) (m n : MachineData) (first : Lay file m) (second : Lay file n) where
  total : be64 (ram_bytes_of m.shape + 4) ≡ be64 (ram_bytes_of n.shape + 4)
  total = front_total m.shape n.shape (same_text file (front_text m.shape) (front_text n.shape) 0 (length-front m.shape n.shape) first.shape.front second.shape.front)

  used : be64 (4096 * m.shape.pages) ≡ be64 (4096 * n.shape.pages)
  unfolding record_place
  used =
      record_length m.shape n.shape
      (same_text file (record_text m.shape 0) (record_text n.shape 0) 47 (length-record m.shape n.shape) (first.shape.records 0 (omega (arith, first.machine.shape.blocks)))
      (second.shape.records 0 (omega (arith, second.machine.shape.blocks))))

  pages_are : m.shape.pages ≡ n.shape.pages
  pages_are = same_pages m.shape n.shape first.machine.shape second.machine.shape total used

  blocks_are : m.shape.blocks ≡ n.shape.blocks
  blocks_are = same_blocks m.shape n.shape first.machine.shape second.machine.shape total used

  -- the tail stands at one place, and tells one device text
  devices : SameDevices m n
  devices =
      let place : tail_place m.shape ≡ tail_place n.shape = λ i. record_place (pages_are i) (blocks_are i) in
      let texts = append_cancel_left tail_text (device_text first.tail.0 m) (device_text second.tail.0 n) (sym first.tail.2 ∙ ap (λ (k : ℕ). drop k file) place ∙ second.tail.2) in
      same_devices first.tail.0 second.tail.0 m n first.machine first.rest first.tail.1 second.machine second.rest second.tail.1 texts

  shape_is : m.shape ≡ n.shape
  shape_is =
      let vcpus : m.shape.vcpus ≡ n.shape.vcpus = sym first.machine.vcpus ∙ ap length devices.vcpus ∙ second.machine.vcpus in
      λ i. record { vcpus = vcpus i; blocks = blocks_are i; pages = pages_are i }

  -- each page of RAM is told by its bit
  page_is : (q : ℕ) → q < m.shape.blocks * m.shape.pages → page_of m q ≡ page_of n q
  page_is q lt =
      let pages = m.shape.pages in
      let some : 0 < pages = omega (arith, first.machine.shape.pages) in
      let block = q / pages in
      let p = q % pages in
      let back : block * pages + p ≡ q = omega arith in
      let in_block : p < pages = omega arith in
      let in_ram : block < m.shape.blocks = (div-lt_iff_lt-mul {k = pages} {x = q} {y = m.shape.blocks} some).1 lt in
      let mine = first.pages block p in_ram in_block in
      let its = second.pages block p (omega (arith, in_ram, blocks_are)) (omega (arith, in_block, pages_are)) in
      let there : IsPageOf file pages block p (page_of n (block * pages + p)) =
      subst (λ (k : ℕ). IsPageOf file k block p (page_of n (block * k + p))) (sym pages_are) (its.stands, its.zeros) in
      let total_is : m.shape.blocks * m.shape.pages ≡ n.shape.blocks * n.shape.pages = λ i. blocks_are i * pages_are i in
      let long : length (page_of m (block * pages + p)) ≡ 4096 = length-page_of m (block * pages + p) first.machine.ram (omega (arith, lt, back)) in
      let wide : length (page_of n (block * pages + p)) ≡ 4096 = length-page_of n (block * pages + p) second.machine.ram (omega (arith, lt, back, total_is)) in
      ap (page_of m) (sym back) ∙ same_page file pages block p (page_of m (block * pages + p)) (page_of n (block * pages + p)) (long ∙ sym wide) (mine.stands, mine.zeros) there ∙ ap (page_of n) back

  -- so each byte is
  ram_is : m.ram ≡ n.ram
  ram_is =
      let size : length m.ram ≡ length n.ram = first.machine.ram ∙ ap ram_bytes_of shape_is ∙ sym second.machine.ram in
      ext_get_or 0 m.ram n.ram size (λ i lt.
      let q = i / 4096 in
      let off = i % 4096 in
      let back : 4096 * q + off ≡ i = omega arith in
      let small : off < 4096 = omega arith in
      let inside : q < m.shape.blocks * m.shape.pages = omega (arith, lt, first.machine.ram) in
      ap (λ (k : ℕ). get_or m.ram k 0) (sym back) ∙ sym (page_byte m.ram q off small) ∙ ap (λ (l : List ℕ). get_or l off 0) (page_is q inside)
      ∙ page_byte n.ram q off small ∙ ap (λ (k : ℕ). get_or n.ram k 0) back)

  pub one_machine : m ≡ n
  one_machine = λ i. record { shape = shape_is i; ram = ram_is i; vcpus = devices.vcpus i; serial = devices.serial i; cmp = devices.cmp i; clock = devices.clock i }
