-- The front of a layer, both ways.
use Rattle.std.proofs.Common.{◌≡◌, ℕ, ◌^◌, ◌<◌, ◌≤◌, List, Ok, length, refl, ◌∙◌, ap, arith}
use Rattle.std.specs.Prelude.{◌==◌, nat_le}
use Rattle.std.proofs.lemmas.Bool.{eq-eqb, le-leb, leb-true}
use Rattle.std.proofs.lemmas.Nat.{mul-le}
use Rattle.ram_block.specs.Shape.{IsShape, ShapeData, total_pages_of}
use Rattle.mig_stream.specs.Pieces.{Has}
use Rattle.mig_stream.specs.Text.{be32, be64}
use Rattle.flat_machine.specs.Machine.{IsMachine, MachineData}
use Rattle.device_state.proofs.Bodies.{Bytes}
use Rattle.device_state.proofs.Parts.{has_both, has_parts}
use Rattle.mig_stream.specs.Checks.{check, number32_in, number64_in}
use Rattle.snap_layer.specs.Layer.{base_text, front_text}
use Rattle.snap_layer.specs.Reading.{base_in, count_in, format_in, front_in, shape_in}
use Rattle.flat_machine.specs.Sum.{ram_sum}
use Rattle.snap_layer.specs.declared.format.TheConstants.{MAGIC, VERSION}
use Rattle.snap_layer.specs.declared.refusal.LayerRefusal.TheVariants.{Base, Count, Magic, Shape, Truncated, Version}
use Rattle.snap_layer.proofs.Numbers.{both_ok, check_ok, known32, known64, number32_is, number32_of, number64_is, passed, passes, then_ok}

-- the numbers that stand before the pages
pub record HasFront (layer : List ℕ) (base : MachineData) (n : ℕ) : Type 0 where
  pub magic : Has layer 0 (be32 MAGIC)
  pub version : Has layer 4 (be32 VERSION)
  pub blocks : Has layer 8 (be32 base.shape.blocks)
  pub pages : Has layer 12 (be32 base.shape.pages)
  pub clock : Has layer 16 (be64 base.clock)
  pub sum : Has layer 24 (be64 (ram_sum base))
  pub count : Has layer 32 (be32 n)

-- the total of pages is small
pub total_most : (s : ShapeData) → IsShape s → total_pages_of s ≤ 16384
total_most s is = omega (arith, mul-le s.blocks s.pages 8 2048 is.blocks.1 is.pages.1)

-- a text has its front
pub front_of_text : (base : MachineData) (count : ℕ) (layer : List ℕ) → Has layer 0 (front_text base count) → HasFront layer base count
unfolding front_text base_text
front_of_text base count layer has =
    let magic = has_parts layer 0 (be32 MAGIC) _ has in
    let number = has_parts layer 4 (be32 VERSION) _ magic.1 in
    let asked = has_parts layer 8 (base_text base) (be32 count) number.1 in
    let blocks = has_parts layer 8 (be32 base.shape.blocks) _ asked.0 in
    let each = has_parts layer 12 (be32 base.shape.pages) _ blocks.1 in
    let clock = has_parts layer 16 (be64 base.clock) (be64 (ram_sum base)) each.1 in
    record { magic = magic.0; version = number.0; blocks = blocks.0; pages = each.0; clock = clock.0; sum = clock.1; count = asked.1 }

-- and where its numbers stand, the text does
pub text_of_front : (base : MachineData) (count : ℕ) (layer : List ℕ) → HasFront layer base count → Has layer 0 (front_text base count)
unfolding front_text base_text
text_of_front base count layer front =
    let sum = has_both layer 16 (be64 base.clock) (be64 (ram_sum base)) front.clock front.sum in
    let each = has_both layer 12 (be32 base.shape.pages) _ front.pages sum in
    let asked : Has layer 8 (base_text base) = has_both layer 8 (be32 base.shape.blocks) _ front.blocks each in
    let base_on = has_both layer 8 (base_text base) (be32 count) asked front.count in
    has_both layer 0 (be32 MAGIC) _ front.magic (has_both layer 4 (be32 VERSION) _ front.version base_on)

pub length-front : (base : MachineData) (count : ℕ) → length (front_text base count) ≡ 36
unfolding front_text base_text
length-front base count = refl

-- ---- Forward

format_is : (layer : List ℕ) → Has layer 0 (be32 MAGIC) → Has layer 4 (be32 VERSION) → format_in layer ≡ Ok tt
unfolding format_in
format_is layer magic version =
    then_ok (number32_in Truncated layer 0) _ MAGIC tt (number32_is layer 0 MAGIC (omega arith) magic)
    (then_ok (number32_in Truncated layer 4) _ VERSION tt (number32_is layer 4 VERSION (omega arith) version) refl)

shape_is : (layer : List ℕ) (s : ShapeData) → IsShape s → Has layer 8 (be32 s.blocks) → Has layer 12 (be32 s.pages) → shape_in s layer ≡ Ok tt
unfolding shape_in
shape_is layer s is blocks pages =
    then_ok (number32_in Truncated layer 8) _ s.blocks tt (number32_is layer 8 s.blocks (omega (arith, is.blocks)) blocks)
    (check_ok (s.blocks == s.blocks) (Shape 8 s.blocks) _ tt (eq-eqb _ _ refl)
    (then_ok (number32_in Truncated layer 12) _ s.pages tt (number32_is layer 12 s.pages (omega (arith, is.pages)) pages)
    (ap (λ r. check r (Shape 12 s.pages)) (eq-eqb s.pages s.pages refl))))

base_is : (layer : List ℕ) (base : MachineData) → IsMachine base → Has layer 16 (be64 base.clock) → Has layer 24 (be64 (ram_sum base)) → base_in base layer ≡ Ok tt
unfolding base_in
base_is layer base is clock sum =
    let early = is.clock in
    let small : ram_sum base < 2 ^ 64 = omega arith in
    then_ok (number64_in Truncated layer 16) _ base.clock tt (number64_is layer 16 base.clock (omega (arith, early)) clock)
    (check_ok (base.clock == base.clock) (Base 16 base.clock) _ tt (eq-eqb _ _ refl)
    (then_ok (number64_in Truncated layer 24) _ (ram_sum base) tt (number64_is layer 24 (ram_sum base) small sum)
    (ap (λ r. check r (Base 24 (ram_sum base))) (eq-eqb (ram_sum base) (ram_sum base) refl))))

count_is : (layer : List ℕ) (total count : ℕ) → total ≤ 16384 → count ≤ total → Has layer 32 (be32 count) → count_in total layer ≡ Ok count
unfolding count_in
count_is layer total count small most stands =
    then_ok (number32_in Truncated layer 32) _ count count (number32_is layer 32 count (omega (arith, small, most)) stands)
    (check_ok (nat_le count total) (Count count) _ count (le-leb _ _ most) refl)

pub front_is : (layer : List ℕ) (base : MachineData) (count : ℕ) → IsMachine base → count ≤ total_pages_of base.shape → HasFront layer base count → front_in base layer ≡ Ok count
unfolding front_in
front_is layer base count is most has =
    then_ok (format_in layer) _ tt count (format_is layer has.magic has.version)
    (then_ok (shape_in base.shape layer) _ tt count (shape_is layer base.shape is.shape has.blocks has.pages)
    (then_ok (base_in base layer) _ tt count (base_is layer base is has.clock has.sum)
    (count_is layer (total_pages_of base.shape) count (total_most base.shape is.shape) most has.count)))

-- ---- Backward

format_of : (layer : List ℕ) → Bytes layer → format_in layer ≡ Ok tt → Has layer 0 (be32 MAGIC) × Has layer 4 (be32 VERSION)
unfolding format_in
format_of layer each is =
    let one = both_ok (number32_in Truncated layer 0) _ tt is in
    let magic = passes (one.0 == MAGIC) (Magic one.0) _ tt one.2 in
    let two = both_ok (number32_in Truncated layer 4) _ tt magic.1 in
    (known32 layer 0 one.0 MAGIC each one.1 magic.0, known32 layer 4 two.0 VERSION each two.1 (passed (two.0 == VERSION) (Version two.0) two.2))

shape_of : (layer : List ℕ) (s : ShapeData) → Bytes layer → shape_in s layer ≡ Ok tt → Has layer 8 (be32 s.blocks) × Has layer 12 (be32 s.pages)
unfolding shape_in
shape_of layer s each is =
    let one = both_ok (number32_in Truncated layer 8) _ tt is in
    let blocks = passes (one.0 == s.blocks) (Shape 8 one.0) _ tt one.2 in
    let two = both_ok (number32_in Truncated layer 12) _ tt blocks.1 in
    (known32 layer 8 one.0 s.blocks each one.1 blocks.0, known32 layer 12 two.0 s.pages each two.1 (passed (two.0 == s.pages) (Shape 12 two.0) two.2))

base_of : (layer : List ℕ) (base : MachineData) → Bytes layer → base_in base layer ≡ Ok tt → Has layer 16 (be64 base.clock) × Has layer 24 (be64 (ram_sum base))
unfolding base_in
base_of layer base each is =
    let one = both_ok (number64_in Truncated layer 16) _ tt is in
    let clock = passes (one.0 == base.clock) (Base 16 one.0) _ tt one.2 in
    let two = both_ok (number64_in Truncated layer 24) _ tt clock.1 in
    (known64 layer 16 one.0 base.clock each one.1 clock.0, known64 layer 24 two.0 (ram_sum base) each two.1 (passed (two.0 == ram_sum base) (Base 24 two.0) two.2))

count_of : (layer : List ℕ) (total count : ℕ) → Bytes layer → count_in total layer ≡ Ok count → Has layer 32 (be32 count) × (count ≤ total)
unfolding count_in
count_of layer total count each is =
    let one = both_ok (number32_in Truncated layer 32) _ count is in
    let most = passes (nat_le one.0 total) (Count one.0) _ count one.2 in
    let same : one.0 ≡ count = cc in
    let below = leb-true one.0 total most.0 in
    (number32_of layer 32 count each (one.1 ∙ ap (λ (n : ℕ). Ok n) same), omega (arith, below, same))

pub front_of : (layer : List ℕ) (base : MachineData) (count : ℕ) → Bytes layer → front_in base layer ≡ Ok count → HasFront layer base count × (count ≤ total_pages_of base.shape)
unfolding front_in
front_of layer base count each is =
    let one = both_ok (format_in layer) _ count is in
    let two = both_ok (shape_in base.shape layer) _ count one.2 in
    let three = both_ok (base_in base layer) _ count two.2 in
    let format = format_of layer each one.1 in
    let shape = shape_of layer base.shape each two.1 in
    let asked = base_of layer base each three.1 in
    let last = count_of layer (total_pages_of base.shape) count each three.2 in
    (record { magic = format.0; version = format.1; blocks = shape.0; pages = shape.1; clock = asked.0; sum = asked.1; count = last.0 }, last.1)
