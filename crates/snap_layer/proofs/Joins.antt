-- Base and layer join to the machine that is read, and to no other.
use Rattle.std.proofs.Common.{◌≡◌, ◌≢◌, ◌⊎◌, inl, inr, Bool, true, false, not, ℕ, zero, suc, ◌+◌, ◌*◌, ◌^◌, ◌<◌, ◌≤◌, List, [], ◌∷◌, ◌++◌, IsSome, None, Ok, Err, Result, length, All, refl, sym, ap, ◌∙◌, subst, arith, length-append, mul_comm}
use Rattle.std.specs.List.{filter, flat_map, range_with_len}
use Rattle.std.specs.Str.{bytes_eq}
use Rattle.std.proofs.lemmas.Bool.Decides.{eqb_tells}
use Rattle.std.proofs.lemmas.Slice.Eq.{bytes_eq-Decides}
use Rattle.std.proofs.lemmas.Bool.{cases_Bool, cases_lt, cond-false, cond-true}
use Rattle.std.proofs.lemmas.List.{get_or_past, take_all}
use Rattle.ram_block.specs.Shape.{total_pages_of}
use Rattle.ram_block.specs.declared.page_buf.TheConstants.{PAGE}
use Rattle.mig_stream.specs.Pieces.{Has}
use Rattle.flat_machine.specs.Machine.{IsMachine, MachineData, Rest, page_of}
use Rattle.flat_machine.proofs.Inside.{length-page_of}
use Rattle.device_state.specs.DeviceText.{DevicesData, SerialVersion, Two, device_text, devices_of}
use Rattle.device_state.specs.Reader.{StandsAs}
use Rattle.device_state.proofs.Bodies.{Bytes}
use Rattle.device_state.proofs.Parts.{has_both, has_parts}
use Rattle.snap_layer.specs.Layer.{AreAscending, Joined, changed_pages, differs, front_text, layer_of, layer_text, page_text}
use Rattle.snap_layer.specs.Reading.{front_in, joined_in, last_in, machine_with, ram_in, refusal_in, refusal, IsJoined}
use Rattle.snap_layer.specs.declared.refusal.LayerRefusal.{LayerRefusal}
use Rattle.snap_layer.proofs.Entries.{length-entries, pages_are, pages_of}
use Rattle.snap_layer.proofs.Fronts.{HasFront, front_is, front_of, front_of_text, length-front, text_of_front, total_most}
use Rattle.snap_layer.proofs.Lasts.{devices_limits, last_is, last_is_of, machine_limits}
use Rattle.snap_layer.proofs.Numbers.{both_ok, then_ok}
use Rattle.snap_layer.proofs.Rams.{AreWhole, length-written, page-written, same_ram, written}

-- ascending pages are no more than there are
pub count_most : (least total : ℕ) (pages : List ℕ) → least ≤ total → AreAscending least total pages → least + length pages ≤ total
count_most least total [] le ascending = omega arith
count_most least total (p ∷ pages) le ascending =
    let next : p + 1 ≤ total = omega (arith, ascending.1) in
    omega (arith, ascending.0, count_most (p + 1) total pages next ascending.2)

-- the text of a layer: its front, and the rest behind it
pub length-layer : (version : SerialVersion) (base m : MachineData) (pages : List ℕ) → length (layer_text version base m pages) ≡ 36 + length (flat_map (page_text m) pages ++ device_text version m)
unfolding layer_text
length-layer version base m pages = omega (arith, length-append (front_text base (length pages)) (flat_map (page_text m) pages ++ device_text version m), length-front base (length pages))

pub text_parts : (version : SerialVersion) (base m : MachineData) (pages layer : List ℕ) → Has layer 0 (layer_text version base m pages)
    → HasFront layer base (length pages) × Has layer 36 (flat_map (page_text m) pages ++ device_text version m)
unfolding layer_text
text_parts version base m pages layer has =
    let rest = flat_map (page_text m) pages ++ device_text version m in
    let both = has_parts layer 0 (front_text base (length pages)) rest has in
    (front_of_text base (length pages) layer both.0, subst (λ (n : ℕ). Has layer (0 + n) rest) (length-front base (length pages)) both.1)

text_whole : (version : SerialVersion) (base m : MachineData) (pages layer : List ℕ) → HasFront layer base (length pages) → Has layer 36 (flat_map (page_text m) pages ++ device_text version m)
    → Has layer 0 (layer_text version base m pages)
unfolding layer_text
text_whole version base m pages layer front behind =
    let rest = flat_map (page_text m) pages ++ device_text version m in
    has_both layer 0 (front_text base (length pages)) rest (text_of_front base (length pages) layer front) (subst (λ (n : ℕ). Has layer (0 + n) rest) (sym (length-front base (length pages))) behind)

-- the RAM of a machine
ram_long : (m : MachineData) → IsMachine m → length m.ram ≡ PAGE * total_pages_of m.shape
ram_long m is = is.ram ∙ mul_comm (total_pages_of m.shape) PAGE

-- ---- What joins is read

module _ (base : MachineData) (layer : List ℕ) (m : MachineData) (is : IsMachine base) (joined : Joined base layer m) where
  total : ℕ
  total = total_pages_of base.shape

  whole : AreWhole (page_of m) (total_pages_of base.shape)
  whole = λ p lt. length-page_of m p joined.machine.ram (subst (λ s. p < total_pages_of s) (sym joined.shape) lt)

  long : length base.ram ≡ PAGE * total_pages_of base.shape
  long = ram_long base is

  ram_is : written (page_of m) joined.pages base.ram ≡ m.ram
  ram_is =
      let shape : total_pages_of m.shape ≡ total_pages_of base.shape = ap total_pages_of joined.shape in
      same_ram (total_pages_of base.shape) (written (page_of m) joined.pages base.ram) m.ram
      (length-written (page_of m) (total_pages_of base.shape) 0 joined.pages base.ram whole joined.ascending long)
      (ram_long m joined.machine ∙ ap (λ n. PAGE * n) shape)
      (λ q lt. page-written (page_of m) (total_pages_of base.shape) 0 q joined.pages base.ram whole joined.ascending long (λ none. sym (joined.others q lt none)))

  version : SerialVersion
  version = joined.text.0

  has : Has layer 0 (layer_text joined.text.0 base m joined.pages)
  has =
      let text = layer_text joined.text.0 base m joined.pages in
      subst (λ (l : List ℕ). Has l 0 text) (sym joined.text.2) (take_all (length text) text (omega arith))

  pub read_back : joined_in base layer ≡ Ok m
  unfolding joined_in device_text
  read_back =
      let parts = text_parts joined.text.0 base m joined.pages layer has in
      let most : length joined.pages ≤ total_pages_of base.shape = omega (arith, count_most 0 (total_pages_of base.shape) joined.pages (omega arith) joined.ascending) in
      let small = total_most base.shape is.shape in
      let entries = flat_map (page_text m) joined.pages in
      let text = device_text joined.text.0 m in
      let two = has_parts layer 36 entries text parts.1 in
      let count : length entries ≡ 4100 * length joined.pages = length-entries (page_of m) (total_pages_of base.shape) 0 joined.pages whole joined.ascending in
      let at = 36 + 4100 * length joined.pages in
      let there : Has layer at text = subst (λ (n : ℕ). Has layer (36 + n) text) count two.1 in
      let end = at + length text in
      let stands : StandsAs layer at end joined.text.0 (devices_of m) = record { tells_all = joined.text.1; bytes = there; end = refl } in
      let last : length layer ≤ end =
      omega (arith, ap length joined.text.2, length-layer joined.text.0 base m joined.pages, length-append entries text, count) in
      let vcpus : length m.vcpus ≡ base.shape.vcpus = joined.machine.vcpus ∙ ap (λ s. s.vcpus) joined.shape in
      let front = front_is layer base (length joined.pages) is most parts.0 in
      let ram = pages_are layer (page_of m) (total_pages_of base.shape) 0 36 joined.pages base.ram small whole joined.ascending two.0 in
      let devices = last_is layer at end base.shape.vcpus joined.text.0 (devices_of m) (devices_limits m joined.machine joined.rest) vcpus stands last in
      let same : machine_with base.shape (written (page_of m) joined.pages base.ram) (devices_of m) ≡ m =
      ap (λ s. machine_with s (written (page_of m) joined.pages base.ram) (devices_of m)) (sym joined.shape) ∙ ap (λ (r : List ℕ). machine_with m.shape r (devices_of m)) ram_is in
      then_ok (front_in base layer) _ (length joined.pages) m front
      (then_ok (ram_in layer (total_pages_of base.shape) (length joined.pages) 0 36 base.ram) _ (written (page_of m) joined.pages base.ram) m ram
      (then_ok (last_in base.shape.vcpus layer at) _ (devices_of m) m devices (ap (λ (x : MachineData). Ok x) same)))

-- ---- What is read joins

pub joins : (base : MachineData) (layer : List ℕ) (m : MachineData) → IsMachine base → Bytes layer → joined_in base layer ≡ Ok m → Joined base layer m
unfolding joined_in device_text
joins base layer m is each found =
    let total = total_pages_of base.shape in
    let one = both_ok (front_in base layer) _ m found in
    let count : ℕ = one.0 in
    let two = both_ok (ram_in layer total count 0 36 base.ram) _ m one.2 in
    let ram : List ℕ = two.0 in
    let three = both_ok (last_in base.shape.vcpus layer (36 + 4100 * count)) _ m two.2 in
    let d : DevicesData = three.0 in
    let made : machine_with base.shape ram d ≡ m = cc in
    let front = front_of layer base count each one.1 in
    let pages = pages_of layer total count 0 36 base.ram ram each (ram_long base is) two.1 in
    let last = last_is_of layer (36 + 4100 * count) base.shape.vcpus d each three.1 in
    let x = machine_with base.shape ram d in
    let same_long : length ram ≡ length base.ram = pages.long ∙ sym (ram_long base is) in
    let limits = machine_limits base ram d is same_long last.limits last.count in
    let whole : AreWhole (page_of x) total = λ p lt. length-page_of x p limits.0.ram lt in
    let entries = flat_map (page_text x) pages.pages in
    let text = device_text last.version x in
    let long : length entries ≡ 4100 * length pages.pages = length-entries (page_of x) total 0 pages.pages whole pages.ascending in
    let place : 36 + 4100 * count ≡ 36 + length entries = omega (arith, long, pages.count) in
    let there : Has layer (36 + length entries) text = subst (λ (k : ℕ). Has layer k text) place last.stands.bytes in
    let rest : Has layer 36 (entries ++ text) = has_both layer 36 entries text pages.stands there in
    let asked = subst (λ (n : ℕ). HasFront layer base n) (sym pages.count) front.0 in
    let all : Has layer 0 (layer_text last.version base x pages.pages) = text_whole last.version base x pages.pages layer asked rest in
    let none_behind : length layer ≤ length (layer_text last.version base x pages.pages) =
    omega (arith, last.last, last.stands.end, place, length-layer last.version base x pages.pages, length-append entries text) in
    let is_text : layer ≡ layer_text last.version base x pages.pages = sym (take_all (length (layer_text last.version base x pages.pages)) layer none_behind) ∙ all in
    subst (Joined base layer) made (record {
      machine = limits.0;
      rest = limits.1;
      shape = refl;
      pages = pages.pages;
      ascending = pages.ascending;
      others = λ p lt none. pages.others p none;
      text = (last.version, last.stands.tells_all, is_text);
    })

-- ---- One of the two

-- numbers below 256 are bytes
pub are_bytes : (layer : List ℕ) → All (λ b. b < 2 ^ 8) layer → Bytes layer
are_bytes layer all i = elim (cases_lt i (length layer)) [
  | inl within ↦ all i 0 within
  | inr past ↦ subst (λ (b : ℕ). b < 256) (sym (get_or_past layer i 0 past)) (omega arith)
]

-- one of the two
either_of : (base : MachineData) (layer : List ℕ) → IsMachine base → Bytes layer → (found : Result MachineData LayerRefusal) → joined_in base layer ≡ found → IsJoined base layer ⊎ IsSome (refusal_in found)
either_of base layer is each (Ok m) found = inl (record { machine = m; joined = joins base layer m is each found; reads = found })
either_of base layer is each (Err refused) found = inr refl

pub either : (base : MachineData) (layer : List ℕ) → IsMachine base → All (λ b. b < 2 ^ 8) layer → IsJoined base layer ⊎ IsSome (refusal base layer)
either base layer is all = either_of base layer is (are_bytes layer all) (joined_in base layer) refl

-- and never both
pub never_both : (base m : MachineData) (layer : List ℕ) → IsMachine base → Joined base layer m → refusal base layer ≡ None
never_both base m layer is joined = ap refusal_in (read_back base layer m is joined)

-- ---- What is written joins

-- from a lower number on
lower : (least above total : ℕ) (pages : List ℕ) → least ≤ above → AreAscending above total pages → AreAscending least total pages
lower least above total [] le ascending = tt
lower least above total (p ∷ pages) le ascending = (omega (arith, le, ascending.0), ascending.1, ascending.2)

-- the pages of a range that pass a test ascend
pub filtered : (test : ℕ → Bool) (from n total : ℕ) → from + n ≤ total → AreAscending from total (filter test (range_with_len from n))
filtered test from zero total le = tt
filtered test from (suc n) total le = elim (cases_Bool (test from)) as (λ _. AreAscending from total (filter test (from ∷ range_with_len (from + 1) n))) [
  | inl passes ↦ subst (AreAscending from total) (sym (cond-true (test from) _ _ passes)) (omega arith, omega (arith, le), filtered test (from + 1) n total (omega (arith, le)))
  | inr fails ↦ subst (AreAscending from total) (sym (cond-false (test from) _ _ fails)) (lower from (from + 1) total _ (omega arith) (filtered test (from + 1) n total (omega (arith, le))))
]

-- a page of the range that isn't among them fails the test
left_out : (test : ℕ → Bool) (from n p : ℕ) → from ≤ p → p < from + n → All (λ q. q ≢ p) (filter test (range_with_len from n)) → test p ≡ false
left_out test from zero p le lt none = absurd (omega arith)
left_out test from (suc n) p le lt none = elim (eqb_tells from p) [
  | inl here ↦ elim (cases_Bool (test from)) [
    | inl passes ↦
        let first = subst (All (λ q. q ≢ p)) (cond-true (test from) _ _ passes) none in
        absurd (first 0 0 (omega arith) here.1)
    | inr fails ↦ ap test (sym here.1) ∙ fails
  ]
  | inr other ↦ elim (cases_Bool (test from)) [
    | inl passes ↦
        let first = subst (All (λ q. q ≢ p)) (cond-true (test from) _ _ passes) none in
        left_out test (from + 1) n p (omega (arith, le, other.1)) (omega (arith, lt)) (λ k d h. first (suc k) d (omega arith))
    | inr fails ↦
        let rest = subst (All (λ q. q ≢ p)) (cond-false (test from) _ _ fails) none in
        left_out test (from + 1) n p (omega (arith, le, other.1)) (omega (arith, lt)) rest
  ]
]

not_false : (b : Bool) → not b ≡ false → b ≡ true
not_false true is = refl
not_false false is = absurd (cc)

-- pages that don't differ are equal
same_page : (base m : MachineData) (p : ℕ) → differs base m p ≡ false → page_of m p ≡ page_of base p
same_page base m p same =
    let equal : bytes_eq (page_of base p) (page_of m p) ≡ true = not_false (bytes_eq (page_of base p) (page_of m p)) same in
    sym ((bytes_eq-Decides (page_of base p) (page_of m p)).0 equal)

pub layer_joins : (base m : MachineData) → IsMachine m → Rest m → m.shape ≡ base.shape → Joined base (layer_of base m) m
layer_joins base m is rest shape =
    let total : total_pages_of m.shape ≡ total_pages_of base.shape = ap total_pages_of shape in
    record {
      machine = is;
      rest = rest;
      shape = shape;
      pages = changed_pages base m;
      ascending = filtered (differs base m) 0 (total_pages_of m.shape) (total_pages_of base.shape) (omega (arith, total));
      others = λ p lt none. same_page base m p (left_out (differs base m) 0 (total_pages_of m.shape) p (omega arith) (omega (arith, lt, total)) none);
      text = (Two, tt, refl);
    }

pub joined_back : (base m : MachineData) → IsMachine base → IsMachine m → Rest m → m.shape ≡ base.shape → joined_in base (layer_of base m) ≡ Ok m
joined_back base m one two rest shape = read_back base (layer_of base m) m one (layer_joins base m two rest shape)
