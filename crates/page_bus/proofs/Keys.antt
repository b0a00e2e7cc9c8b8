-- The passes of a bus, by what no call but a close changes of them.
use Rattle.std.proofs.Common.{◌≡◌, ⊎_elim, ℕ, zero, suc, ◌<◌, Bool, List, [], ◌∷◌, get_or, length, set, Some, refl, sym, ◌∙◌, ap, arith}
use Rattle.std.specs.List.{slice_get}
use Rattle.std.proofs.lemmas.Bool.{cases_eq}
use Rattle.std.proofs.lemmas.List.{get_or-set_other, get_or-set_same, length-set}
use Rattle.std.proofs.lemmas.Option.{get_or_from_slice_get, slice_get-get_or, slice_get_within}
use Rattle.flat_machine.specs.Machine.{MachineData}
use Rattle.page_bus.specs.Closing.{AreAllOf}
use Rattle.page_bus.specs.Opening.{IsOpened}
use Rattle.page_bus.specs.Passes.{BusData, SaverKey, SaverPassData, VcpuKey, VcpuPassData, book_of, saver_key, task_of, vcpu_key}

-- a start gives all of them
pub opened_all : (i : MachineData) (run : ℕ) (protect : Bool) (bus : BusData) (passes : List VcpuPassData) (saver : SaverPassData) → IsOpened i run protect bus passes saver →
    AreAllOf bus passes saver
opened_all i run protect bus passes saver opened =
    let started : bus.instant ≡ i = ap (λ (b : BusData). b.instant) opened.bus_from in
    let count : length bus.instant.vcpus ≡ length i.vcpus = ap (λ (m : MachineData). length m.vcpus) started in
    record {
      tables = λ k d below.
          (let there = slice_get-get_or passes k d below in
          let from = opened.passes_from.each k (get_or passes k d) there in
          ap (λ (p : VcpuPassData). p.table) from.2);
      saver_table = ap (λ (s : SaverPassData). s.table) opened.saver_from;
      instant = ap (λ (s : SaverPassData). (book_of s.view).instant) opened.saver_from ∙ sym started;
      count = opened.passes_from.counted ∙ sym count;
      each = λ k below.
          (let within : k < length passes = (let c = opened.passes_from.counted in omega (arith, below, count, c)) in
          let first = one_of passes k within in
          let from = opened.passes_from.each k first.0 first.1 in
          (k, first.0, first.1, ap (λ (p : VcpuPassData). (task_of p.view).who) from.2));
    }
  where
    one_of : {A : Type 0} (xs : List A) (k : ℕ) → k < length xs → (x : A) × (slice_get xs k ≡ Some x)
    one_of [] k below = absurd (omega (arith, below))
    one_of (x ∷ xs) zero below = (x, refl)
    one_of (x ∷ xs) (suc k) below = one_of xs k (omega (arith, below))

-- a turn of one leaves them all
pub all_stepped : (bus : BusData) (passes : List VcpuPassData) (saver : SaverPassData) (k : ℕ) (p q : VcpuPassData) → AreAllOf bus passes saver → slice_get passes k ≡ Some p →
    vcpu_key q ≡ vcpu_key p → AreAllOf bus (set passes k q) saver
all_stepped bus passes saver k p q all there same =
    let within = slice_get_within passes k p there in
    let its : p.table ≡ bus.table = ap (λ (r : VcpuPassData). r.table) (sym (get_or_from_slice_get passes k p p there)) ∙ all.tables k p within in
    record {
      tables = λ j d below.
          ⊎_elim
          (λ here.
          (ap (λ n. (get_or (set passes k q) n d).table) here ∙ ap (λ (r : VcpuPassData). r.table) (get_or-set_same passes k q d within)
          ∙ ap (λ (y : VcpuKey). y.table) same ∙ its))
          (λ other.
          (ap (λ (r : VcpuPassData). r.table) (get_or-set_other passes k j q d other)
          ∙ all.tables j d (let e = length-set passes k q in omega (arith, below, e))))
          (cases_eq j k);
      saver_table = all.saver_table;
      instant = all.instant;
      count = length-set passes k q ∙ all.count;
      each = λ n below.
          (let a = all.each n below in
          ⊎_elim
          (λ here.
          (let there_too : p ≡ a.1 = sym (get_or_from_slice_get passes k p p there) ∙ ap (λ m. get_or passes m p) (sym here) ∙ get_or_from_slice_get passes a.0 a.1 p a.2 in (
            k,
            q,
            slice_get-get_or (set passes k q) k q (let e = length-set passes k q in omega (arith, within, e)) ∙ ap Some (get_or-set_same passes k q q within),
            ap (λ (y : VcpuKey). y.who) same ∙ ap (λ (r : VcpuPassData). (task_of r.view).who) there_too ∙ a.3,
          )))
          (λ other.
          (let inside = slice_get_within passes a.0 a.1 a.2 in (
            a.0,
            a.1,
            slice_get-get_or (set passes k q) a.0 q (let e = length-set passes k q in omega (arith, inside, e)) ∙ ap Some (get_or-set_other passes k a.0 q q other ∙ get_or_from_slice_get passes a.0 a.1 q a.2),
            a.3,
          )))
          (cases_eq a.0 k));
    }

-- and so does a call of the saver's
pub all_saved : (bus : BusData) (passes : List VcpuPassData) (saver other : SaverPassData) → AreAllOf bus passes saver → saver_key other ≡ saver_key saver → AreAllOf bus passes other
all_saved bus passes saver other all same = record {
  tables = all.tables;
  saver_table = ap (λ (y : SaverKey). y.table) same ∙ all.saver_table;
  instant = ap (λ (y : SaverKey). y.instant) same ∙ all.instant;
  count = all.count;
  each = all.each;
}

pub all_stepped_at : (bus : BusData) (passes : List VcpuPassData) (saver : SaverPassData) (k : ℕ) (p q : VcpuPassData) → AreAllOf bus passes saver → k < length passes → p ≡ get_or passes k p →
    vcpu_key q ≡ vcpu_key p → AreAllOf bus (set passes k q) saver
all_stepped_at bus passes saver k p q all below is same = all_stepped bus passes saver k p q all (slice_get-get_or passes k p below ∙ ap Some (sym is)) same
