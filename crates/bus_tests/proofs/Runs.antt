-- Passes that were lent to threads are those of their bus still.
use Rattle.std.proofs.Common.{◌≡◌, ⊎_elim, ℕ, ◌<◌, List, length, get_or, set, sym, ◌∙◌, ap, arith}
use Rattle.std.specs.List.{slice_get}
use Rattle.std.proofs.lemmas.Bool.{cases_eq}
use Rattle.std.proofs.lemmas.List.{get_or-set_other, get_or-set_same, length-set}
use Rattle.std.proofs.lemmas.Option.{get_or_from_slice_get, slice_get-get_or, slice_get_within}
use Rattle.page_bus.specs.Closing.{AreAllOf}
use Rattle.page_bus.specs.Passes.{BusData, SaverKey, SaverPassData, VcpuKey, VcpuPassData, saver_key, task_of, vcpu_key}
use Rattle.bus_tests.specs.Keys.{KeepsKeys}

pub all_run : (bus : BusData) (passes others : List VcpuPassData) (saver other : SaverPassData) → AreAllOf bus passes saver → KeepsKeys passes others → saver_key other ≡ saver_key saver
    → AreAllOf bus others other
all_run bus passes others saver other all keeps same =
    let count = keeps.count in
    record {
      tables = λ k d below.
          (let within : k < length passes = omega (arith, below, count) in
          ap (λ (y : VcpuKey). y.table) (keeps.each k d within) ∙ all.tables k d within);
      saver_table = ap (λ (y : SaverKey). y.table) same ∙ all.saver_table;
      instant = ap (λ (y : SaverKey). y.instant) same ∙ all.instant;
      count = keeps.count ∙ all.count;
      each = λ n below.
          (let a = all.each n below in
          let within = slice_get_within passes a.0 a.1 a.2 in (
            a.0,
            get_or others a.0 a.1,
            slice_get-get_or others a.0 a.1 (omega (arith, within, count)),
            ap (λ (y : VcpuKey). y.who) (keeps.each a.0 a.1 within) ∙ ap (λ (p : VcpuPassData). (task_of p.view).who) (get_or_from_slice_get passes a.0 a.1 a.1 a.2) ∙ a.3,
          ));
    }

-- a turn of one of them
pub keeps_at : (passes : List VcpuPassData) (k : ℕ) (p q : VcpuPassData) → k < length passes → p ≡ get_or passes k p → vcpu_key q ≡ vcpu_key p → KeepsKeys passes (set passes k q)
keeps_at passes k p q below is same = record {
  count = length-set passes k q;
  each = λ i d within.
      ⊎_elim
      (λ here.
      (ap vcpu_key (ap (λ n. get_or (set passes k q) n d) here ∙ get_or-set_same passes k q d below) ∙ same
      ∙ ap vcpu_key (is ∙ get_or_any passes k p d below) ∙ ap (λ n. vcpu_key (get_or passes n d)) (sym here)))
      (λ other. ap vcpu_key (get_or-set_other passes k i q d other))
      (cases_eq i k);
}
  where
    get_or_any : (xs : List VcpuPassData) (n : ℕ) (d e : VcpuPassData) → n < length xs → get_or xs n d ≡ get_or xs n e
    get_or_any xs n d e h = get_or_from_slice_get xs n (get_or xs n e) d (slice_get-get_or xs n e h)
