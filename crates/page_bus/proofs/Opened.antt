-- The passes that a start makes.
use Rattle.std.proofs.Common.{◌≡◌, ℕ, ◌+◌, ◌^◌, ◌<◌, ◌≤◌, Bool, not, List, [], ◌∷◌, ◌++◌, get_or, length, map, replicate, reverse, Some, refl, sym, ◌∙◌, ap, subst, arith}
use Rattle.std.specs.List.{slice_get}
use Rattle.std.proofs.lemmas.List.{append_assoc, length-map, map-append, reverse-append}
use Rattle.std.proofs.lemmas.Option.{slice_get-get_or, slice_get_within}
use Rattle.atomic_table.specs.Seated.{TableId}
use Rattle.ram_block.specs.Shape.{total_pages_of}
use Rattle.ram_block.specs.declared.limits.TheConstants.{MAX_PHASE}
use Rattle.rv64i_step.specs.Vcpu.{VcpuData, boot_vcpu}
use Rattle.flat_machine.specs.Machine.{IsMachine, MachineData, Rest}
use Rattle.flat_machine.proofs.Servable.{machine_serves}
use Rattle.page_cell.specs.declared.cell.Cell.{Cell}
use Rattle.bus_rule.specs.Ended.{IsOpening}
use Rattle.bus_rule.specs.Kept.{cells_of, due}
use Rattle.bus_rule.specs.Plays.{CanSplit, after_split, idle_pass, next_pass, role_for}
use Rattle.bus_rule.specs.Tells.{PassMe}
use Rattle.bus_rule.specs.Views.{Book, Saving, Working}
use Rattle.page_bus.specs.Moves.{AreCellsOf, IsBareOf, IsWhole}
use Rattle.page_bus.specs.Opening.{ArePassesFrom, book_from, vcpu_pass_from}
use Rattle.page_bus.specs.Passes.{IsVcpuPass, VcpuPassData, task_of}
use Rattle.page_bus.specs.Room.{AreTracedFrom, traced_from}
use Rattle.page_bus.specs.Traced.{IsTraced, TracedData, traced_of}
use Rattle.page_bus.specs.declared.bare_machine.BareMachine.{BareMachine}
use Rattle.page_bus.proofs.Lists.{behind, each_push}

-- ---- The vCPUs before their first events

pub traced_more : (m : MachineData) (run : ℕ) (traced : List TracedData) (k : ℕ) (d : TracedData) → AreTracedFrom m run traced → length traced ≡ k → k < length m.vcpus →
    ((v : VcpuData) → slice_get m.vcpus k ≡ Some v → d ≡ traced_from m run k v) → AreTracedFrom m run (traced ++ d ∷ [])
traced_more m run traced k d was count below is = record {
  each = each_push (λ j e. (v : VcpuData) × (slice_get m.vcpus j ≡ Some v) × (e ≡ traced_from m run j v)) traced d was.each
      (subst (λ j. (v : VcpuData) × (slice_get m.vcpus j ≡ Some v) × (d ≡ traced_from m run j v)) (sym count)
      (let v = get_or m.vcpus k (boot_vcpu 0) in
      let there : slice_get m.vcpus k ≡ Some v = slice_get-get_or m.vcpus k (boot_vcpu 0) below in
      (v, there, is v there)));
}

-- ---- The passes that are split off

module _ (table : TableId) (i : MachineData) (run : ℕ) (protect : Bool) where
  -- the saver's seat, when so many are split off
  abbrev pub seat_from : ℕ → PassMe
  seat_from k = (idle_pass (Saving (book_from i run protect k)), [])

  pub can_split : (me : PassMe) (k : ℕ) → me ≡ seat_from k → k < length i.vcpus → (b : Book) × CanSplit me.0 b
  can_split me k is below = (book_from i run protect k, record { role = ap (λ (m : PassMe). m.0.role) is; more = below })

  pub split_more : (me after : PassMe) (k : ℕ) → me ≡ seat_from k → after ≡ (after_split me.0, me.1) → after ≡ seat_from (k + 1)
  split_more me after k is left = left ∙ ap (λ (m : PassMe). (after_split m.0, m.1)) is

  -- the pass of the next
  pub next_is : (me split : PassMe) (k : ℕ) (v : VcpuData) → me ≡ seat_from k → split ≡ (next_pass me.0, []) → slice_get i.vcpus k ≡ Some v →
      split ≡ ((vcpu_pass_from table i run protect k v).view, [])
  next_is me split k v is right there =
      right ∙ ap (λ (m : PassMe). (next_pass m.0, [])) is
      ∙ ap (λ w. (idle_pass (role_for (book_from i run protect k) k w), [])) there

  -- the k-th of the list is the vCPU that it is of
  pub kth : (traced : List TracedData) (k : ℕ) (d : TracedData) → AreTracedFrom i run traced → slice_get traced k ≡ Some d →
      (v : VcpuData) × (slice_get i.vcpus k ≡ Some v) × (d ≡ traced_from i run k v)
  kth traced k d of is = of.each k d is

  pub passes_more : (passes : List VcpuPassData) (v : VcpuData) (p : VcpuPassData) → ArePassesFrom table i run protect (length passes) passes →
      slice_get i.vcpus (length passes) ≡ Some v → p ≡ vcpu_pass_from table i run protect (length passes) v →
      ArePassesFrom table i run protect (length (passes ++ p ∷ [])) (passes ++ p ∷ [])
  passes_more passes v p was there is = record {
    counted = refl;
    each = each_push (λ k q. (w : VcpuData) × (slice_get i.vcpus k ≡ Some w) × (q ≡ vcpu_pass_from table i run protect k w)) passes p was.each (v, there, is);
  }

-- ---- What is moved out of a list from its front on, while it lies in reverse

pub next_of : {A B : Type 0} (f : A → B) (done : List A) (left rest : List B) (d : B) (all : List B) → left ≡ rest ++ d ∷ [] → map f done ++ reverse left ≡ all →
    slice_get all (length done) ≡ Some d
next_of f done left rest d all is moved =
    sym (ap (λ xs. slice_get xs (length done)) (ap (λ ys. map f done ++ reverse ys) (sym is) ∙ moved))
    ∙ ap (λ ys. slice_get (map f done ++ ys) (length done)) (reverse-append rest (d ∷ []))
    ∙ ap (slice_get (map f done ++ d ∷ reverse rest)) (sym (length-map done f))
    ∙ behind (map f done) d (reverse rest)

pub moved_more : {A B : Type 0} (f : A → B) (done : List A) (p : A) (left rest : List B) (d : B) (all : List B) → left ≡ rest ++ d ∷ [] → map f done ++ reverse left ≡ all → f p ≡ d →
    map f (done ++ p ∷ []) ++ reverse rest ≡ all
moved_more f done p left rest d all is moved same =
    ap (λ ys. ys ++ reverse rest) (map-append f done (p ∷ []))
    ∙ append_assoc (map f done) (f p ∷ []) (reverse rest)
    ∙ ap (λ e. map f done ++ e ∷ reverse rest) same
    ∙ ap (λ ys. map f done ++ ys) (sym (reverse-append rest (d ∷ [])))
    ∙ ap (λ ys. map f done ++ reverse ys) (sym is)
    ∙ moved

-- ---- A pass in its caller's hand

pub is_pass : (table : TableId) (me : PassMe) (d : TracedData) → me.0.role ≡ Working (task_of me.0) → me.0.held ≡ [] → d ≡ traced_of (task_of me.0) → IsTraced d →
    table.slots ≡ cells_of d.shape → me.0.busy < 2 ^ 64 → IsVcpuPass (record { table = table; view = me.0 })
is_pass table me d role held traced within cells busy =
    let is : IsTraced (traced_of (task_of me.0)) = subst IsTraced traced within in
    record {
      role = role;
      none_held = held;
      cells = cells ∙ ap (λ (e : TracedData). cells_of e.shape) traced;
      shape = is.shape;
      who = is.who;
      vcpu = is.vcpu;
      servable = is.servable;
      steps = is.steps;
      until = is.until;
      busy = busy;
    }

pub is_first_pass : (table : TableId) (i : MachineData) (run : ℕ) (protect : Bool) (k : ℕ) (v : VcpuData) (me : PassMe) (d : TracedData) →
    me ≡ ((vcpu_pass_from table i run protect k v).view, []) → d ≡ traced_from i run k v → IsTraced d → table.slots ≡ cells_of i.shape →
    IsVcpuPass (record { table = table; view = me.0 })
is_first_pass table i run protect k v me d is from within cells =
    let role : me.0.role ≡ Working (task_of me.0) = subst (λ (m : PassMe). m.0.role ≡ Working (task_of m.0)) (sym is) refl in
    let traced : d ≡ traced_of (task_of me.0) = from ∙ sym (ap (λ (m : PassMe). traced_of (task_of m.0)) is) in
    let busy : me.0.busy ≡ 0 = ap (λ (m : PassMe). m.0.busy) is in
    is_pass table me d role (ap (λ (m : PassMe). m.0.held) is) traced within (cells ∙ sym (ap (λ (e : TracedData). cells_of e.shape) from)) (omega (arith, busy))

-- ---- The table

pub is_opening : (m i : MachineData) (run : ℕ) (protect writable : Bool) (words ws : List ℕ) (all : List Cell) → i ≡ m → IsMachine m → Rest m → run ≤ MAX_PHASE →
    ws ≡ words → words ≡ m.clock ∷ replicate (cells_of m.shape) 0 → writable ≡ not protect → AreCellsOf m (replicate (total_pages_of m.shape) writable) [] all →
    IsOpening i run protect ws all
is_opening m i run protect writable words ws all same is rest most read words_are flag cells =
    subst (λ (j : MachineData). IsOpening j run protect ws all) (sym same)
    (record {
      start = record { machine = is; rest = rest; run = most };
      numbers = read ∙ words_are;
      count = cells.count;
      each = λ c x at.
          ap (λ b. due m (replicate (total_pages_of m.shape) b) [] c) (sym flag)
          ∙ sym (cells.each c (subst (λ n. c < n) cells.count (slice_get_within all c x at))) ∙ at;
    })

abbrev pub whole_again : (m : MachineData) (bare : BareMachine) (writable : List Bool) (all back : List Cell) → IsMachine m → IsBareOf m bare → AreCellsOf m writable [] all → back ≡ all → IsWhole bare back
whole_again m bare writable all back is bare_of cells same = record {
  machine = m;
  writable = writable;
  queue = [];
  serves = machine_serves m is;
  vcpus = is.vcpus;
  clock = is.clock;
  bare_of = bare_of;
  cells = subst (AreCellsOf m writable []) (sym same) cells;
}
