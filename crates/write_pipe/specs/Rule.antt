-- The rule of the queue between copier and writer: what was sent is what was got and then what the queue holds. One pass at
-- most may push, and it has the list of what was sent; the same for pops (this project's own, docs/ARCHITECTURE.md).
use Rattle.std.specs.Prelude.{◌≡◌, ℕ, ◌<◌, Bool, true, List, [], ◌∷◌, ◌++◌, map, nat_eq, Option, Some, IfSome, slice_get, All, option_map}
use Rattle.std.specs.List.{IsDistinct}
use mathlib.Core.Option.{some}
use lib.ListN.{get_elem?}
use Rattle.write_pipe.specs.declared.filled.Filled.{Filled}
use Rattle.write_pipe.specs.declared.rule.Log.{Log}

module _ {P : Type 0} where
  abbrev pub log : Bool → Bool → Option P → List (Filled P) → List (Filled P) → Log P
  log a b from sent got = record { pushes = a; pops = b; from = from; sent = sent; got = got }

  -- the pages of the buffers
  abbrev pub pages_in : List (Filled P) → List ℕ
  pages_in buffers = map (λ x. x.page) buffers

  -- a buffer went in behind the others
  abbrev pub IsSent : Log P → Filled P → Log P → Type 0
  IsSent v x w = w ≡ log v.pushes v.pops v.from (v.sent ++ x ∷ []) v.got

  -- the plant that the buffer tells
  abbrev pub plant_in : Filled P → Option P
  plant_in x = option_map (λ s. s.value) x.from

  -- the one buffer that had gone in came out: from now on the plant that it tells is known, and no page has gone in
  pub record IsOpened (v : Log P) (x : Filled P) (w : Log P) : Type 0 where
    pub sole : v.sent ≡ x ∷ []
    pub known : w ≡ log v.pushes v.pops (plant_in x) [] []

  -- nothing is learned
  abbrev pub Nothing : Log P → List (Filled P) → Type 0
  Nothing v items = Unit {0}

module _ {P : Type 0} (total : P → ℕ) (stands : P → List (List ℕ) → Type 0) where
  -- in each list for which the plant stood these are the bytes of the page
  abbrev pub AreBytesOf : P → ℕ → List ℕ → Type 0
  AreBytesOf plant page bytes = (pages : List (List ℕ)) → stands plant pages → slice_get pages page ≡ Some bytes

  -- the buffer is that of a page, with its bytes
  pub record IsPageOf (plant : P) (x : Filled P) : Type 0 where
    pub page : x.page < total plant
    pub bytes : AreBytesOf plant x.page x.bytes

  -- a buffer came out behind those that had come out; once the plant is known it is that of a page, which hadn't come out
  pub record IsGot (v : Log P) (x : Filled P) (w : Log P) : Type 0 where
    pub log : w ≡ log v.pushes v.pops v.from v.sent (v.got ++ x ∷ [])
    pub page : IfSome v.from (λ plant. IsPageOf plant x)
    pub once : IsDistinct nat_eq (pages_in (v.got ++ x ∷ []))

  -- the pass that may push is the writer's, and that which may pop the reader's; they know these
  pub record Fits (writer reader : ℕ) (from : Option P) (sent got : List (Filled P)) (port : ℕ) (v : Log P) : Type 0 where
    pub pushes : v.pushes ≡ true → (port ≡ writer) × (v.from ≡ from) × (v.sent ≡ sent)
    pub pops : v.pops ≡ true → (port ≡ reader) × (v.from ≡ from) × (v.got ≡ got)

  -- what came out and then what the queue holds is what went in: once the plant is known, buffers of pages; each page once
  pub record Relayed (items : List (Filled P)) (known : List (Log P)) : Type 0 where
    pub writer : ℕ
    pub reader : ℕ
    pub from : Option P
    pub sent : List (Filled P)
    pub got : List (Filled P)
    pub order : sent ≡ got ++ items
    pub pages : IfSome from (λ plant. All (IsPageOf plant) sent)
    pub once : IsDistinct nat_eq (pages_in sent)
    pub views : (port : ℕ) (v : Log P) → get_elem? known port ≡ some v → Fits writer reader from sent got port v
