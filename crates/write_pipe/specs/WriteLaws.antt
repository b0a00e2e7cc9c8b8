-- The laws of the end of the saver as a plant, with their proofs.
use Rattle.std.proofs.Common.{◌≡◌, ℕ, Bool, false, List, All, length}
use Rattle.write_pipe.specs.WriteEnd.{WriteData, IsWriteEnd}

module _ {P : Type 0} (total : P → ℕ) (writable : P → List Bool) (stands : P → List (List ℕ) → Type 0) (fits : P → Type 0) where
  -- there is a flag for each page
  pub end_flags : (d : WriteData P) → IsWriteEnd total writable stands fits d → (length d.writable ≡ total d.outlet.from) × (length d.picked ≡ total d.outlet.from)
  end_flags d is = (is.writable, is.picked)

  -- where no page is writable it stands for one list at most, since the plant did at the instant
  pub end_one_list : ((plant : P) (a b : List (List ℕ)) → fits plant → All (λ w. w ≡ false) (writable plant) → stands plant a → stands plant b → a ≡ b) →
      (d : WriteData P) (a b : List (List ℕ)) → IsWriteEnd total writable stands fits d → All (λ w. w ≡ false) d.writable → stands d.outlet.from a → stands d.outlet.from b → a ≡ b
  end_one_list one d a b is protected first second = one d.outlet.from a b is.origin is.protected first second
