-- A place that the address map gives serves the access.
use Rattle.std.proofs.Common.{◌≡◌, ℕ, ◌==◌, Bool, true, false, not, List, [], ◌∷◌, Some, None, IfSome, IfOk, arith, refl, ◌%◌, inl, inr}
use Rattle.std.proofs.lemmas.Bool.{and_parts, cases_Bool}
use Rattle.std.proofs.lemmas.Bool.Decides.{nat_tests}
use Rattle.std.specs.List.{find}
use Rattle.std.specs.Prelude.{Option, Result, if◌then◌else◌}
use Rattle.std.specs.Option.{ok_or}
use Rattle.ram_block.specs.declared.cause.Cause.{Cause}
use Rattle.ram_block.specs.declared.place.Way.{Way}
use Rattle.ram_block.specs.declared.place.Way.TheVariants.{Fetch, Load, Store, Amo}
use Rattle.ram_block.specs.declared.place.Width.{Width}
use Rattle.ram_block.specs.declared.place.Width.TheVariants.{One, Two, Four, Eight}
use Rattle.ram_block.specs.declared.place.Place.{Place}
use Rattle.ram_block.specs.declared.place.Place.TheVariants.{Ram, Serial, Timer}
use Rattle.ram_block.specs.Shape.{ShapeData}
use Rattle.ram_block.specs.Devices.{device_at, has_access, register_of, registers, IsRegisterAccess}
use Rattle.ram_block.specs.AddressMap.{width_bytes, IsAligned, IsInRam, is_in_ram, ram_place, located, IsAccess}

-- what a look-up finds has what each place that passes its test has
found : (P : Place → Type 0) (test : Place → Bool) → ((place : Place) → test place ≡ true → P place) → (places : List Place) → IfSome (find test places) P
found P test passes [] = tt
found P test passes (place ∷ places) = elim (cases_Bool (test place)) [
  | inl here ↦ rw here (passes place here)
  | inr later ↦ rw later (found P test passes places)
]

-- RAM has none of the registers' accesses
no_ram_access : (page off : ℕ) (width : Width) (way : Way) → has_access (Ram page off) width way ≡ true → ⊥
no_ram_access page off width Fetch h = cc
no_ram_access page off width Load h = cc
no_ram_access page off width Store h = cc
no_ram_access page off width Amo h = cc

-- a register that has the access serves it
register_access : (s : ShapeData) (width : Width) (way : Way) (place : Place) → has_access place width way ≡ true → IsAccess s width way place
register_access s width way (Ram page off) h = absurd (no_ram_access page off width way h)
register_access s width way (Serial reg) h = rw h tt
register_access s width way (Timer reg) h = rw h tt

-- a register that the device table gives has the access
device_access : (s : ShapeData) (addr : ℕ) (width : Width) (way : Way) → IfSome (device_at addr width way) (IsAccess s width way)
unfolding device_at
device_access s addr width way =
    found (IsAccess s width way) _ (λ place h. register_access s width way place (and_parts (addr == (register_of place).addr) (has_access place width way) h).1) registers

-- an aligned access in RAM lies in one page of the machine
ram_access : (s : ShapeData) (addr : ℕ) (width : Width) (way : Way) → IsAligned addr width → IsInRam s addr width → IsAccess s width way (ram_place addr)
ram_access s addr One way a r = record { in_machine = omega arith; in_page = omega arith; aligned = omega arith }
ram_access s addr Two way a r = record { in_machine = omega arith; in_page = omega arith; aligned = omega arith }
ram_access s addr Four way a r = record { in_machine = omega arith; in_page = omega arith; aligned = omega arith }
ram_access s addr Eight way a r = record { in_machine = omega arith; in_page = omega arith; aligned = omega arith }

-- no device has an AMO
pub no_device_amo : (place : Place) (width : Width) → IsRegisterAccess place width Amo → ⊥
no_device_amo place width h = h

-- nor a fetch
pub no_device_fetch : (place : Place) (width : Width) → IsRegisterAccess place width Fetch → ⊥
no_device_fetch place width h = h

-- what serves where there is a register serves as the answer
or_outside : (P : Place → Type 0) (o : Option Place) (e : Cause) → IfSome o P → IfOk (ok_or o e) P
or_outside P None e h = tt
or_outside P (Some p) e h = h

-- where RAM hasn't the access, the answer is a register that has it, or a cause
pub device_answer : (s : ShapeData) (addr : ℕ) (width : Width) (way : Way) (e : Cause) → IfOk (ok_or (device_at addr width way) e) (IsAccess s width way)
device_answer s addr width way e = or_outside (IsAccess s width way) (device_at addr width way) e (device_access s addr width way)

-- the branch of a test, with what the test says
by_test : {A : Type 0} (P : A → Type 0) (b : Bool) (x y : A) → (b ≡ true → P x) → (b ≡ false → P y) → P (if b then x else y)
by_test P true x y p q = p refl
by_test P false x y p q = q refl

-- each place that the address map answers has the access
pub located_access : (s : ShapeData) (addr : ℕ) (width : Width) (way : Way) → IfOk (located s addr width way) (IsAccess s width way)
unfolding located
located_access s addr width way =
    let P : Result Place Cause → Type 0 = λ r. IfOk r (IsAccess s width way) in
    by_test P (not (addr % width_bytes width == 0)) _ _
    (λ _. tt)
    (λ aligned. by_test P (is_in_ram s addr width) _ _
    (λ inside. ram_access s addr width way (grind (arith, nat_tests)) (grind (arith, nat_tests), grind (arith, nat_tests)))
    (λ _. device_answer s addr width way _))
