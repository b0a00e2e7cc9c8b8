-- The device text of a layer, both ways.
use Rattle.std.proofs.Common.{◌≡◌, ℕ, ◌≤◌, List, Ok, Err, Result, Option, IfSome, length, refl, sym, ◌∙◌, ap, subst, arith}
use Rattle.std.specs.Prelude.{◌==◌, nat_le}
use Rattle.std.proofs.lemmas.Bool.{eq-eqb, eqb-true, le-leb, leb-true}
use Rattle.rv64i_step.specs.Access.{AccessesMemory}
use Rattle.rv64i_step.specs.Event.{IsServable, access_of}
use Rattle.rv64i_step.specs.Request.{CanServe}
use Rattle.rv64i_step.specs.Vcpu.{VcpuData}
use Rattle.rv64i_step.specs.declared.access.Access.{Access}
use Rattle.ram_block.specs.Shape.{ShapeData}
use Rattle.flat_machine.specs.Machine.{IsMachine, MachineData, Rest}
use Rattle.device_state.specs.DeviceText.{AreDevices, DevicesData, IsResting, SerialVersion, devices_of}
use Rattle.device_state.specs.Reading.{DevicesRead, devices_in}
use Rattle.device_state.specs.Reader.{StandsAs}
use Rattle.device_state.proofs.Bodies.{Bytes}
use Rattle.device_state.proofs.WholeBack.{devices_told}
use Rattle.device_state.proofs.WholeForth.{devices_are_read}
use Rattle.device_state.specs.declared.fault.DeviceReadFault.{DeviceReadFault}
use Rattle.mig_stream.specs.Checks.{check}
use Rattle.snap_layer.specs.Reading.{ends_in, last_in, last_of, machine_with}
use Rattle.snap_layer.specs.declared.refusal.LayerRefusal.TheVariants.{Trailing, Vcpus}
use Rattle.snap_layer.proofs.Numbers.{both_ok, check_ok, passed, passes, then_ok}

-- the devices of a machine at rest are within the limits
pub devices_limits : (m : MachineData) → IsMachine m → Rest m → AreDevices (devices_of m)
devices_limits m machine rest =
    let count = machine.vcpus in
    record {
      some = omega (arith, machine.shape.vcpus, count);
      count = omega (arith, machine.shape.vcpus, count);
      each = λ k d h. record { vcpu = machine.each k d h; none_pending = rest.none_pending k d h; steps = rest.steps k d h };
      serial = machine.serial;
      cmp = machine.cmp;
      clock = rest.clock;
    }

-- a layer that ends with the device text of so many vCPUs
pub last_is : (layer : List ℕ) (at end vcpus : ℕ) (version : SerialVersion) (d : DevicesData) → AreDevices d → length d.vcpus ≡ vcpus → StandsAs layer at end version d → length layer ≤ end
    → last_in vcpus layer at ≡ Ok d
unfolding last_in
last_is layer at end vcpus version d limits count stands last =
    ap (last_of vcpus (length layer)) (devices_are_read layer at end version d limits stands)
    ∙ then_ok (ends_in vcpus (length layer) (length d.vcpus) end) (λ _. Ok d) tt d
    (check_ok (length d.vcpus == vcpus) (Vcpus (length d.vcpus)) _ tt (eq-eqb _ _ count) (ap (λ r. check r (Trailing end)) (le-leb _ _ last))) refl

-- what was read of the end of a layer
pub record IsLast (layer : List ℕ) (at vcpus : ℕ) (d : DevicesData) : Type 0 where
  pub version : SerialVersion
  pub end : ℕ
  pub stands : StandsAs layer at end version d
  pub last : length layer ≤ end
  pub count : length d.vcpus ≡ vcpus
  pub limits : AreDevices d

last_by : (layer : List ℕ) (at vcpus : ℕ) (d : DevicesData) → Bytes layer → (read : Result DevicesRead DeviceReadFault) → devices_in layer at ≡ read → last_of vcpus (length layer) read ≡ Ok d → IsLast layer at vcpus d
last_by layer at vcpus d each (Ok read) found is =
    let both = both_ok (ends_in vcpus (length layer) (length read.devices.vcpus) read.end) (λ _. Ok read.devices) d is in
    let one = passes (length read.devices.vcpus == vcpus) (Vcpus (length read.devices.vcpus)) _ tt both.1 in
    let right = passed (nat_le (length layer) read.end) (Trailing read.end) one.1 in
    let same : read.devices ≡ d = cc in
    let told = devices_told layer at read (λ i from to. each i) found in
    record {
      version = read.version;
      end = read.end;
      stands = subst (StandsAs layer at read.end read.version) same told.1;
      last = leb-true _ _ right;
      count = ap (λ (x : DevicesData). length x.vcpus) (sym same) ∙ eqb-true _ _ one.0;
      limits = subst AreDevices same told.0;
    }
last_by layer at vcpus d each (Err fault) found is = absurd (cc)

pub last_is_of : (layer : List ℕ) (at vcpus : ℕ) (d : DevicesData) → Bytes layer → last_in vcpus layer at ≡ Ok d → IsLast layer at vcpus d
unfolding last_in
last_is_of layer at vcpus d each is = last_by layer at vcpus d each (devices_in layer at) refl is

-- a vCPU with no pending access can be served
rests_served : (shape : ShapeData) (v : VcpuData) → IsResting v → IsServable shape v
rests_served shape v rests = subst (λ (p : Option Access). IfSome p (λ access. AccessesMemory access.instr × CanServe shape (access_of v access.place access.instr))) (sym rests.none_pending) tt

-- the machine of these devices over a base is within the limits, and at rest
pub machine_limits : (base : MachineData) (ram : List ℕ) (d : DevicesData) → IsMachine base → length ram ≡ length base.ram → AreDevices d → length d.vcpus ≡ base.shape.vcpus
    → IsMachine (machine_with base.shape ram d) × Rest (machine_with base.shape ram d)
machine_limits base ram d is long limits count = (
  record {
    shape = is.shape;
    ram = long ∙ is.ram;
    vcpus = count;
    each = λ k e h. (limits.each k e h).vcpu;
    servable = λ k e h. rests_served base.shape _ (limits.each k e h);
    serial = limits.serial;
    cmp = limits.cmp;
    clock = let early = limits.clock in omega (arith, early);
  },
  record {
    none_pending = λ k e h. (limits.each k e h).none_pending;
    steps = λ k e h. (limits.each k e h).steps;
    clock = limits.clock;
  },
)
