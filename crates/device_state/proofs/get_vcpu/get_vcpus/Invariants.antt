use Rattle.std.proofs.Common.{◌≡◌, ℕ, ◌+◌, ◌-◌, ◌*◌, ◌≤◌, List, Some, vec_len}
use Rattle.std.specs.Prelude.{All}
use Rattle.medium.specs.Members.{file_state}
use Rattle.medium.specs.States.{Leaves}
use Rattle.device_state.specs.DeviceText.{IsResting}
use Rattle.device_state.specs.Reader.{AreBytes}
use Rattle.device_state.specs.Reading.{vcpus_in}
use Rattle.device_state.proofs.Vcpus.{left}
use Rattle.device_state.proofs.get_vcpu.get_vcpus.Given as goal

abbrev pub invariant-sections : goal.invariant-sections
invariant-sections g l = record {
  count : vec_len l.vcpus ≤ 8;
  each : All IsResting l.vcpus.items;
  from : l.fn.reader.at ≤ l.reader.at;
  near : l.reader.at ≤ l.fn.reader.at + 287 * vec_len l.vcpus;
  same_medium : l.reader.medium.ghost_name ≡ l.fn.reader.medium.ghost_name;
  leaves : Leaves (file_state g.M.Readable l.fn.reader.medium.now) (file_state g.M.Readable l.reader.medium.now);
  answer : (file : List ℕ) → g.M.Readable.told l.fn.reader.medium.now ≡ Some file → vcpus_in file 8 l.fn.reader.at 0 ≡ left file l.reader.at l.vcpus.items;
  bytes : (file : List ℕ) → g.M.Readable.told l.fn.reader.medium.now ≡ Some file → AreBytes file l.fn.reader.at l.reader.at;
}

abbrev pub decreases-sections : goal.decreases-sections
decreases-sections g l = 8 - vec_len l.vcpus
