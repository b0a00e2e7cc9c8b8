-- All the memory that a bus needs.
use Rattle.std.specs.Prelude.{◌≡◌, ℕ, ◌*◌, ◌≤◌, false, [], replicate, vec_capacity}
use Rattle.ram_block.specs.Shape.{total_pages_of}
use Rattle.flat_machine.specs.Machine.{MachineData}
use Rattle.flat_machine.specs.Run.{ends_of}
use Rattle.plain_bus.specs.declared.room.Room.{Room}

-- it is for the machine and a phase of so many instructions
pub record IsRoomFor (m : MachineData) (run : ℕ) (r : Room) : Type 0 where
  pub cells : r.cells.items ≡ []
  pub room : total_pages_of m.shape ≤ vec_capacity r.cells
  pub faults : r.faults ≡ record { pages = total_pages_of m.shape; list = [] }
  pub ends : r.ends.items ≡ ends_of m run
  pub order : r.order ≡ record { members = []; room = 2 * run * m.shape.vcpus }
  pub picked : r.picked.items ≡ replicate (total_pages_of m.shape) false
