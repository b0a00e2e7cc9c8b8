-- What a bus and its passes hold, as plain data.
use Rattle.std.specs.Prelude.{◌≡◌, ◌*◌, ◌≤◌, [], vec_capacity}
use Rattle.ram_block.specs.Shape.{total_pages_of}
use Rattle.bus_rule.specs.Kept.{cells_of}
use Rattle.page_bus.specs.Passes.{BusData, VcpuPassData, SaverPassData, IsBus, IsVcpuPass, IsSaverPass, task_of, book_of}
use Rattle.page_bus.specs.Traced.{traced_of}
use Rattle.page_bus.specs.declared.bus.Bus.TheInside as bus
use Rattle.page_bus.specs.declared.saver_pass.SaverPass.TheInside as saver
use Rattle.page_bus.specs.declared.vcpu_pass.VcpuPass.TheInside as vcpu

-- ---- A vCPU's pass

abbrev pub vcpu_pass_of : vcpu.Inside → VcpuPassData
vcpu_pass_of p = record { table = p.seat.table_id; view = p.seat.me.0 }

-- its seat knows what its fields say, and no cell is out with it
pub record IsVcpuInside (p : vcpu.Inside) : Type 0 where
  pub pass : IsVcpuPass (vcpu_pass_of p)
  pub out : p.seat.me.1 ≡ []
  pub traced : p.traced ≡ traced_of (task_of p.seat.me.0)
  pub busy : p.busy ≡ p.seat.me.0.busy

-- ---- The saver's pass

abbrev pub saver_pass_of : saver.Inside → SaverPassData
saver_pass_of p = record { table = p.seat.table_id; view = p.seat.me.0; picks = p.picks; last = p.last }

pub record IsSaverInside (p : saver.Inside) : Type 0 where
  pub pass : IsSaverPass (saver_pass_of p)
  pub out : p.seat.me.1 ≡ []
  pub shape : p.shape ≡ (book_of p.seat.me.0).instant.shape
  pub busy : p.busy ≡ p.seat.me.0.busy

-- ---- The bus

abbrev pub bus_of : bus.Inside → BusData
bus_of b = record {
  table = b.rule.table.shared.table_id;
  instant = b.rule.table.shared.key.instant.value;
  run = b.rule.table.shared.key.run;
  protect = b.rule.table.shared.key.protect;
}

-- beside the table it keeps the parts of the machine that are no cells, and the memory that a close needs
pub record IsBusInside (b : bus.Inside) : Type 0 where
  pub bus : IsBus (bus_of b)
  pub shape : b.shape ≡ b.rule.table.shared.key.instant.value.shape
  pub vcpus : b.vcpus.items ≡ b.rule.table.shared.key.instant.value.vcpus
  pub clock : b.clock ≡ b.rule.table.shared.key.instant.value.clock
  pub ram : b.ram.items ≡ []
  pub ram_room : total_pages_of b.shape ≤ vec_capacity b.ram
  pub cells : b.cells.items ≡ []
  pub cells_room : cells_of b.shape ≤ vec_capacity b.cells
  pub traced : b.traced.items ≡ []
  pub traced_room : b.shape.vcpus ≤ vec_capacity b.traced
  pub order : b.order.members ≡ []
  pub order_room : b.order.room ≡ 2 * b.rule.table.shared.key.run * b.shape.vcpus
