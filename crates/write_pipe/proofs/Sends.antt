-- Both ends of a relay may go to another thread, whatever the plant: of the plant they hold a snapshot alone.
use denote.Builtin.{bool}
use denote.RattleType.{RattleType}
use denote.Param.Send.{IsSend, IsSync, sendable, view_send}
use denote.Param.SendFields.{as_row_send, declared_send}
use Rattle.atomic_table.proofs.shared.Seat.TheSendSync as seat
use Rattle.atomic_table.specs.contracts.shared.Seat as Seat
use Rattle.std.proofs.Crossing.{frees}
use Rattle.std.proofs.alloc.Global.TheSendSync as global
use Rattle.std.proofs.option.Option.TheSendSync as option
use Rattle.std.proofs.sync.Arc.TheSendSync as arc
use Rattle.std.specs.contracts.alloc.Global as Global
use Rattle.std.specs.contracts.impls.GlobalAllocator.TheImpl as allocator
use Rattle.std.specs.contracts.option.Option as Option
use Rattle.std.specs.contracts.snapshot.Snapshot as Snapshot
use Rattle.std.specs.contracts.sync.Arc as Arc
use Rattle.crossbeam_queue.proofs.array_queue.Slotted.TheSendSync as slotted
use Rattle.crossbeam_queue.specs.contracts.array_queue.Doing as Doing
use Rattle.crossbeam_queue.specs.contracts.array_queue.Slotted as Slotted
use Rattle.crossbeam_queue.proofs.array_queue.plain.ArrayQueue.TheSendSync as array_queue
use Rattle.crossbeam_queue.specs.contracts.array_queue.plain.ArrayQueue as ArrayQueue
use Rattle.crossbeam_queue.specs.contracts.array_queue.Turns as Turns
use Rattle.std.proofs.vec.Vec.TheSendSync as vec
use Rattle.std.specs.contracts.vec.Vec as Vec
use Rattle.crossbeam_queue.specs.contracts.array_queue.TurnsTableRuleOptionDoingUnit.TheImpl as table_rule
use Rattle.ram_block.proofs.page_buf.PageBuf.TheSendSync as page_buf
use Rattle.ram_block.specs.contracts.page_buf.PageBuf as PageBuf
use Rattle.write_pipe.specs.contracts.outlet.InHand as InHand
use Rattle.page_cell.specs.declared.plant.Plant as Plant
use Rattle.page_cell.proofs.plant.Pick.TheSendSync as pick
use Rattle.page_cell.specs.contracts.plant.Pick as Pick
use Rattle.page_sweep.proofs.sweep.Sweep.TheSendSync as sweep
use Rattle.page_sweep.specs.contracts.sweep.Sweep as Sweep
use Rattle.bg_saver.specs.contracts.counts.Counts as Counts
use Rattle.write_pipe.specs.contracts.copy_end.CopyEnd as CopyEnd
use Rattle.write_pipe.specs.contracts.copy_end.CopyEnd.TheInside as copy_end
use Rattle.write_pipe.specs.contracts.copy_end.Wanted as Wanted
use Rattle.write_pipe.specs.contracts.write_end.WriteEnd as WriteEnd
use Rattle.write_pipe.specs.contracts.write_end.WriteEnd.TheInside as write_end
use Rattle.write_pipe.specs.contracts.filled.Filled as Filled
use Rattle.write_pipe.specs.contracts.inlet.Inlet as Inlet
use Rattle.write_pipe.specs.contracts.inlet.Inlet.TheInside as inlet
use Rattle.write_pipe.specs.contracts.outlet.Outlet as Outlet
use Rattle.write_pipe.specs.contracts.outlet.Outlet.TheInside as outlet
use Rattle.write_pipe.specs.contracts.rule.InOrder as InOrder
use Rattle.write_pipe.specs.contracts.rule.InOrderProtocolFilledLog.TheImpl as protocol
use Rattle.write_pipe.specs.contracts.rule.Log as Log

page_buf_send : IsSend PageBuf.the_row
page_buf_send = page_buf.the_send

snapshot_send : (P : RattleType) → IsSend (Snapshot.the_row P)
snapshot_send P = record { owned = λ d vs. ((λ vss. (tt, ((λ uss. (tt, tt)), tt))), tt); leaving = λ k f vs. tt }

filled_send : (P : RattleType) → IsSend (Filled.the_row P)
filled_send P = declared_send (Filled.the_type P) (search sendable, (as_row_send PageBuf.the_field page_buf_send, (option.the_send (Snapshot.the_row P) (snapshot_send P), tt)))

-- ---- The queue and its passes

abbrev item : RattleType → RattleType
item P = Option.the_row (Filled.the_row P)

abbrev doing : RattleType → RattleType
doing P = Doing.the_row (Filled.the_row P) (Log.the_row P)

item_send : (P : RattleType) → IsSend (item P)
item_send P = option.the_send (Filled.the_row P) (filled_send P)

abbrev queue : (P R : RattleType) → Plant.Ghosts P.Denot R.Denot → RattleType
queue P R g = Slotted.the_row (item P) (doing P) (Turns.the_row (InOrder.the_row P)) Global.the_row
    (table_rule.ghosts (Filled.the_row P) (Log.the_row P) (InOrder.the_row P) (protocol.ghosts P R g protocol.no_dict) table_rule.no_dict) allocator.ghosts

queue_send : (P R : RattleType) (g : Plant.Ghosts P.Denot R.Denot) → IsSend (queue P R g)
queue_send P R g = slotted.the_send (item P) (doing P) (Turns.the_row (InOrder.the_row P)) Global.the_row
    (table_rule.ghosts (Filled.the_row P) (Log.the_row P) (InOrder.the_row P) (protocol.ghosts P R g protocol.no_dict) table_rule.no_dict) allocator.ghosts
    (item_send P) global.the_send frees

queue_sync : (P R : RattleType) (g : Plant.Ghosts P.Denot R.Denot) → IsSync (queue P R g)
queue_sync P R g = slotted.the_sync (item P) (doing P) (Turns.the_row (InOrder.the_row P)) Global.the_row
    (table_rule.ghosts (Filled.the_row P) (Log.the_row P) (InOrder.the_row P) (protocol.ghosts P R g protocol.no_dict) table_rule.no_dict) allocator.ghosts
    (item_send P) global.the_send global.the_sync frees

inlet_send : (P R : RattleType) (g : Plant.Ghosts P.Denot R.Denot) → IsSend (Inlet.the_row P R g)
inlet_send P R g = view_send _ _ _ _ _ (declared_send (inlet.the_type P R g) (
  as_row_send (Arc.the_field (queue P R g) Global.the_row allocator.ghosts) (arc.the_send (queue P R g) Global.the_row allocator.ghosts (queue_send P R g) global.the_send (queue_sync P R g) global.the_sync frees),
  (as_row_send (Seat.the_field (item P) (doing P)) (seat.the_send (item P) (doing P) (item_send P)), (as_row_send (Snapshot.the_field P) (snapshot_send P), (search sendable, tt))),
))

outlet_send : (P R : RattleType) (g : Plant.Ghosts P.Denot R.Denot) → IsSend (Outlet.the_row P R g)
outlet_send P R g = view_send _ _ _ _ _ (declared_send (outlet.the_type P R g) (
  as_row_send (Arc.the_field (queue P R g) Global.the_row allocator.ghosts) (arc.the_send (queue P R g) Global.the_row allocator.ghosts (queue_send P R g) global.the_send (queue_sync P R g) global.the_sync frees),
  (as_row_send (Seat.the_field (item P) (doing P)) (seat.the_send (item P) (doing P) (item_send P)), (as_row_send (Snapshot.the_field P) (snapshot_send P), (search sendable, (search sendable, (search sendable, tt))))),
))

in_hand_send : IsSend InHand.the_row
in_hand_send = declared_send InHand.the_type (search sendable, (as_row_send PageBuf.the_field page_buf_send, tt))

abbrev spares : RattleType
spares = ArrayQueue.the_row PageBuf.the_row Global.the_row allocator.ghosts

spares_send : IsSend spares
spares_send = array_queue.the_send PageBuf.the_row Global.the_row allocator.ghosts page_buf_send global.the_send frees

spares_sync : IsSync spares
spares_sync = array_queue.the_sync PageBuf.the_row Global.the_row allocator.ghosts page_buf_send global.the_send global.the_sync frees

-- ---- The ends

wanted_send : IsSend Wanted.the_row
wanted_send = declared_send Wanted.the_type (search sendable, (search sendable, tt))

counts_send : IsSend Counts.the_row
counts_send = declared_send Counts.the_type (search sendable, (search sendable, tt))

flags_send : IsSend (Vec.the_row bool Global.the_row allocator.ghosts)
flags_send = vec.the_send bool Global.the_row allocator.ghosts (search sendable) global.the_send frees

arc_send : IsSend (Arc.the_row spares Global.the_row allocator.ghosts)
arc_send = arc.the_send spares Global.the_row allocator.ghosts spares_send global.the_send spares_sync global.the_sync frees

pub copy_end_send : (P R : RattleType) (g : Plant.Ghosts P.Denot R.Denot) → IsSend (CopyEnd.the_row P R g)
copy_end_send P R g = view_send _ _ _ _ _ (declared_send (copy_end.the_type P R g) (
  as_row_send (Inlet.the_field P R g) (inlet_send P R g),
  (
    as_row_send (Arc.the_field spares Global.the_row allocator.ghosts) arc_send,
    (
      option.the_send PageBuf.the_row page_buf_send,
      (
        search sendable,
        (
          as_row_send Sweep.the_field sweep.the_send,
          (
            option.the_send InHand.the_row in_hand_send,
            (
              option.the_send Wanted.the_row wanted_send,
              (
                counts_send,
                (
                  as_row_send (Vec.the_field bool Global.the_row allocator.ghosts) flags_send,
                  (search sendable, tt),
                ),
              ),
            ),
          ),
        ),
      ),
    ),
  ),
))

pub write_end_send : (P R : RattleType) (g : Plant.Ghosts P.Denot R.Denot) → IsSend (WriteEnd.the_row P R g)
write_end_send P R g = view_send _ _ _ _ _ (declared_send (write_end.the_type P R g) (
  as_row_send (Outlet.the_field P R g) (outlet_send P R g),
  (
    as_row_send (Arc.the_field spares Global.the_row allocator.ghosts) arc_send,
    (
      option.the_send InHand.the_row in_hand_send,
      (
        option.the_send PageBuf.the_row page_buf_send,
        (
          as_row_send (Vec.the_field bool Global.the_row allocator.ghosts) flags_send,
          (
            as_row_send (Vec.the_field bool Global.the_row allocator.ghosts) flags_send,
            (
              search sendable,
              (
                search sendable,
                (option.the_send Pick.the_row pick.the_send, tt),
              ),
            ),
          ),
        ),
      ),
    ),
  ),
))
