use denote.Param.Send.{sendable}
use Rattle.bg_run.proofs.owned_end.OwnedEnd.TheSendSync as owned_end
use Rattle.write_pipe.proofs.Sends.{copy_end_send}
use Rattle.write_pipe.proofs.beside.copy_beside.Goals as goal

pub join_mut-requires-send-F : goal.join_mut-requires-send-F
join_mut-requires-send-F g c κs within = search (sendable, copy_end_send, owned_end.the_send) depth 30
