use denote.Param.Send.{sendable}
use Rattle.bg_saver.proofs.saver.Saver.TheSendSync as saver
use Rattle.write_pipe.proofs.Sends.{write_end_send}
use Rattle.write_pipe.proofs.beside.run_beside.Goals as goal

pub join_mut-saved-requires-send-F : goal.join_mut-saved-requires-send-F
join_mut-saved-requires-send-F g c κs within = search (sendable, write_end_send, saver.the_send) depth 30
