use Rattle.std.proofs.Common.{arith}
use Rattle.device_state.proofs.Told.{piece_found, piece_bytes, piece_fault}
use Rattle.device_state.proofs.pieces.get_piece.Goals as goal

pub returns-in-Ok-clause-answer : goal.returns-in-Ok-clause-answer
returns-in-Ok-clause-answer g c = λ file is. piece_found _ file _ _ c.take.new.buf is _ c.in-Ok.ensures.at c.in-Ok.ensures.answer

pub returns-in-Ok-clause-bytes : goal.returns-in-Ok-clause-bytes
returns-in-Ok-clause-bytes g c = λ file is. piece_bytes _ file _ _ c.take.new.buf is _ c.in-Ok.ensures.at (λ i. omega (arith, c.type_inv.buf i)) c.in-Ok.ensures.answer

pub returns-in-Err-clause-answer : goal.returns-in-Err-clause-answer
returns-in-Err-clause-answer g c = λ file is. piece_fault _ file _ _ c.take.new.buf is c.in-Err.fault c.in-Err.ensures.answer
