use Rattle.rv64i_decode.proofs.round_trip.decode_encoded.Goals as goal

pub returns : goal.returns
returns c = (c.decode.ensures.table c.args.instr.now).1 c.encode.ensures.row
