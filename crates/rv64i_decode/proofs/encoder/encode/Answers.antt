use Rattle.rv64i_decode.proofs.OneEncoding.{one_encoding}
use Rattle.rv64i_decode.proofs.encoder.encode.Goals as goal

pub returns-clause-only : goal.returns-clause-only
returns-clause-only c = λ word row. one_encoding c.args.instr.now _ _ row (record { fields = c.fields_of.result; word = c.word.ensures; row = c.fields_of.ensures.row })
