use Rattle.rv64i_decode.proofs.Rows.{Row-IsDecoded, IsValid-IsDecoded}
use Rattle.rv64i_decode.proofs.decoder.decode.Goals as goal

pub returns-clause-table : goal.returns-clause-table
returns-clause-table c = Row-IsDecoded _ _ _ c.of_word.ensures.sum c.decode_fields.ensures.row

pub returns-clause-valid : goal.returns-clause-valid
returns-clause-valid c = IsValid-IsDecoded _ _ c.of_word.ensures.sum.in_range c.decode_fields.ensures.row
