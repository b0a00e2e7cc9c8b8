use Rattle.std.proofs.Common.{◌*◌}
use Rattle.ram_block.specs.declared.page_buf.TheConstants.{PAGE}
use Rattle.flat_machine.proofs.Padded.{part_between}
use Rattle.flat_machine.proofs.boot.part_of.Goals as goal

pub returns-clause-part : goal.returns-clause-part
returns-clause-part c = part_between c.args.image.now (PAGE * c.args.p) PAGE _ _ c.min-start.ensures c.min-end.ensures
