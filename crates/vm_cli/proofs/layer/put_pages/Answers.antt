-- The line has the number as it is written.
use Rattle.vm_cli.proofs.layer.put_pages.Goals as goal

pub returns-clause-all : goal.returns-clause-all
returns-clause-all g c = rw c.from.ensures at c.put_parts.ensures.all

pub returns-clause-some : goal.returns-clause-some
returns-clause-some g c = rw c.from.ensures at c.put_parts.ensures.some
