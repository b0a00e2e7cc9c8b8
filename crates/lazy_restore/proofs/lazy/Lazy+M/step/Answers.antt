use Rattle.medium.specs.Members.{file_state}
use Rattle.lazy_restore.proofs.Stepped.{never_cut}
use Rattle.lazy_restore.proofs.lazy.Lazy+M.step.Goals as goal

pub returns-clause-whole : goal.returns-clause-whole
returns-clause-whole g c =
    never_cut (file_state g.M.Readable c.args.self.now.medium.now) (file_state g.M.Readable c.step.new.medium) c.args.self.now.held c.step.new.self c.args.k c.step.result c.step.ensures.step c.step.ensures.limits
