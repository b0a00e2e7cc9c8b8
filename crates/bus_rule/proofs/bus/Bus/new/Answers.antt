use Rattle.bus_rule.proofs.Ends.{opens}
use Rattle.bus_rule.proofs.bus.Bus.new.Goals as goal

pub new-requires : goal.new-requires
new-requires c = opens _ _ _ _ _ c.requires
