use Rattle.std.proofs.Common.{List, sym, subst}
use Rattle.page_cell.specs.declared.cell.Cell.{Cell}
use Rattle.bus_rule.specs.Ended.{Ended}
use Rattle.bus_rule.proofs.Ends.{ends}
use Rattle.bus_rule.proofs.bus.Bus.close.Goals as goal

pub returns : goal.returns
returns c b joined =
    let key = c.args.self.table.shared.key in
    let whole = ends key.instant.value key.run key.protect c.args.seat.id c.args.seat.me.0 b _ _ c.close_with.ensures.values.2 joined in
    subst (λ (cells : List Cell). Ended key.instant.value key.run key.protect b cells) (sym c.empty_into.ensures) whole
