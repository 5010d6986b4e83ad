use Rattle.row_table.specs.Order.{layouts}
use Rattle.row_table.proofs.Listed.{number-within, layout-at}
use Rattle.row_table.proofs.layouts.layout.Goals as goal

pub bounds-operands : goal.bounds-operands
unfolding layouts
bounds-operands c = number-within c.args.operands

pub returns : goal.returns
unfolding layouts
returns c = layout-at c.args.operands _
