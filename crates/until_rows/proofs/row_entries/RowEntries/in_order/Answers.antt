use Rattle.until_rows.proofs.OrderLemmas.{ordered_is}
use Rattle.until_rows.proofs.row_entries.RowEntries.in_order.Goals as goal

pub returns-clause-same : goal.returns-clause-same
returns-clause-same c = rw (← c.self.view_is) (
    ordered_is c.self.inside.rows.entries c.in_ok-map.map.entries c.in_ok-map.ensures.differ c.in_ok-map.ensures.ascend
    c.in_ok-map.ensures.found)
