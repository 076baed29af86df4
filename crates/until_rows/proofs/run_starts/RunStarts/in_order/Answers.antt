use Rattle.until_rows.proofs.OrderLemmas.{ordered_is}
use Rattle.until_rows.proofs.run_starts.RunStarts.in_order.Goals as goal

pub returns-clause-same : goal.returns-clause-same
returns-clause-same c =
    ordered_is c.args.self.now c.in_ok-map.map.entries c.in_ok-map.ensures.differ c.in_ok-map.ensures.ascend
    c.in_ok-map.ensures.found
