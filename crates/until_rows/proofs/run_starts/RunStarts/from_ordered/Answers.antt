use Rattle.until_rows.proofs.OrderLemmas.{hashed_is}
use Rattle.until_rows.proofs.run_starts.RunStarts.from_ordered.Goals as goal

pub returns-clause-same : goal.returns-clause-same
returns-clause-same c =
    hashed_is c.args.starts.entries c.in_ok-map.map c.in_ok-map.ensures.ascend c.in_ok-map.ensures.found
