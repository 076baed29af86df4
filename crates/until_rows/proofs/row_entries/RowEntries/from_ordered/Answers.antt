use Rattle.until_rows.proofs.OrderLemmas.{hashed_is}
use Rattle.until_rows.proofs.row_entries.RowEntries.from_ordered.Goals as goal

pub returns-clause-same : goal.returns-clause-same
returns-clause-same c =
    hashed_is c.args.rows.entries c.in_ok-rows.rows.entries c.in_ok-rows.ensures.ascend c.in_ok-rows.ensures.found
