use Rattle.until_rows.proofs.StartLemmas.{one_differs}
use Rattle.until_rows.proofs.run_starts.one_start.Goals as goal

pub returns-clause-differ : goal.returns-clause-differ
returns-clause-differ c = one_differs c.args.row.now c.args.start
