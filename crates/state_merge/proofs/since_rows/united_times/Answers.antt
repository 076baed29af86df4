use Rattle.row_times.specs.declared.kept_row.KeptRow.{KeptRow}
use Rattle.state_merge.proofs.PairLemmas.{rows_united}
use Rattle.state_merge.proofs.since_rows.united_times.Goals as goal

pub returns : goal.returns
returns c =
    rows_united (λ (k : KeptRow). k.row) (λ (k : KeptRow). k.times.items) _ c.args.first.items c.args.second.items
    c.in_ok-rows.rows.items c.requires.first c.requires.second c.in_ok-rows.ensures
