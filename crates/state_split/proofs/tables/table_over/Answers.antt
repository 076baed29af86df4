use Rattle.std.proofs.Common.{◌∙◌}
use Rattle.state_split.proofs.SieveLemmas.{table_of_rows}
use Rattle.state_split.proofs.tables.table_over.Goals as goal

pub returns : goal.returns
returns c =
    table_of_rows c.args.columns.now c.args.rows.items c.requires.sorted c.from_rows.result
    (c.from_rows.ensures.columns ∙ c.in_ok-columns.ensures.ok) c.from_rows.ensures.rows
