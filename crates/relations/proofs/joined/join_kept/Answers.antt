use Rattle.mfotl_model.proofs.ColumnLemmas.{joined_apart}
use Rattle.relations.proofs.joined.join_kept.Goals as goal

pub from_rows-requires-clause-apart : goal.from_rows-requires-clause-apart
from_rows-requires-clause-apart g c =
    rw (c.in_ok-columns.ensures, c.columns.ensures.columns, c.columns-2.ensures.columns)
    (joined_apart c.args.first.now.columns c.args.second.now.columns
    c.columns.ensures.apart c.columns-2.ensures.apart)

pub from_rows-requires-clause-sized : goal.from_rows-requires-clause-sized
from_rows-requires-clause-sized g c =
    rw (c.in_ok-columns.ensures, c.columns.ensures.columns, c.columns-2.ensures.columns) c.in_ok-rows.ensures.sized
