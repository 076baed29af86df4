use Rattle.std.proofs.Common.{◌∙◌}
use Rattle.relations.proofs.RowLists.{searched_row}
use Rattle.relations.proofs.rows.has_row.Goals as goal

pub returns : goal.returns
returns c =
    c.is_ok.ensures.value ∙ searched_row c.args.rows.now c.args.row.now c.binary_search.result c.requires.sorted
    c.binary_search.ensures.bound c.binary_search.ensures.position
