use Rattle.std.proofs.Common.{map, sym, ◌∙◌}
use Rattle.eval_since.proofs.FollowsLemmas.{right_of, table_is}
use Rattle.eval_since.proofs.since.SinceState.table.Goals as goal

pub returns-clause-rows : goal.returns-clause-rows
returns-clause-rows c = rw (← c.self.view_is) (
    let right = c.self.inside.window.right in
    λ t a b v f some. sym (right_of c.in_ok-table.table right v c.in_ok-table.ensures.columns)
    ∙ c.in_ok-table.ensures.rows (map v right) ∙ table_is f some)
