use Rattle.std.proofs.Common.{◌&&◌, map, refl, sym, ap, ap₂, ◌∙◌}
use Rattle.mfotl_model.specs.Tables.{has_row}
use Rattle.relations.proofs.OperationLaws.{part_of_own}
use Rattle.eval_since.proofs.FollowsLemmas.{right_of, table_is}
use Rattle.eval_since.proofs.since.SinceState.table_of.Goals as goal

pub returns-clause-rows : goal.returns-clause-rows
returns-clause-rows c =
    let inside = rw (← c.self.view_is) at c.requires.inside in
    rw (← c.self.view_is) (
    let s = c.self.inside in
    λ t a b v f some. sym (right_of c.in_ok-table.table s.window.right v c.in_ok-table.ensures.columns)
    ∙ c.in_ok-table.ensures.rows (map v s.window.right)
    ∙ ap₂ (λ d e. d && e) (table_is f some)
    (ap (has_row c.args.keys.now.rows) (part_of_own v s.window.right c.args.keys.now.columns inside)
    ∙ right_of c.args.keys.now c.args.keys.now.columns v refl))
