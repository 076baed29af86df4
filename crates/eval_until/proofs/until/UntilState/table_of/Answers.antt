use Rattle.std.proofs.Common.{map, refl, sym, ap, ◌∙◌}
use Rattle.mfotl_model.specs.Tables.{has_row}
use Rattle.relations.proofs.OperationLaws.{has_as, part_of_own}
use Rattle.eval_until.specs.AheadView.{met}
use Rattle.eval_until.proofs.FollowsLemmas.{met_next}
use Rattle.eval_until.proofs.until.UntilState.table_of.Goals as goal

pub returns-clause-rows : goal.returns-clause-rows
returns-clause-rows c =
    let due = rw (← c.self.view_is) at c.requires.due in
    let all = rw (← c.self.view_is) at c.requires.all in
    let inside = rw (← c.self.view_is) at c.requires.inside in
    rw (← c.self.view_is) (
    let s = c.self.inside in
    λ t a b v f never asked.
    has_as c.in_ok-table.table s.ahead.right c.in_ok-table.table.rows v c.in_ok-table.ensures.columns refl
    ∙ c.in_ok-table.ensures.rows (map v s.ahead.right)
    (ap (has_row c.args.keys.now.rows) (part_of_own v s.ahead.right c.args.keys.now.columns inside)
    ∙ sym (has_as c.args.keys.now c.args.keys.now.columns c.args.keys.now.rows v refl refl) ∙ asked)
    ∙ ap (λ i. met s.ahead i c.first_pushed-now.result.now (map v s.ahead.right)) c.pulled.ensures
    ∙ met_next t a b v f never due all c.first_pushed-now.ensures c.self.invariant.low c.self.invariant.high)
