use Rattle.std.proofs.Common.{map, ap, ◌∙◌}
use Rattle.mfotl_model.specs.Tables.{part, valuation}
use Rattle.eval_until.specs.AheadView.{met}
use Rattle.eval_until.proofs.FollowsLemmas.{met_next}
use Rattle.eval_until.proofs.until.UntilState.holds.Goals as goal

pub returns : goal.returns
unfolding part
returns c =
    let due = rw (← c.self.view_is) at c.requires.due in
    let all = rw (← c.self.view_is) at c.requires.all in
    rw (← c.self.view_is) (
    let s = c.self.inside in
    let v = valuation c.args.columns.now c.args.row.now in
    λ t a b f never.
    c.met.ensures
    ∙ ap (λ i. met s.ahead i c.first_pushed-now.result.now c.in_ok-own.own) c.pulled.ensures
    ∙ ap (met s.ahead s.ahead.pulled c.first_pushed-now.result.now) (c.in_ok-own.ensures
    ∙ (λ i. map (valuation c.args.columns.now (c.values.ensures i)) (c.right.ensures.right i)))
    ∙ met_next t a b v f never due all c.first_pushed-now.ensures c.self.invariant.low c.self.invariant.high)
