use Rattle.std.proofs.Common.{map, sym, ◌∙◌, drop}
use Rattle.std.proofs.lemmas.Result.{IfOk-weaker}
use Rattle.mfotl_model.specs.Tables.{part, valuation}
use Rattle.eval_since.proofs.FollowsLemmas.{next_is}
use Rattle.eval_since.proofs.since.SinceState.holds.Goals as goal

pub returns : goal.returns
unfolding part
returns c = rw (← c.self.view_is) (
    let s = c.self.inside in
    let own = sym (c.in_ok-own.ensures ∙ (λ i. map (valuation c.args.columns.now (c.values.ensures i))
    (c.right.ensures.right i))) in
    IfOk-weaker c.is_next.result _ _ (λ yes e t a b f. e
    ∙ next_is (rw own at f) c.first_pushed-now.result.now (drop 1 s.times.items) c.first_pushed-left.result.now
    c.first_pushed-right.result.now (drop 1 s.lefts.items) (drop 1 s.rights.items) c.first_pushed-now.ensures
    c.first_pushed-left.ensures c.first_pushed-right.ensures c.self.invariant.climbs) c.is_next.ensures)
