use Rattle.std.proofs.Common.{length, ◌∙◌}
use Rattle.until_rows.specs.InOrder.{in_order}
use Rattle.until_rows.proofs.OrderLemmas.{in_order_ascends, kept_in_order}
use Rattle.eval_until.proofs.WideLemmas.{each_wide}
use Rattle.eval_until.proofs.ahead.Ahead.kept_starts.Goals as goal

pub returns-clause-starts : goal.returns-clause-starts
returns-clause-starts c = rw (← c.self.view_is) (
    c.in_ok-kept.ensures.starts ∙ c.in_ok-starts.ensures.same)

pub returns-clause-wide : goal.returns-clause-wide
returns-clause-wide c = rw (← c.self.view_is) (
    let starts = c.self.inside.contents.starts in
    each_wide (length c.self.inside.left.items) (in_order starts) (in_order_ascends starts)
    (λ w other. kept_in_order starts w ∙ c.self.invariant.wide w other))

pub returns-clause-ascend : goal.returns-clause-ascend
returns-clause-ascend c = rw (← c.self.view_is) (in_order_ascends c.self.inside.contents.starts)
