use Rattle.std.proofs.Common.{◌∙◌}
use Rattle.row_times.proofs.ForgetLemmas.{none_lost}
use Rattle.row_times.proofs.groups.Groups.forget.Goals as goal

pub returns-then-forget_in-clause-times : goal.returns-then-forget_in-clause-times
returns-then-forget_in-clause-times c = rw (← c.self.view_is) (λ q v.
    none_lost c.args.key q v c.forget_in.new.groups.entries c.drop_group.new.groups.entries
    (c.forget_in.ensures.empty c.if-forget_in.true) (c.drop_group.ensures q) ∙ c.forget_in.ensures.times q v)
