use Rattle.std.proofs.Common.{sym, ◌∙◌}
use Rattle.row_times.proofs.TimesLemmas.{added_yes, added_no}
use Rattle.row_times.proofs.times.Times.add.Goals as goal

pub returns-in_ok-push_back : goal.returns-in_ok-push_back
returns-in_ok-push_back c =
    rw (← c.self.view_is) (c.in_ok-push_back.ensures.items
    ∙ added_yes c.args.bounded c.self.inside.list c.args.x (sym c.is_new.ensures ∙ c.if-is_new.true))

pub returns-else-is_new : goal.returns-else-is_new
returns-else-is_new c =
    rw (← c.self.view_is) (added_no c.args.bounded c.self.inside.list c.args.x (sym c.is_new.ensures
    ∙ c.if-is_new.false))
