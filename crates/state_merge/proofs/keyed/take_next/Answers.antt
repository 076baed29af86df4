use Rattle.std.proofs.Common.{sym, ◌∙◌}
use Rattle.state_merge.proofs.StepLemmas.{steps_in_first, steps_in_second}
use Rattle.state_merge.proofs.keyed.take_next.Goals as goal

pub returns-in-Less-clause-step : goal.returns-in-Less-clause-step
returns-in-Less-clause-step g c =
    steps_in_first _ _ _ c.take_first.result _ c.take_first.new.list.items _ c.take_first.ensures.first
    c.take_first.ensures.none (sym c.order_of_firsts.ensures ∙ c.in-Less.is)

pub returns-in-Greater-clause-step : goal.returns-in-Greater-clause-step
returns-in-Greater-clause-step g c =
    steps_in_second _ _ _ c.take_first-in-Greater.result _ _ c.take_first-in-Greater.new.list.items
    c.take_first-in-Greater.ensures.first c.take_first-in-Greater.ensures.none
    (sym c.order_of_firsts.ensures ∙ c.in-Greater.is)
