use Rattle.main_steps.proofs.PlanLaws.{each_change_in_order, each_just_before, each_point_once, none_behind_the_last}
use Rattle.main_steps.proofs.laws.changes_just_before.Goals as goal

pub returns-clause-points : goal.returns-clause-points
returns-clause-points c = each_point_once

pub returns-clause-order : goal.returns-clause-order
returns-clause-order c = each_change_in_order

pub returns-clause-timely : goal.returns-clause-timely
returns-clause-timely c = each_just_before

pub returns-clause-last : goal.returns-clause-last
returns-clause-last c = none_behind_the_last
