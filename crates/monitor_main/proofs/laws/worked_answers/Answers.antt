use Rattle.std.proofs.Common.{refl}
use Rattle.std.specs.Fmt.{digits}
use Rattle.monitor_main.specs.Answer.{demo_line}
use Rattle.monitor_main.specs.FaultLines.{too_long}
use Rattle.monitor_main.specs.Refusals.{line_of, usage_line}
use Rattle.monitor_main.specs.CheckLine.{monitorable_line}
use Rattle.monitor_main.proofs.laws.worked_answers.Goals as goal

pub returns-clause-numbers : goal.returns-clause-numbers
returns-clause-numbers c = refl

pub returns-clause-verdicts : goal.returns-clause-verdicts
returns-clause-verdicts c = (refl, refl)

pub returns-clause-statuses : goal.returns-clause-statuses
returns-clause-statuses c = refl

pub returns-clause-usage : goal.returns-clause-usage
unfolding line_of usage_line
returns-clause-usage c = refl

pub returns-clause-signature : goal.returns-clause-signature
unfolding line_of too_long digits
returns-clause-signature c = search

pub returns-clause-policy : goal.returns-clause-policy
unfolding line_of too_long digits
returns-clause-policy c = search

pub returns-clause-fragment : goal.returns-clause-fragment
unfolding line_of
returns-clause-fragment c = search

pub returns-clause-strategy : goal.returns-clause-strategy
unfolding line_of too_long digits
returns-clause-strategy c = search

pub returns-clause-changes : goal.returns-clause-changes
unfolding line_of too_long digits
returns-clause-changes c = search

pub returns-clause-log : goal.returns-clause-log
unfolding line_of digits
returns-clause-log c = search

pub returns-clause-outside : goal.returns-clause-outside
unfolding line_of
returns-clause-outside c = search

pub returns-clause-columns : goal.returns-clause-columns
unfolding monitorable_line
returns-clause-columns c = refl

pub returns-clause-demo : goal.returns-clause-demo
unfolding demo_line digits
returns-clause-demo c = refl

pub returns-clause-limits : goal.returns-clause-limits
returns-clause-limits c = refl
