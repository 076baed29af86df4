use Rattle.monitor_main.proofs.DemoTexts.{demo_answered, demo_divided, demo_run}
use Rattle.monitor_main.proofs.demo_laws.demo_is_answered.Goals as goal

pub returns-clause-divided : goal.returns-clause-divided
returns-clause-divided c = demo_divided

pub returns-clause-answered : goal.returns-clause-answered
returns-clause-answered c = demo_answered

pub returns-clause-run : goal.returns-clause-run
returns-clause-run c = demo_run
