use Rattle.monitor_main.proofs.CommandLemmas.{demo_comes}
use Rattle.monitor_main.proofs.commands.run_demo.Goals as goal

pub returns : goal.returns
returns g c = let e = c.answer_demo.ensures in demo_comes e.comes e.fault e.later
