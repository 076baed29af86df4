use Rattle.eval_since.proofs.DataLemmas.{newest_is}
use Rattle.eval_since.proofs.latest_time.latest.Goals as goal

pub returns-in-Some : goal.returns-in-Some
returns-in-Some c = newest_is c.args.last c.args.times.now c.in-Some.time.now c.in-Some.ensures.value
