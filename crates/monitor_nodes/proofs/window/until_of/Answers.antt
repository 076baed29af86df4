use Rattle.monitor_nodes.proofs.LookupLemmas.{until_finds}
use Rattle.monitor_nodes.proofs.window.until_of.Goals as goal

pub returns-clause-finds : goal.returns-clause-finds
returns-clause-finds c =
    until_finds c.args.state.now c.args.keys.now c.in_ok-found.found c.in_ok-found.ensures.columns
    c.in_ok-found.ensures.rows
