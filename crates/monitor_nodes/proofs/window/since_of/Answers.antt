use Rattle.monitor_nodes.proofs.LookupLemmas.{since_finds}
use Rattle.monitor_nodes.proofs.window.since_of.Goals as goal

pub returns-clause-finds : goal.returns-clause-finds
returns-clause-finds c =
    since_finds c.args.state.now c.advance.new.self c.args.keys.now c.in_ok-found.found c.in_ok-advance.ensures.advances
    c.in_ok-advance.ensures.follows c.in_ok-found.ensures.columns c.in_ok-found.ensures.rows
