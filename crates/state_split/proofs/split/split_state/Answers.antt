use Rattle.monitor_state.specs.{MonitorView.monitor_of, Nodes.nodes_of, StateTimes.times_of}
use Rattle.state_split.proofs.{CutLaw.splits_stand, FitLemmas.nodes_fit, ShareLemmas.stand_weaker}
use Rattle.state_split.proofs.split.split_state.Goals as goal

pub returns-clause-numbers : goal.returns-clause-numbers
returns-clause-numbers g c =
    stand_weaker _ _ 0 c.in_ok-pieces.pieces.items (λ to piece is. is.0) c.in_ok-pieces.ensures.each

pub returns-clause-cuts : goal.returns-clause-cuts
returns-clause-cuts g c =
    let state = c.in_ok-state.state in
    record {
      state = state;
      kept = record { rule = c.in_ok-state.ensures.rule; stands = c.in_ok-state.ensures.stands };
      cut = λ rule. stand_weaker _ _ 0 c.in_ok-pieces.pieces.items (λ to piece is. is.1
          (nodes_fit (times_of state) (nodes_of (monitor_of c.args.monitor.now).core) state.nodes.items rule))
          c.in_ok-pieces.ensures.each;
    }

pub returns-clause-stands : goal.returns-clause-stands
returns-clause-stands g c log first second stands =
    let core = (monitor_of c.args.monitor.now).core in
    let near = g.S.Slicer.region c.args.strategy.now c.args.from in
    splits_stand (monitor_of c.args.monitor.now) near (g.S2.Slicer.region c.args.next.now) log
    c.in_ok-pieces.pieces.items (g.met.S.Slicer.passes c.args.strategy.now _ c.args.from first)
    (λ k. g.met.S2.Slicer.passes c.args.next.now _ k second) (returns-clause-cuts g c) stands
