use Rattle.std.proofs.Common.{◌≡◌, ap, arith, length}
use Rattle.monitor_nodes.proofs.JoinLemmas.{join_fewer, join_pulled_more, join_pulled_none}
use Rattle.monitor_nodes.proofs.join.pulled.Goals as goal

pub loop-tables-init : goal.loop-tables-init
loop-tables-init c = record {
  some = c.requires;
  pulled = rw c.new-tables.ensures (join_pulled_none c.args.state.now);
}

pub pull-requires : goal.pull-requires
pull-requires c = record {
  few = λ none. let size : length c.loop-tables.state.children ≡ 0 = ap length none in
      let some = c.loop-tables.invariant.some in
      absurd (omega arith);
}

pub loop-tables-smaller : goal.loop-tables-smaller
loop-tables-smaller c =
    let pulled = rw c.in-Some.is at c.in_ok-table.ensures in
    (join_fewer c.loop-tables.state c.loop-tables.invariant.some pulled.due pulled.state).0

pub loop-tables-preserved : goal.loop-tables-preserved
loop-tables-preserved c =
    let pulled = rw c.in-Some.is at c.in_ok-table.ensures in
    record {
      some = (join_fewer c.loop-tables.state c.loop-tables.invariant.some pulled.due pulled.state).1;
      pulled = join_pulled_more c.in-Some.table c.loop-tables.invariant.pulled pulled.due pulled.state
          pulled.columns pulled.rows c.in_ok-push.ensures;
    }
