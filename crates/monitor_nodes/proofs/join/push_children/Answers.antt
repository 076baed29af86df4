use Rattle.std.proofs.Common.{arith, refl, [], ◌∷◌, length-append}
use Rattle.monitor_nodes.proofs.JoinLemmas.{fed_next, fed_nothing}
use Rattle.monitor_nodes.proofs.join.push_children.Goals as goal

pub loop-tables-init : goal.loop-tables-init
loop-tables-init c = record { number = refl; fed = rw (← fed_nothing c.args.state.now.children) }

pub loop-tables-preserved : goal.loop-tables-preserved
loop-tables-preserved c =
    record {
      number = omega (arith, c.in_ok-child.ensures, length-append c.loop-tables.yielded (c.in-Some.tables ∷ []));
      fed =
          rw (
            c.in_ok-push_child.ensures,
            c.loop-tables.invariant.fed,
            c.loop-tables.invariant.number,
            fed_next c.args.state.now.children c.loop-tables.yielded c.in-Some.tables,
          );
    }
