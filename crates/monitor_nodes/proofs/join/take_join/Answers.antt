use Rattle.std.proofs.Common.{arith}
use Rattle.monitor_nodes.proofs.{JoinLemmas.fed_length, OrderingLemmas.ok_both}
use Rattle.monitor_nodes.proofs.join.take_join.Goals as goal

pub pulled-requires : goal.pulled-requires
pulled-requires c =
    rw c.in_ok-push_children.ensures (omega (arith, fed_length c.args.state.now.children c.args.lists.items))

pub returns : goal.returns
returns c =
    ok_both c.pulled.result _ _ _
    (λ tables pulls ends. record { pulls = rw c.in_ok-push_children.ensures at pulls; ends = ends })
    c.pulled.ensures.pulled c.pulled.ensures.ends
