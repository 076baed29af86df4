use Rattle.std.proofs.Common.{◌≡◌}
use Rattle.monitor_nodes.proofs.OrderingLemmas.{ok_both}
use Rattle.monitor_nodes.specs.OrFeeding.{or_fed}
use Rattle.monitor_nodes.proofs.or.take_or.Goals as goal

pub returns : goal.returns
returns c =
    let fed : c.push_operand-2.new.state ≡ or_fed c.args.state.now c.args.left c.args.right =
    rw (c.in_ok-push_operand-2.ensures, c.in_ok-push_operand.ensures) in
    ok_both c.pulled.result _ _ _ (λ tables pulls ends. record { pulls = rw fed at pulls; ends = ends })
    c.pulled.ensures.pulled c.pulled.ensures.ends
