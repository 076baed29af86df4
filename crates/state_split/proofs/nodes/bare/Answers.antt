use Rattle.monitor_state.specs.declared.state.NodeData.TheVariants.{Bare}
use Rattle.state_split.proofs.ShareLemmas.{each_next}
use Rattle.state_split.proofs.nodes.bare.Goals as goal

pub loop-preserved : goal.loop-preserved
loop-preserved g c =
    each_next _ _ c.loop.cuts.items c.push.new.self.items Bare c.in_ok-push.ensures.items c.loop.invariant (λ fits. tt)
