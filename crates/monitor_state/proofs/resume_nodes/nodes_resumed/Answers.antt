use Rattle.std.proofs.Common.{◌≡◌, [], ◌∷◌, subst, subst₂, sym, ◌∙◌}
use Rattle.std.proofs.lemmas.List.{nil_from_length}
use Rattle.monitor_state.proofs.ResumeState.{GoesBehind, nodes_done, nodes_on}
use Rattle.monitor_state.specs.Resuming.{AllMatch}
use Rattle.monitor_state.proofs.resume_nodes.nodes_resumed.Goals as goal

pub push_resumed-requires : goal.push_resumed-requires
push_resumed-requires c =
    let first : c.loop-node.node-iterator.rest.items ≡ c.in-Some.node ∷ c.next.new.self.rest.items =
    c.in-Some.ensures.steps.0 in
    (subst₂ (AllMatch c.args.times.now) first c.in-Some-next.ensures.items c.loop-node.invariant.match).0

pub loop-node-preserved : goal.loop-node-preserved
loop-node-preserved c =
    let k = c.args.times.now in
    let fresh = c.args.fresh.items in
    let kept = c.args.kept.items in
    let rest = c.next.new.self.rest.items in
    let left = c.next-in-loop-node.new.self.rest.items in
    let made = c.loop-node.nodes.items in
    let first : c.loop-node.node-iterator.rest.items ≡ c.in-Some.node ∷ rest = c.in-Some.ensures.steps.0 in
    let second : c.loop-node.left.rest.items ≡ c.in-Some-next.data ∷ left = c.in-Some-next.ensures.items in
    let pushed = c.in_ok-push_resumed.ensures in
    let behind = subst₂ (λ os ds. GoesBehind k fresh kept os ds made) first second c.loop-node.invariant.behind in
    record {
      match = (subst₂ (AllMatch k) first second c.loop-node.invariant.match).1;
      behind =
          subst (GoesBehind k fresh kept rest left) (sym pushed.2)
          (nodes_on k fresh kept rest left made c.in-Some.node c.in-Some-next.data pushed.0 pushed.1 behind);
    }

pub returns : goal.returns
returns c =
    let rest = c.loop-node.node-iterator.rest in
    let none : rest.items ≡ [] = nil_from_length rest.items (sym rest.ok.0 ∙ c.in-None.ensures.steps.0) in
    nodes_done c.args.times.now c.args.fresh.items c.args.kept.items rest.items c.loop-node.left.rest.items
    c.loop-node.nodes.items none c.loop-node.invariant.match c.loop-node.invariant.behind
