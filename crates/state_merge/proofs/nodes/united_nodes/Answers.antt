use Rattle.std.proofs.Common.{◌≡◌, [], sym, ◌∙◌, append-nil}
use Rattle.std.proofs.lemmas.List.{nil_from_length}
use Rattle.state_merge.proofs.EndLemmas.{nodes_end}
use Rattle.state_merge.proofs.nodes.united_nodes.Goals as goal

pub returns : goal.returns
returns c =
    let rest = c.loop-node.node-iterator.rest in
    let none : rest.items ≡ [] = nil_from_length rest.items (sym rest.ok.0 ∙ c.in-None.ensures.steps.0) in
    let inv = rw none at c.loop-node.invariant in
    rw append-nil at (inv.done [] (nodes_end c.loop-node.others.rest.items inv.alike))
