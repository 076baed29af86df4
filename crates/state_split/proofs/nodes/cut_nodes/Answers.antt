use Rattle.std.proofs.Common.{rules, ◌≡◌, ◌∙◌, sym, [], ◌∷◌, append_assoc, append-nil}
use Rattle.std.proofs.lemmas.List.{nil_from_length}
use Rattle.state_split.proofs.ShareLemmas.{each_copied, each_longer_by, each_weaker}
use Rattle.state_split.proofs.nodes.cut_nodes.Goals as goal

pub loop-node-init : goal.loop-node-init
loop-node-init g c =
    let same : c.into_iter-node-iterator.result.rest.items ≡ c.args.nodes.items = search rules in
    rw same (each_weaker _ _ _ c.in_ok-cuts.cuts.items (λ k share none fit. (fit, λ cs cut. rw none cut))
    (each_copied (λ s. s.items) [] _ _ c.in_ok-cuts.cuts.items c.workers.ensures.count c.in_ok-cuts.ensures))

pub loop-node-preserved : goal.loop-node-preserved
loop-node-preserved g c =
    each_longer_by (λ s. s.items) _ _ _ _ c.loop-node.cuts.items c.lengthen.new.shares.items c.in_ok-added.added.items
    (rw c.in-Some.ensures.steps.0 at c.loop-node.invariant) c.in_ok-added.ensures c.in_ok-lengthen.ensures
    (λ k old new cut so_far made more fit. let had = so_far fit in (
      had.0.1,
      λ cs rest. rw (more, append_assoc old.items (cut ∷ []) cs) (had.1 (cut ∷ cs) (made had.0.0, rest)),
    ))

pub returns : goal.returns
returns g c =
    let left = c.loop-node.node-iterator.rest in
    let none : left.items ≡ [] = nil_from_length left.items (sym left.ok.0 ∙ c.in-None.ensures.steps.0) in
    each_weaker _ _ _ c.loop-node.cuts.items (λ k share so_far fit. rw append-nil at ((so_far fit).1 [] tt))
    (rw none at c.loop-node.invariant)
