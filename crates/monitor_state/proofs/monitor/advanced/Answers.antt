use Rattle.std.proofs.Common.{◌≡◌, [], ◌∷◌, ◌++◌, ◌+◌, List, subst, sym, ap, ◌∙◌}
use Rattle.std.proofs.lemmas.List.{length_push, nil_from_length, with_items_is}
use Rattle.std.proofs.lemmas.Result.{IfOk-weaker}
use Rattle.std.specs.Vec.{with_items}
use Rattle.monitor_state.proofs.MonitorSteps.{going_begins, going_ends, going_somewhere}
use Rattle.monitor_nodes.specs.{Steps.TakesPoint, Steps.longer}
use Rattle.monitor_state.specs.{Going.AllAdvance, Going.Going, Nodes.nodes_of, Stands.NodesStand}
use Rattle.monitor_nodes.specs.declared.node.Node.{Node}
use Rattle.monitor_state.proofs.monitor.advanced.Goals as goal

pub returns-in_ok-advance_before-in-Some : goal.returns-in_ok-advance_before-in-Some
returns-in_ok-advance_before-in-Some c =
    let new : List Node = c.advance_before.new.nodes ++ c.advance.new.self ∷ [] in
    let apart : c.args.nodes.now.items ≡ c.in-Some.before.now ++ c.in-Some.last.now ∷ [] =
    sym c.deref_mut.ensures.value ∙ c.in-Some.ensures.cases.0 in
    let items : (with_items c.args.nodes.now new).items ≡ new =
    with_items_is c.args.nodes.now new
    (length_push c.advance_before.new.nodes c.advance.new.self ∙ ap (λ n. n + 1) c.advance_before.auto.nodes
    ∙ c.in-Some.ensures.cases.1 ∙ c.deref_mut.ensures.len) in
    IfOk-weaker c.advance.result
    (TakesPoint c.in-Some.last.now c.args.point.now c.advance_before.new.stack.items c.advance.new.self
    c.advance.new.stack.items)
    (AllAdvance c.args.nodes.now.items c.args.point.now (with_items c.args.nodes.now new).items)
    (λ tables takes view point core premises stand.
    let begins = going_begins view point c.args.point.now core c.args.nodes.now.items premises stand in
    let goes = c.in_ok-advance_before-in-Some.ensures view point core (c.in-Some.last.now ∷ [])
    (subst (λ xs. Going view point c.args.point.now core [] xs c.clear.new.self.items) apart
    (subst (Going view point c.args.point.now core [] c.args.nodes.now.items) (sym c.clear.ensures.items) begins)) in
    let ends = going_ends view point c.args.point.now core c.advance_before.new.nodes c.in-Some.last.now
    c.advance.new.self c.advance_before.new.stack.items c.advance.new.stack.items tables goes takes in
    (subst (NodesStand (longer view point) (nodes_of core)) (sym items) ends.0, ends.1))
    c.advance.ensures

pub returns-in-None : goal.returns-in-None
returns-in-None c view point core premises stand =
    let none : c.args.nodes.now.items ≡ [] =
    sym c.deref_mut.ensures.value ∙ nil_from_length c.deref_mut.result.now c.in-None.ensures.cases in
    absurd (going_somewhere view point c.args.point.now core
    (going_begins view point c.args.point.now core [] premises
    (subst (NodesStand view (nodes_of core)) none stand)))
