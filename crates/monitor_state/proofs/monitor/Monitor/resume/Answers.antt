use Rattle.std.proofs.Common.{◌-◌, [], subst, refl, sym, ap, ◌∙◌}
use Rattle.monitorable.specs.{Cores.core_form, Fragment.fault_in}
use Rattle.monitorable.specs.declared.role.Role.TheVariants as role
use Rattle.monitor_state.proofs.ResumeState.{all_match, empty_view, fresh_stand, state_resumed, times_are}
use Rattle.monitor_state.specs.{Beginnings.Adds, Nodes.nodes_of, Resuming.AllMatch, Resuming.NodesResumed}
use Rattle.monitor_state.specs.{StateTimes.times_of}
use Rattle.monitor_state.proofs.monitor.Monitor.resume.Goals as goal

pub begun_nodes-requires : goal.begun_nodes-requires
begun_nodes-requires c =
    ((λ y. []), ap (λ f. fault_in (λ y. []) role.Whole f) c.root.ensures ∙ c.args.core.in_fragment (λ y. []))

pub nodes_resumed-requires : goal.nodes_resumed-requires
nodes_resumed-requires c =
    let core = core_form c.args.core in
    let fresh = c.in_ok-fresh.fresh.items in
    let kept = c.args.state in
    let same = times_are kept c.saturating_sub-first.result c.as_slice.result.now
    (c.saturating_sub-first.ensures ∙ ap (λ n. kept.taken - n) (c.len.ensures ∙ kept.times.ok.0))
    c.as_slice.ensures.value in
    subst (λ k. AllMatch k fresh kept.nodes.items) same
    (all_match (empty_view core) (times_of kept) (nodes_of core) fresh kept.nodes.items
    (fresh_stand core fresh
    (subst (λ f. Adds (nodes_of f) [] fresh) c.root.ensures c.in_ok-fresh.ensures))
    c.requires.rule)

pub returns-clause-first : goal.returns-clause-first
returns-clause-first c =
    let kept = c.args.state in
    c.saturating_sub-first.ensures ∙ ap (λ n. kept.taken - n) (c.len.ensures ∙ kept.times.ok.0)

pub returns-clause-stands : goal.returns-clause-stands
returns-clause-stands c view suits stands =
    let core = core_form c.args.core in
    let fresh = c.in_ok-fresh.fresh.items in
    let kept = c.args.state in
    let made = c.in_ok-nodes.nodes.items in
    let same = times_are kept c.saturating_sub-first.result c.as_slice.result.now
    (c.saturating_sub-first.ensures ∙ ap (λ n. kept.taken - n) (c.len.ensures ∙ kept.times.ok.0))
    c.as_slice.ensures.value in
    state_resumed core kept fresh
    (record {
      taken = kept.taken;
      given = kept.given;
      first = c.saturating_sub-first.result;
      times = c.from_vec.result.items;
      nodes = made;
    })
    (fresh_stand core fresh
    (subst (λ f. Adds (nodes_of f) [] fresh) c.root.ensures c.in_ok-fresh.ensures))
    c.requires.rule
    (subst (λ k. NodesResumed k fresh kept.nodes.items made) (sym same) c.in_ok-nodes.ensures)
    refl refl (c.saturating_sub-first.ensures ∙ ap (λ n. kept.taken - n) (c.len.ensures ∙ kept.times.ok.0))
    c.from_vec.ensures.items view suits stands
