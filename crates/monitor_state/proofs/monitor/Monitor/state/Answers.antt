use Rattle.std.proofs.Common.{drop, refl, subst, ap, ◌∙◌}
use Rattle.monitorable.specs.Cores.{core_form}
use Rattle.monitor_state.proofs.RecordState.{state_keeps, state_recorded}
use Rattle.monitor_state.specs.{MonitorView.monitor_of, Recording.NodesRecorded, Recording.longest}
use Rattle.monitor_state.proofs.monitor.Monitor.state.Goals as goal

pub returns-clause-rule : goal.returns-clause-rule
returns-clause-rule c view stands =
    let self = c.args.self.now in
    state_keeps view (core_form self.core) (monitor_of self).state
    (record { taken = self.taken; given = self.given; times = c.in_ok-times.times; nodes = c.in_ok-nodes.nodes })
    c.in_ok-own.own.items stands refl refl
    (subst (λ ns. NodesRecorded ns c.in_ok-nodes.nodes.items) c.as_slice.ensures.value c.in_ok-nodes.ensures)
    (c.in_ok-own.ensures ∙ ap (λ n. drop n self.times.items) c.saturating_sub-past.ensures)
    (c.in_ok-times.ensures ∙ ap (λ ns. longest ns c.in_ok-own.own.items) c.as_slice-2.ensures.value)

pub returns-clause-stands : goal.returns-clause-stands
returns-clause-stands c view stands =
    let self = c.args.self.now in
    state_recorded view (core_form self.core) (monitor_of self).state
    (record { taken = self.taken; given = self.given; times = c.in_ok-times.times; nodes = c.in_ok-nodes.nodes })
    c.in_ok-own.own.items stands refl refl
    (subst (λ ns. NodesRecorded ns c.in_ok-nodes.nodes.items) c.as_slice.ensures.value c.in_ok-nodes.ensures)
    (c.in_ok-own.ensures ∙ ap (λ n. drop n self.times.items) c.saturating_sub-past.ensures)
    (c.in_ok-times.ensures ∙ ap (λ ns. longest ns c.in_ok-own.own.items) c.as_slice-2.ensures.value)
