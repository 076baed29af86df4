use Rattle.std.proofs.Common.{◌+◌, ◌++◌, ◌∷◌, [], drop, refl, ap, ◌∙◌}
use Rattle.monitorable.specs.Cores.{core_form}
use Rattle.monitor_state.proofs.StepLemmas.{saturated, steps}
use Rattle.monitor_state.specs.MonitorView.{monitor_of}
use Rattle.monitor_state.proofs.monitor.Monitor.step.Goals as goal

pub returns-clause-steps : goal.returns-clause-steps
returns-clause-steps c view point premises stands =
    steps (core_form c.args.self.now.core) (monitor_of c.args.self.now).state
    (record {
      taken = c.args.self.now.taken + 1;
      given = c.saturating_add-self.result;
      first = c.args.self.now.given;
      times = c.keep_time.new.times.items;
      nodes = c.advanced.new.nodes.items;
    })
    c.args.point.now c.in_ok-tables.tables c.in_ok-tables.ensures c.requires refl
    (saturated c.args.self.now.given c.len.result c.saturating_add-self.result c.in_ok-tables.tables c.len.ensures
    c.saturating_add-self.ensures)
    refl
    (c.in_ok-keep_time.ensures
    ∙ ap (λ n. drop n c.args.self.now.times.items ++ c.args.point.now.ts ∷ []) c.saturating_sub-past.ensures)
    view point premises stands
