use Rattle.std.proofs.Common.{subst, sym}
use Rattle.std.specs.Prelude.{IfOk}
use Rattle.monitorable.specs.CoreForms.{node_form}
use Rattle.monitorable.specs.declared.role.Role.TheVariants as role
use Rattle.monitor_state.proofs.FilterBegins.{operand_accepted}
use Rattle.monitor_state.specs.Beginnings.{Accepted, WindowBegun}
use Rattle.monitor_state.proofs.begin_filter.asked_window.Goals as goal

pub begun_window-requires-clause-accepted : goal.begun_window-requires-clause-accepted
begun_window-requires-clause-accepted c =
    subst (Accepted role.Part) (sym (c.without_not.ensures.operand c.requires.window))
    (operand_accepted (node_form c.args.right.now) c.requires.window c.requires.accepted)

pub returns : goal.returns
returns c =
    subst (λ f. IfOk c.begun_window.result (WindowBegun f)) (c.without_not.ensures.operand c.requires.window)
    c.begun_window.ensures
