use Rattle.std.proofs.Common.{sym, ap, ◌∙◌}
use Rattle.mfotl_model.specs.FreeVariables.{among}
use Rattle.monitorable.specs.{CoreForms.node_form, Fragment.bound_by}
use Rattle.monitorable.specs.declared.node.Node.{Node}
use Rattle.monitor_state.proofs.FilterBegins.{bound_by_left, bound_by_right}
use Rattle.monitor_state.proofs.begin_filter.+binds.Goals as goal

pub returns-then-branch : goal.returns-then-branch
returns-then-branch t c =
    let bound = λ (core : Node). among c.args.x (bound_by (node_form core)) in
    c.if-branch.true ∙ sym (ap bound c.in-And.is
    ∙ bound_by_right c.args.x (node_form c.in-And.left.value) (node_form c.in-And.right.value)
    (ap bound (sym c.deref.ensures) ∙ sym c.in_ok-binds-in-And.ensures ∙ c.if-branch.true))

pub returns-in_ok-binds-in-And-2 : goal.returns-in_ok-binds-in-And-2
returns-in_ok-binds-in-And-2 t c =
    let bound = λ (core : Node). among c.args.x (bound_by (node_form core)) in
    c.in_ok-binds-in-And-2.ensures ∙ ap bound c.deref-else-branch.ensures ∙ sym (ap bound c.in-And.is
    ∙ bound_by_left c.args.x (node_form c.in-And.left.value) (node_form c.in-And.right.value)
    (ap bound (sym c.deref.ensures) ∙ sym c.in_ok-binds-in-And.ensures ∙ c.if-branch.false))
