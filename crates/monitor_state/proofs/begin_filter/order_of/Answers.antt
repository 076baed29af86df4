use Rattle.std.proofs.Common.{sym, ap, ◌∙◌}
use Rattle.mfotl_model.specs.FreeVariables.{fv}
use Rattle.monitorable.specs.CoreForms.{meaning, node_form}
use Rattle.monitor_state.proofs.FilterBegins.{keyed_plain}
use Rattle.monitor_state.proofs.begin_filter.order_of.Goals as goal

pub returns : goal.returns
returns c = (
  keyed_plain (node_form c.args.left.now) (node_form c.args.right.now) c.requires.only
      (sym c.in_ok-adds_none.ensures ∙ c.if-branch.false),
  c.in_ok-order.ensures ∙ ap (λ k. fv (meaning k)) c.requires.sides,
)
