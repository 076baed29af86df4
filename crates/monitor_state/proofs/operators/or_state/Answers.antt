use Rattle.std.proofs.Common.{ap, ap₂, ◌∙◌}
use Rattle.eval_bool.specs.OrView.{same_columns}
use Rattle.mfotl_model.specs.Tables.{all_apart}
use Rattle.monitorable.proofs.FreeVariableLemmas.{fv_apart}
use Rattle.monitorable.specs.CoreForms.{meaning, node_form}
use Rattle.monitor_state.proofs.operators.or_state.Goals as goal

pub new-requires-clause-apart : goal.new-requires-clause-apart
new-requires-clause-apart c =
    ap all_apart (c.as_slice.ensures.value ∙ c.in_ok-left_columns.ensures)
    ∙ fv_apart (meaning (node_form c.args.left.now))

pub new-requires-clause-same : goal.new-requires-clause-same
new-requires-clause-same c =
    ap₂ same_columns (c.as_slice.ensures.value ∙ c.in_ok-left_columns.ensures) (c.as_slice-2.ensures.value
    ∙ c.in_ok-right_columns.ensures)
    ∙ c.requires
