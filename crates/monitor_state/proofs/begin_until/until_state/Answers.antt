use Rattle.std.proofs.Common.{ap, ap₂, ◌∙◌}
use Rattle.mfotl_model.specs.Tables.{all_among, all_apart}
use Rattle.monitorable.proofs.FreeVariableLemmas.{fv_apart}
use Rattle.monitorable.specs.CoreForms.{meaning, node_form}
use Rattle.monitor_state.proofs.begin_until.until_state.Goals as goal

pub keyed-requires-clause-apart : goal.keyed-requires-clause-apart
keyed-requires-clause-apart c =
    ap all_apart (c.as_slice-2.ensures.value ∙ c.in_ok-right_columns.ensures)
    ∙ fv_apart (meaning (node_form c.args.right.now))

pub keyed-requires-clause-inside : goal.keyed-requires-clause-inside
keyed-requires-clause-inside c =
    ap₂ all_among (c.as_slice.ensures.value ∙ c.in_ok-left_columns.ensures) (c.as_slice-2.ensures.value
    ∙ c.in_ok-right_columns.ensures)
    ∙ c.requires
