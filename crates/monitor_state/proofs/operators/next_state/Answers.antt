use Rattle.std.proofs.Common.{ap, ◌∙◌}
use Rattle.mfotl_model.specs.Tables.{all_apart}
use Rattle.monitorable.proofs.FreeVariableLemmas.{fv_apart}
use Rattle.monitorable.specs.CoreForms.{meaning, node_form}
use Rattle.monitor_state.proofs.operators.next_state.Goals as goal

pub new-requires : goal.new-requires
new-requires c =
    record {
      apart = ap all_apart (c.as_slice.ensures.value ∙ c.in_ok-columns.ensures)
          ∙ fv_apart (meaning (node_form c.args.operand.now));
    }
