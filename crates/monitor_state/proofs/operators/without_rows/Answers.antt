use Rattle.std.proofs.Common.{ap, ◌∙◌}
use Rattle.mfotl_model.specs.Tables.{all_apart}
use Rattle.monitorable.proofs.FreeVariableLemmas.{fv_apart}
use Rattle.monitorable.specs.CoreForms.{meaning, node_form}
use Rattle.monitor_state.proofs.operators.without_rows.Goals as goal

pub empty-requires : goal.empty-requires
empty-requires c = record {
  apart = ap all_apart (c.from_vec.ensures.items ∙ c.in_ok-columns.ensures)
      ∙ fv_apart (meaning (node_form c.args.core.now));
}

pub returns : goal.returns
returns c = c.empty.ensures.columns ∙ c.from_vec.ensures.items ∙ c.in_ok-columns.ensures
