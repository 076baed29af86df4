use Rattle.std.proofs.Common.{[], ap, ap₂, ◌∙◌}
use Rattle.mfotl_model.specs.Tables.{all_among, all_apart}
use Rattle.eval_since.specs.LeftOperand.{grouping}
use Rattle.monitorable.proofs.FreeVariableLemmas.{fv_apart}
use Rattle.monitorable.specs.CoreForms.{meaning, node_form}
use Rattle.monitor_state.proofs.operators.since_state.Goals as goal

pub keyed-requires-clause-apart : goal.keyed-requires-clause-apart
keyed-requires-clause-apart c =
    ap all_apart (c.as_slice-2.ensures.value ∙ c.in_ok-right_columns.ensures)
    ∙ fv_apart (meaning (node_form c.args.right.now))

pub keyed-requires-clause-inside : goal.keyed-requires-clause-inside
keyed-requires-clause-inside c =
    ap₂ all_among (c.as_slice.ensures.value ∙ c.in_ok-left_columns.ensures) (c.as_slice-2.ensures.value
    ∙ c.in_ok-right_columns.ensures)
    ∙ c.requires

pub returns : goal.returns
returns c = record {
  keys = grouping c.as_slice.result.now c.args.keys.now;
  begun = c.in_ok-state.ensures.state
      ∙ (λ j. record {
        window = record {
          interval = c.args.interval.now;
          left = (c.as_slice.ensures.value ∙ c.in_ok-left_columns.ensures) j;
          right = (c.as_slice-2.ensures.value ∙ c.in_ok-right_columns.ensures) j;
          keys = grouping c.as_slice.result.now c.args.keys.now;
          last = 0;
          groups = [];
        };
        negated = c.is_negated.ensures j;
        pulled = 0;
        newest = 0;
        times = [];
        lefts = [];
        rights = [];
      });
  follows = c.in_ok-state.ensures.follows;
}
