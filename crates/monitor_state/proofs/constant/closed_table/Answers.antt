use Rattle.monitor_state.proofs.ConstantLemmas.{closed_is, closed_left, closed_right}
use Rattle.monitor_state.proofs.constant.closed_table.Goals as goal

pub selected-requires : goal.selected-requires
selected-requires c =
    record {
      left = closed_left c.args.comparison.now c.in_ok-table.table.columns c.requires;
      right = closed_right c.args.comparison.now c.in_ok-table.table.columns c.requires;
    }

pub returns : goal.returns
returns c =
    closed_is c.args.comparison.now c.in_ok-table.table c.selected.result c.requires c.in_ok-table.ensures.columns
    c.selected.ensures.columns c.in_ok-table.ensures.has c.selected.ensures.has
