-- Which types may cross threads: the workers, what they are handed and what they give, from their parts up. A search
-- through all parts at once is too long, so each is proved once, as the field of what has it.
use denote.Param.Send.{IsSend, sendable}
use Rattle.std.proofs.Crossing.{crosses}
use Rattle.std.proofs.MapsCrossing as maps
use Rattle.mfotl_model.specs.contracts as model
use Rattle.relations.specs.contracts as relations
use Rattle.row_times.specs.contracts as kept
use Rattle.eval_since.specs.contracts as since
use Rattle.until_rows.specs.contracts as rows
use Rattle.eval_until.specs.contracts as until
use Rattle.eval_bool.specs.contracts as bool
use Rattle.monitorable.specs.contracts as monitorable
use Rattle.slice_strategy.specs.contracts as slicing
use Rattle.monitor_nodes.specs.contracts as nodes
use Rattle.monitor_state.specs.contracts as monitor
use Rattle.state_merge.specs.contracts as merge
use Rattle.monitorable.proofs.node.Node.TheLaws.TheKnot.{send-Node}

pub ruleset base = (crosses, maps.crosses, sendable)

-- ---- values, terms and time-points
pub value_send : IsSend (model.value.Value.the_field).row
value_send = search base depth 30

pub row_send : IsSend (model.row.Row.the_field).row
row_send = search (value_send, base) depth 30

pub rows_send : IsSend (model.row.RowList.the_field).row
rows_send = search (row_send, base) depth 30

pub event_send : IsSend (model.event.Event.the_field).row
event_send = search (row_send, base) depth 30

pub point_send : IsSend (model.event.TimePoint.the_field).row
point_send = search (event_send, base) depth 30

pub term_send : IsSend (model.term.Term.the_field).row
term_send = search (value_send, base) depth 30

pub atom_send : IsSend (model.term.Atom.the_field).row
atom_send = search (term_send, base) depth 30

pub comparison_send : IsSend (model.term.Comparison.the_field).row
comparison_send = search (term_send, base) depth 30

pub interval_send : IsSend (model.interval.Interval.the_field).row
interval_send = search base depth 30

pub bound_send : IsSend (model.formula.Bound.the_field).row
bound_send = search base depth 30

pub table_send : IsSend (relations.table.Table.the_field).row
table_send = search (row_send, base) depth 30

-- ---- cores and strategies
pub core_node_send : IsSend (monitorable.node.Node.the_field).row
core_node_send = search (send-Node, atom_send, comparison_send, bound_send, interval_send, base) depth 30

pub core_send : IsSend (monitorable.policy_core.Core.the_field).row
core_send = search (core_node_send, atom_send, base) depth 30

pub strategy_send : IsSend (slicing.strategy.Strategy.the_field).row
strategy_send = search base depth 30

-- ---- what operators keep
pub times_send : IsSend (kept.times.Times.the_field).row
times_send = search base depth 40

pub hashed_send : IsSend (kept.hashed.Hashed.the_field).row
hashed_send = search (row_send, times_send, base) depth 40

pub few_send : IsSend (kept.few.FewRows.the_field).row
few_send = search (row_send, times_send, base) depth 40

pub held_send : IsSend (kept.held.Held.the_field).row
held_send = search (row_send, times_send, few_send, hashed_send, base) depth 40

pub group_send : IsSend (kept.group.Group.the_field).row
group_send = search (held_send, base) depth 30

pub groups_send : IsSend (kept.groups.Groups.the_field).row
groups_send = search (row_send, group_send, base) depth 30

pub window_send : IsSend (since.window.Window.the_field).row
window_send = search (value_send, row_send, groups_send, interval_send, base) depth 30

pub since_send : IsSend (since.since.SinceState.the_field).row
since_send = search (window_send, table_send, base) depth 30

pub entries_send : IsSend (rows.entries.Entries.the_field).row
entries_send = search base depth 30

pub starts_send : IsSend (rows.run_starts.RunStarts.the_field).row
starts_send = search (row_send, base) depth 30

pub row_set_send : IsSend (rows.row_set.RowSet.the_field).row
row_set_send = search (row_send, base) depth 40

pub by_key_send : IsSend (rows.by_key.RowsByKey.the_field).row
by_key_send = search (row_send, row_set_send, base) depth 30

pub row_entries_send : IsSend (rows.row_entries.RowEntries.the_field).row
row_entries_send = search (row_send, entries_send, by_key_send, base) depth 30

pub contents_send : IsSend (until.contents.Contents.the_field).row
contents_send = search (row_send, starts_send, row_entries_send, base) depth 30

pub ahead_send : IsSend (until.ahead.Ahead.the_field).row
ahead_send = search (contents_send, interval_send, base) depth 30

pub until_send : IsSend (until.until.UntilState.the_field).row
until_send = search (ahead_send, table_send, base) depth 30

pub since_data_send : IsSend (since.recalled.SinceData.the_field).row
since_data_send = search (row_send, table_send, base) depth 30

pub until_data_send : IsSend (until.recalled.UntilData.the_field).row
until_data_send = search (row_send, table_send, base) depth 30

pub reader_send : IsSend (bool.atom.AtomReader.the_field).row
reader_send = search (row_send, atom_send, base) depth 30

pub join_send : IsSend (bool.join.JoinState.the_field).row
join_send = search (comparison_send, table_send, base) depth 40

pub or_send : IsSend (bool.or.OrState.the_field).row
or_send = search (table_send, base) depth 30

-- ---- monitors and their states
pub node_send : IsSend (nodes.node.Node.the_field).row
node_send = search (since_send, until_send, reader_send, join_send, or_send, interval_send, table_send, base) depth 30

pub monitor_send : IsSend (monitor.monitor.Monitor.the_field).row
monitor_send = search (node_send, core_send, table_send, base) depth 30

pub node_data_send : IsSend (monitor.state.NodeData.the_field).row
node_data_send = search (since_data_send, until_data_send, table_send, interval_send, base) depth 30

pub state_send : IsSend (monitor.state.State.the_field).row
state_send = search (node_data_send, base) depth 30

pub merging_send : IsSend (merge.merging.Merging.the_field).row
merging_send = search (state_send, core_send, base) depth 30
