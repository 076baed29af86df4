-- What a node keeps is of the node's own kind.
use Rattle.std.proofs.Common.{◌≡◌, refl}
use Rattle.std.specs.Global.{Vec}
use Rattle.mfotl_model.specs.{Tables.TableOf}
use Rattle.eval_bool.specs.JoinView.{JoinOf}
use Rattle.eval_bool.specs.declared.recalled.JoinData.{JoinData}
use Rattle.monitorable.specs.CoreForms.{CoreForm, Not, And}
use Rattle.monitor_nodes.specs.Stands.{IsNodeFor}
use Rattle.monitor_nodes.specs.declared.{filter.FilterState.FilterState}
use Rattle.monitor_nodes.specs.declared.node.Node.TheVariants as node
use Rattle.monitor_state.proofs.OperandLemmas.{bare_filters, bare_joins, filters_alone}
use Rattle.monitor_state.specs.{StateRules.NodeKeeps, StateTimes.KeptTimes}
use Rattle.monitor_state.specs.declared.{state.NodeData.NodeData, state.WindowData.WindowData}
use Rattle.monitor_state.specs.declared.state.NodeData.TheVariants as kept

pub join_kept : (k : KeptTimes) (s : JoinOf) (f : CoreForm) (d : NodeData) → IsNodeFor f (node.Join s)
    → NodeKeeps k f d → (own : JoinData) × (d ≡ kept.Join own)
join_kept k s (Not f) (kept.Join own) is keeps = (own, refl)
join_kept k s (Not f) kept.Bare is keeps = absurd (bare_joins (Not f) is.some is.whole keeps)
join_kept k s (And f g) (kept.Join own) is keeps = (own, refl)
join_kept k s (And f g) kept.Bare is keeps = absurd (bare_joins (And f g) is.some is.whole keeps)
join_kept k s (And f g) (kept.Filter tables w) is keeps = absurd (filters_alone f g keeps.0 is.whole)
join_kept k s f d is keeps = absurd assumption

pub filter_kept : (k : KeptTimes) (s : FilterState) (f : CoreForm) (d : NodeData) → IsNodeFor f (node.Filter s)
    → NodeKeeps k f d → (tables : Vec TableOf) × (w : WindowData) × (d ≡ kept.Filter tables w)
filter_kept k s (And f g) (kept.Filter tables w) is keeps = (tables, w, refl)
filter_kept k s (And f g) kept.Bare is keeps = absurd (bare_filters f g is.only keeps)
filter_kept k s (And f g) (kept.Join own) is keeps = absurd (filters_alone f g is.only keeps.whole)
filter_kept k s f d is keeps = absurd assumption
