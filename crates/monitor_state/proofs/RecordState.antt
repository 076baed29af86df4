-- What a monitor records of itself, where it stands for a log.
use Rattle.std.proofs.Common.{◌≡◌, ℕ, ◌-◌, ◌≤◌, List, length, drop, sym, ap, ◌∙◌, arith}
use Rattle.std.proofs.lemmas.List.{length-drop, length-map}
use Rattle.mfotl_model.specs.{Exact.View, Log.times}
use Rattle.monitorable.specs.CoreForms.{CoreForm}
use Rattle.monitor_nodes.proofs.{ExactLemmas.reached_within}
use Rattle.monitor_state.proofs.{MarkLemmas.dropped_behind, RecordNodes.nodes_recorded, RecordTimes.longest_is}
use Rattle.monitor_state.proofs.RecordKeeps.{earliest_least, earliest_reaches, nodes_keep}
use Rattle.monitor_state.specs.{Nodes.nodes_of, Recording.NodesRecorded, Recording.longest, Stands.StateOf}
use Rattle.monitor_state.specs.{Stands.Stands, StateRules.StateRule, StateStands.StateStands, StateTimes.earliest}
use Rattle.monitor_state.specs.{StateTimes.times_of}
use Rattle.monitor_state.specs.declared.state.State.{State}

module _ (view : View) (core : CoreForm) (old : StateOf) (kept : State) (own : List ℕ) (stands : Stands view core old)
    (taken : kept.taken ≡ old.taken) (given : kept.given ≡ old.given) (rec : NodesRecorded old.nodes kept.nodes.items)
    (own_is : own ≡ drop (old.given - old.first) old.times) (stamps : kept.times.items ≡ longest old.nodes own) where
  size : length (times view.log) ≡ length view.log
  size = length-map view.log (λ p. p.ts)

  inside : old.given ≤ length (times view.log)
  inside = omega (arith, reached_within view core, size)

  times_are : kept.times.items ≡ drop (earliest kept.given kept.nodes.items) (times view.log)
  times_are = grind (arith, longest_is, inside, dropped_behind)

  pub state_recorded : StateStands view core kept
  state_recorded = search (times_are, nodes_recorded)

  first_is : (times_of kept).first ≡ earliest kept.given kept.nodes.items
  first_is = grind (arith, earliest_least, inside, size, times_are, length-drop)

  pub state_keeps : StateRule core kept
  state_keeps =
      nodes_keep view (times_of kept) (nodes_of core) old.nodes kept.nodes.items
      (times_are ∙ ap (λ n. drop n (times view.log)) (sym first_is))
      (earliest_reaches (times_of kept).first kept.given kept.nodes.items first_is) stands.nodes rec
