use Rattle.std.proofs.Common.{◌≡◌, map, take}
use Rattle.eval_bool.specs.JoinView.{conjunct_of}
use Rattle.monitorable.specs.PartView.{part_form}
use Rattle.monitor_nodes.specs.Stands.{conjunct_as}
use Rattle.monitor_state.proofs.conjunction.own_conjuncts.Given as goal

abbrev pub invariant-loop-part : goal.invariant-loop-part
invariant-loop-part l = map conjunct_of l.own.items ≡ map conjunct_as (map part_form (take l.part-index l.parts))
