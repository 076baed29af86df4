use Rattle.std.proofs.Common.{◌≡◌, ◌&&◌, true, [], drop}
use Rattle.std.specs.List.{list_all}
use Rattle.mfotl_model.specs.{Satisfaction.Valuation, Tables.has}
use Rattle.eval_bool.specs.Laws.{passes}
use Rattle.monitorable.specs.PartView.{part_form}
use Rattle.monitor_nodes.specs.{Stands.conjunct_as}
use Rattle.monitor_state.specs.{Constants.is_ground_test}
use Rattle.monitor_state.proofs.constant.tested.Given as goal

abbrev pub invariant-loop-part : goal.invariant-loop-part
invariant-loop-part l =
    record {
      columns : l.rest.columns ≡ [];
      closed : list_all (λ part. is_ground_test (part_form part)) (drop l.part-index l.parts) ≡ true;
      has : (v : Valuation) → (has l.rest v && list_all (λ part. passes v (conjunct_as (part_form part)))
          (drop l.part-index l.parts))
          ≡ list_all (λ part. passes v (conjunct_as (part_form part))) l.parts;
    }
