use Rattle.std.proofs.Common.{◌≡◌, ℕ, drop}
use Rattle.std.specs.List.{list_all}
use Rattle.mfotl_model.specs.FreeVariables.{among}
use Rattle.monitorable.specs.{CoreForms.node_form, Fragment.bound_by}
use Rattle.monitor_state.proofs.begin_filter.binds_all.Given as goal

abbrev pub invariant-loop-x : goal.invariant-loop-x
invariant-loop-x l =
    let bound = λ (y : ℕ). among y (bound_by (node_form l.core)) in
    list_all bound (drop l.x-index l.wanted) ≡ list_all bound l.wanted
