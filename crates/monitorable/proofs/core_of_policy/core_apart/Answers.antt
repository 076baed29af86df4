-- The core's facts, by the laws of new numbers.
use Rattle.std.proofs.Common.{◌++◌, IsTrue, subst, sym}
use Rattle.mfotl_model.specs.{FreeVariables.fv, Tables.all_apart}
use Rattle.monitorable.proofs.{FragmentRenamed.apart_fragment, RenamedVariables.apart_variables}
use Rattle.monitorable.proofs.core_of_policy.core_apart.Goals as goal
use Rattle.monitorable.specs.{CoreForms.meaning, CoreForms.node_form, Fragment.IsMonitorable, Renaming.binders}

pub new-requires-clause-in_fragment : goal.new-requires-clause-in_fragment
new-requires-clause-in_fragment c =
    let g = node_form c.args.node.now in
    subst IsMonitorable (sym c.in_ok-apart.ensures) (λ names. apart_fragment c.requires.0 names g c.requires.1)

pub new-requires-clause-is_apart : goal.new-requires-clause-is_apart
new-requires-clause-is_apart c =
    subst (λ g. IsTrue (all_apart (fv (meaning g) ++ binders g))) (sym c.in_ok-apart.ensures)
    (apart_variables (node_form c.args.node.now)).1
