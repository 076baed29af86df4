-- Settled positions: they were reached, and all positions before them are settled too.
use Rattle.std.proofs.Common.{◌+◌, ◌∙◌, arith}
use Rattle.monitorable.proofs.{CoreSettled.core_within, NormalFormLaws.normal_form_settled, SettledStays.core_down}
use Rattle.monitorable.specs.{Laws.SettledBefore, Laws.SettledWithin, NormalForm.positive}

pub settled_in_log : SettledWithin
settled_in_log times f i h = core_within times (positive f) i ((normal_form_settled times f i).0 ∙ h)

pub settled_before : SettledBefore
settled_before times rising f i h =
    grind (arith, normal_form_settled times f i, core_down, normal_form_settled times f (i + 1))
