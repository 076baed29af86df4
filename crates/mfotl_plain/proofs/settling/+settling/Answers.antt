use Rattle.std.proofs.Common.{arith, sym}
use Rattle.mfotl_plain.proofs.SettlingLemmas.{all_after}
use Rattle.mfotl_plain.proofs.settling.+settling.Goals as goal
use Rattle.mfotl_plain.proofs.settling.+settling.Goals.{
  is_settled_within-else-not-is_past-via-then-not-is_past+else-not-is_settled,
}
use Rattle.mfotl_plain.proofs.settling.+settling.Goals.{is_settled_within-else-not-is_past-via-else-not-is_past}

pub is_settled_before-loop-j-preserved : goal.is_settled_before-loop-j-preserved
is_settled_before-loop-j-preserved t c =
    all_after _ _ _ _ c.loop-j-test.true (sym c.if-not-is_settled.ensures) c.loop-j.invariant

pub is_settled_within-loop-j-preserved : goal.is_settled_within-loop-j-preserved
is_settled_within-loop-j-preserved t c =
    all_after _ _ _ _ c.loop-j-test.true
    (elim c.else-not-is_past.branch [
      | is_settled_within-else-not-is_past-via-then-not-is_past+else-not-is_settled w ↦
          grind (arith, w.if-not-is_settled.ensures)
      | is_settled_within-else-not-is_past-via-else-not-is_past w ↦ grind (arith, w.if-not-is_past.ensures)
    ]) c.loop-j.invariant
