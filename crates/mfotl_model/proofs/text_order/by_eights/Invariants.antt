use Rattle.std.proofs.Common.{◌≡◌, length}
use Rattle.mfotl_model.specs.Values.{text_cmp}
use Rattle.mfotl_model.proofs.TextLemmas.{Bytes}
use Rattle.mfotl_model.proofs.text_order.by_eights.Given as goal

abbrev pub invariant-loop-front : goal.invariant-loop-front
invariant-loop-front l = (text_cmp l.ours l.theirs ≡ text_cmp l.left l.right) × Bytes l.ours × Bytes l.theirs

abbrev pub decreases-loop-front : goal.decreases-loop-front
decreases-loop-front l = length l.ours
