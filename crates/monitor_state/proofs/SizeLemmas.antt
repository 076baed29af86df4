-- A core has more nodes than its parts.
use Rattle.std.proofs.Common.{◌≡◌, ◌+◌, ◌*◌, ◌<◌, ◌≤◌, ap, arith}
use Rattle.mfotl_model.specs.declared.interval.Interval.{Interval}
use Rattle.monitorable.specs.CoreForms.{CoreForm, Since, Until}
use Rattle.monitorable.specs.NodeCount.{nodes}
use Rattle.core_arranging.specs.Windows.{left_operand}

pub since_both_smaller : (h : CoreForm) (i : Interval) (f g : CoreForm) → h ≡ Since i f g
    → 2 * (nodes f + nodes g) < 2 * nodes h
unfolding nodes
since_both_smaller h i f g same = let count : nodes h ≡ 1 + nodes f + nodes g = ap nodes same in omega arith

pub until_both_smaller : (h : CoreForm) (i : Interval) (f g : CoreForm) → h ≡ Until i f g
    → 2 * (nodes f + nodes g) < 2 * nodes h
unfolding nodes
until_both_smaller h i f g same = let count : nodes h ≡ 1 + nodes f + nodes g = ap nodes same in omega arith

-- a window has no more nodes than its NOT
pub operand_no_larger : (g : CoreForm) → nodes (left_operand g) ≤ nodes g
unfolding nodes
operand_no_larger g = grind arith
