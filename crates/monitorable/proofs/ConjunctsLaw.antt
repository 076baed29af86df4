-- A formula holds exactly where all its conjuncts do.
use Rattle.std.proofs.Common.{◌≡◌, ℕ, not, List, sym, ap₂, arith}
use Rattle.std.proofs.{lemmas.List.Folds.list_all-append, Math.Bool.and-true}
use Rattle.monitorable.specs.CoreForms.{CoreForm, meaning, Compare, Not, And}
use Rattle.mfotl_model.specs.Satisfaction.{Valuation, sat}
use Rattle.mfotl_model.specs.declared.{event.TimePoint.TimePoint, value.Value.Value}
use Rattle.monitorable.specs.Conjuncts.{conjuncts_of, negated_part, part_holds}
use Rattle.monitorable.specs.Laws.{ConjunctsMean}

negated : (log : List TimePoint) (dom : List Value) (f : CoreForm) (v : Valuation) (i : ℕ)
    → not (sat log dom v i (meaning f)) ≡ part_holds log dom v i (negated_part f)
negated log dom f v i = grind arith

pub conjuncts_mean : ConjunctsMean
unfolding sat conjuncts_of
conjuncts_mean log dom (And f g) v i =
    simp (ap₂, list_all-append, conjuncts_mean log dom f v i, conjuncts_mean log dom g v i)
conjuncts_mean log dom (Not f) v i = cc (negated log dom f v i, and-true (part_holds log dom v i (negated_part f)))
conjuncts_mean log dom (Compare c) v i = grind arith
conjuncts_mean log dom f v i = sym (and-true (sat log dom v i (meaning f)))
