use Rattle.std.proofs.Common.{◌≡◌, drop, map}
use Rattle.mfotl_model.specs.FreeVariables.{joined}
use Rattle.eval_bool.specs.JoinView.{conjunct_columns, conjunct_of}
use Rattle.eval_bool.proofs.conjunct.conjunct_columns.Given as goal

abbrev pub invariant-loop-conjunct : goal.invariant-loop-conjunct
invariant-loop-conjunct l =
    joined l.columns.items (conjunct_columns (map conjunct_of (drop l.conjunct-index l.conjuncts)))
    ≡ conjunct_columns (map conjunct_of l.conjuncts)
