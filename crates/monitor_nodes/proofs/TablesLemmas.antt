-- The tables that a loop goes over.
use Rattle.std.proofs.Common.{◌≡◌, List, [], ◌∷◌, refl, sym, ap, ◌∙◌}
use Rattle.std.specs.Iterator.{Yields, YieldsFirst}
use Rattle.mfotl_model.specs.Tables.{TableOf}
use Rattle.monitor_nodes.specs.declared.tables.IntoIter.{IntoIter}

-- where it ends they were all of them
pub all_yielded : {it last : IntoIter} {tables : List TableOf} (xs : List TableOf) → it.left ≡ tables
    → Yields (YieldsFirst (λ (i : IntoIter). i.left)) it xs last → last.left ≡ [] → xs ≡ tables
all_yielded [] all runs ends = sym (ap (λ (i : IntoIter). i.left) runs ∙ ends) ∙ all
all_yielded (x ∷ xs) all runs ends = ap (λ ys. x ∷ ys) (all_yielded xs refl runs.2 ends) ∙ sym runs.1 ∙ all
