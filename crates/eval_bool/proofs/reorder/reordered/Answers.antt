use Rattle.eval_bool.proofs.ReorderLemmas.{has_reordered}
use Rattle.eval_bool.proofs.reorder.reordered.Goals as goal

pub returns-clause-has : goal.returns-clause-has
returns-clause-has c = λ v.
    has_reordered c.args.table c.in_ok-turned.turned v c.in_ok-columns.columns.items
    (rw c.in_ok-columns.ensures.ok c.requires.whole) (c.in_ok-turned.ensures.has v)
