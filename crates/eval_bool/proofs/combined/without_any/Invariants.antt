use Rattle.std.proofs.Common.{◌≡◌, ◌&&◌, true}
use Rattle.mfotl_model.specs.{Satisfaction.Valuation, Tables.has}
use Rattle.eval_bool.specs.Heads.{all_inside, none_has}
use Rattle.eval_bool.proofs.combined.without_any.Given as goal

abbrev pub invariant-loop-other : goal.invariant-loop-other
invariant-loop-other l =
    record {
      columns : l.rest.columns ≡ l.fn.table.columns;
      inside : all_inside l.fn.table.columns l.other-iterator.rest.items ≡ true;
      has : (v : Valuation) → (has l.rest v && none_has v l.other-iterator.rest.items)
          ≡ (has l.fn.table v && none_has v l.fn.others.items);
    }
