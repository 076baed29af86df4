use Rattle.std.proofs.Common.{◌≡◌, ◌&&◌, true, drop}
use Rattle.std.specs.List.{list_all}
use Rattle.mfotl_model.specs.{Satisfaction.Valuation, Tables.all_among, Tables.has}
use Rattle.eval_bool.specs.JoinView.{compared_variables, test_holds}
use Rattle.eval_bool.proofs.combined.tested.Given as goal

abbrev pub invariant-loop-test : goal.invariant-loop-test
invariant-loop-test l =
    record {
      columns : l.rest.columns ≡ l.fn.table.columns;
      inside : list_all (λ t. all_among (compared_variables t.comparison) l.fn.table.columns)
          (drop l.test-index l.tests)
          ≡ true;
      has : (v : Valuation) → (has l.rest v && list_all (test_holds v) (drop l.test-index l.tests))
          ≡ (has l.fn.table v && list_all (test_holds v) l.tests);
    }
