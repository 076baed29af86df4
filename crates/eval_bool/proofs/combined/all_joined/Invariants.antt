use Rattle.std.proofs.Common.{◌≡◌, ◌||◌, ◌&&◌, ℕ}
use Rattle.mfotl_model.specs.Satisfaction.{Valuation}
use Rattle.eval_bool.specs.{Heads.all_have, Heads.in_columns, JoinedSoFar.all_joined, JoinedSoFar.is_joined}
use Rattle.eval_bool.proofs.combined.all_joined.Given as goal

abbrev pub invariant-loop-table : goal.invariant-loop-table
invariant-loop-table l =
    record {
      columns : (y : ℕ) → (is_joined y l.joined || in_columns y l.table-iterator.rest.items)
          ≡ in_columns y l.fn.tables.items;
      has : (v : Valuation) → (all_joined v l.joined && all_have v l.table-iterator.rest.items)
          ≡ all_have v l.fn.tables.items;
    }
