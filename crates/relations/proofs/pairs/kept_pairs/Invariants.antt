use Rattle.std.proofs.Common.{◌≡◌, ◌++◌, drop, length, true}
use Rattle.std.specs.List.{filter, flat_map}
use Rattle.mfotl_model.specs.{FreeVariables.joined, Tables.all_sized}
use Rattle.relations.specs.Operations.{has_part, pairs_of, table_of_rows}
use Rattle.relations.proofs.pairs.kept_pairs.Given as goal

abbrev pub invariant-loop-row : goal.invariant-loop-row
invariant-loop-row g l = record {
  sized : all_sized (length l.columns) (drop l.row-index l.rows) ≡ true;
  kept : l.all.items ++ flat_map
      (λ row. filter (has_part (table_of_rows l.wanted l.third.keys) (joined l.columns l.index.columns))
      (pairs_of l.columns l.index.columns l.index.rows row)) (drop l.row-index l.rows)
      ≡ flat_map (λ row. filter (has_part (table_of_rows l.wanted l.third.keys) (joined l.columns l.index.columns))
      (pairs_of l.columns l.index.columns l.index.rows row)) l.rows;
}
