use Rattle.std.proofs.Common.{◌≡◌, ◌++◌, map}
use Rattle.std.specs.List.{AllByRecursion}
use Rattle.relations.specs.Tables.{IsTable}
use Rattle.state_split.proofs.tables.tables_over.Given as goal

abbrev pub invariant-loop-rows : goal.invariant-loop-rows
invariant-loop-rows l = record {
  fit : AllByRecursion (λ rows. IsTable l.columns rows.items) l.rows-iterator.rest.items;
  done : l.tables.items
      ++ map (λ rows. record { columns = l.columns; rows = rows.items }) l.rows-iterator.rest.items
      ≡ map (λ rows. record { columns = l.columns; rows = rows.items }) l.fn.shares.items;
}
