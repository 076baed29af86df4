use Rattle.std.proofs.Common.{◌≡◌, ◌++◌, map}
use Rattle.std.specs.List.{flat_map}
use Rattle.verdict_merge.specs.Gathers.{gathered_rows}
use Rattle.verdict_merge.proofs.group.all_lists.Given as goal

abbrev pub invariant-loop-arrived : goal.invariant-loop-arrived
invariant-loop-arrived l =
    flat_map (λ list. list.items) l.lists.items ++ gathered_rows (map (λ a. a.rows) l.arrived-iterator.rest.items)
    ≡ l.fn.first.items ++ gathered_rows (map (λ a. a.rows) l.fn.more.items)
