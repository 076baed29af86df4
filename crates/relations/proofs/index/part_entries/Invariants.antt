use Rattle.std.proofs.Common.{◌≡◌, ◌++◌, map}
use Rattle.relations.specs.declared.entry.Entry.{Entry}
use Rattle.relations.proofs.index.part_entries.Given as goal

abbrev pub invariant-loop-entry : goal.invariant-loop-entry
invariant-loop-entry l =
    (l.keys.items ++ map (λ (e : Entry). e.key) l.entry-iterator.rest.items ≡ l.fn.keys.items
    ++ map (λ (e : Entry). e.key) l.fn.entries.items)
    × (l.rows.items ++ map (λ (e : Entry). e.row) l.entry-iterator.rest.items ≡ l.fn.rows.items
    ++ map (λ (e : Entry). e.row) l.fn.entries.items)
