use Rattle.relations.proofs.index.ordered.Goals as goal
use Rattle.relations.proofs.IndexLemmas.{rows_moved, keys_kept, keys_rise, rows_rise}

pub returns-clause-moved : goal.returns-clause-moved
returns-clause-moved c = rows_moved c.args.columns.now c.args.key_columns.now c.args.rows.now
    c.sort_unstable.new.self.items (rw c.in_ok-entries.ensures at c.sort_unstable.ensures.permutation)

pub returns-clause-keys : goal.returns-clause-keys
returns-clause-keys c = keys_kept c.args.columns.now c.args.key_columns.now c.args.rows.now
    c.sort_unstable.new.self.items (rw c.in_ok-entries.ensures at c.sort_unstable.ensures.permutation)

pub returns-clause-rises : goal.returns-clause-rises
returns-clause-rises c = keys_rise c.sort_unstable.new.self.items c.sort_unstable.ensures.sorted

pub returns-clause-order : goal.returns-clause-order
returns-clause-order c = rows_rise c.args.columns.now c.args.key_columns.now c.args.rows.now
    c.sort_unstable.new.self.items (rw c.in_ok-entries.ensures at c.sort_unstable.ensures.permutation)
    c.sort_unstable.ensures.sorted
