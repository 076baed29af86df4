use Rattle.std.proofs.Common.{not, sym, ap, ◌∙◌}
use Rattle.std.specs.Result.{is_ok}
use Rattle.relations.proofs.{RowLists.searched_row, RowLists.searched_place, OperationLaws.inserted_again}
use Rattle.relations.proofs.rows.insert_row.Goals as goal

pub returns-in-Ok-clause-rows : goal.returns-in-Ok-clause-rows
returns-in-Ok-clause-rows c =
    sym (inserted_again c.args.rows.now.items c.args.row c.requires.sorted
    (sym (searched_row c.args.rows.now.items c.args.row c.binary_search.result c.requires.sorted
    (rw c.deref.ensures.value at c.binary_search.ensures.bound)
    (rw c.deref.ensures.value at c.binary_search.ensures.position)) ∙ ap is_ok c.in-Ok.is))

pub returns-in-Ok-clause-is_new : goal.returns-in-Ok-clause-is_new
returns-in-Ok-clause-is_new c =
    ap not (sym (ap is_ok c.in-Ok.is) ∙ searched_row c.args.rows.now.items c.args.row c.binary_search.result
    c.requires.sorted (rw c.deref.ensures.value at c.binary_search.ensures.bound)
    (rw c.deref.ensures.value at c.binary_search.ensures.position))

pub returns-in_default-clause-rows : goal.returns-in_default-clause-rows
returns-in_default-clause-rows c =
    c.in_default.ensures.rows
    ∙ searched_place c.args.rows.now.items c.args.row c.in-Err.place c.requires.sorted
    (rw c.deref.ensures.value at c.in-Err.ensures.bound) (rw c.deref.ensures.value at c.in-Err.ensures.position)

pub returns-in_default-clause-is_new : goal.returns-in_default-clause-is_new
returns-in_default-clause-is_new c =
    ap not (sym (ap is_ok c.in-Err.is) ∙ searched_row c.args.rows.now.items c.args.row c.binary_search.result
    c.requires.sorted (rw c.deref.ensures.value at c.binary_search.ensures.bound)
    (rw c.deref.ensures.value at c.binary_search.ensures.position))
