use Rattle.std.proofs.Common.{◌||◌, sym, ap, ◌∙◌}
use Rattle.std.proofs.lemmas.Result.{IfOk-weaker}
use Rattle.std.specs.BTreeMap.{is_at}
use Rattle.mfotl_model.specs.Values.{row_cmp}
use Rattle.until_rows.proofs.SetLemmas.{one_row}
use Rattle.until_rows.proofs.row_set.with_row.Goals as goal

pub returns-in-Zero : goal.returns-in-Zero
returns-in-Zero c = rw c.in-Zero.is (λ u. one_row c.args.row u)

pub returns-in-One : goal.returns-in-One
returns-in-One c = rw c.in-One.is (
    IfOk-weaker c.next_row.result _ _
    (λ more e u. e u ∙ ap (λ b. b || is_at (row_cmp c.args.row) u) (sym (one_row c.in-One.first u)))
    c.next_row.ensures)
