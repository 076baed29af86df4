use Rattle.std.proofs.Common.{false, cond, sym, ap, ◌∙◌}
use Rattle.std.specs.BTreeMap.{is_at}
use Rattle.mfotl_model.specs.Values.{row_cmp}
use Rattle.until_rows.proofs.SetLemmas.{one_row}
use Rattle.until_rows.proofs.row_set.without_row.Goals as goal

pub returns-in-One : goal.returns-in-One
returns-in-One c = rw c.in-One.is (λ u.
    c.one_without.ensures u ∙ ap (cond (is_at (row_cmp c.args.row.now) u) false) (sym (one_row c.in-One.first u)))
