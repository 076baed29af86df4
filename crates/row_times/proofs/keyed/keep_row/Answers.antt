use Rattle.std.proofs.Common.{Some, cond, ap, ◌∙◌}
use Rattle.std.specs.BTreeMap.{is_at}
use Rattle.mfotl_model.specs.Values.{row_cmp}
use Rattle.relations.specs.KeptRows.{kept_for}
use Rattle.row_times.proofs.keyed.keep_row.Goals as goal

pub returns : goal.returns
returns g c = λ v.
    c.in_ok-insert.ensures.updates.0 v
    ∙ ap (λ r. cond (is_at (row_cmp r) v) (Some c.args.times) (kept_for c.args.wide.now.entries v)) c.in_ok-row.ensures
