use Rattle.std.proofs.Common.{[], cond, ap, ◌∙◌}
use Rattle.std.specs.BTreeMap.{is_at}
use Rattle.mfotl_model.specs.Values.{row_cmp}
use Rattle.row_times.proofs.{FilledLemmas.one_has, FilledLemmas.some_added, OneRowLemmas.times_one}
use Rattle.row_times.proofs.held.first_time.Goals as goal

pub returns-clause-times : goal.returns-clause-times
returns-clause-times c = λ v.
    times_one c.args.row c.in_ok-times.times v
    ∙ ap (λ ts. cond (is_at (row_cmp c.args.row) v) ts []) c.in_ok-times.ensures

pub returns-clause-some : goal.returns-clause-some
returns-clause-some c =
    one_has c.args.row c.in_ok-times.times (rw c.in_ok-times.ensures (some_added c.args.bounded [] c.args.x))
