use Rattle.std.proofs.Common.{sym, ap, ◌∙◌}
use Rattle.until_rows.specs.Entries.{met_by}
use Rattle.until_rows.proofs.OrderLemmas.{entries_in_order}
use Rattle.eval_until.proofs.ahead.Ahead.met.Goals as goal

pub returns : goal.returns
returns c = rw (← c.self.view_is) (
    let k = c.self.inside in
    c.row_met.ensures
    ∙ ap (met_by k.interval c.args.i c.args.x) (sym (entries_in_order k.contents.rows.entries c.args.row.now)))
