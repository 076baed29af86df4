use Rattle.std.proofs.Common.{sym, ap, ◌∙◌, rules, SFits, to_z-of_z, w64}
use Rattle.relations.specs.KeptRows.{list_for}
use Rattle.row_times.specs.{RowKeys.by_rows, RowKeys.one_int, Times.reaches}
use Rattle.row_times.proofs.RowKeyLemmas.{no_times}
use Rattle.row_times.proofs.hashed.Hashed.reaches.Goals as goal

pub returns-in-Some : goal.returns-in-Some
returns-in-Some c =
    let fits : SFits w64 c.in-Some.number = search rules in
    rw (← c.self.view_is, c.in-Ints.is) (c.reaches-in-Some.ensures
    ∙ ap (λ r. reaches c.args.interval.now (list_for (by_rows one_int c.in-Ints.rows) r) c.args.x)
    (ap one_int (to_z-of_z fits) ∙ sym c.in-Some.ensures))

pub returns-in-None : goal.returns-in-None
returns-in-None c = rw (← c.self.view_is, c.in-Ints.is) (sym
    (ap (λ ts. reaches c.args.interval.now ts c.args.x)
    (no_times c.args.row.now c.in-Ints.rows c.in-None.ensures)))
