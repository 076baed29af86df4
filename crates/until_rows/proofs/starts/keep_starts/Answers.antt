use Rattle.std.proofs.Common.{Some, None, cond, ap, false, ◌∙◌}
use Rattle.until_rows.specs.Starts.{start_of}
use Rattle.until_rows.proofs.StartLemmas.{only_row}
use Rattle.until_rows.proofs.starts.keep_starts.Goals as goal

pub returns-in_ok-keep_alone : goal.returns-in_ok-keep_alone
returns-in_ok-keep_alone c = λ w.
    c.in_ok-keep_alone.ensures w
    ∙ ap (λ b. cond b (Some (start_of false c.args.place c.args.starts.now w)) None)
    (only_row c.args.table.now c.index-table-0.result w c.if-table-eq1.true c.index-table-0.is)
