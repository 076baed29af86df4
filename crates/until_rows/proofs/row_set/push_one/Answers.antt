use Rattle.std.proofs.Common.{sym, ◌∙◌}
use Rattle.relations.specs.KeptRows.{list_for}
use Rattle.until_rows.specs.Entries.{met_by}
use Rattle.until_rows.proofs.SetLemmas.{fail_left, pass_pushed}
use Rattle.until_rows.proofs.row_set.push_one.Goals as goal

pub returns-in_ok-push : goal.returns-in_ok-push
returns-in_ok-push c = rw (c.in_ok-push.ensures.items, c.in_ok-copy.ensures) (λ u.
    pass_pushed (λ v. met_by c.args.interval.now c.args.i c.args.x (list_for c.args.rows.now.entries v))
    c.args.out.now.items c.args.row.now u (sym c.row_met.ensures ∙ c.if-row_met.true))

pub returns-else-row_met : goal.returns-else-row_met
returns-else-row_met c = λ u.
    fail_left (λ v. met_by c.args.interval.now c.args.i c.args.x (list_for c.args.rows.now.entries v))
    c.args.out.now.items c.args.row.now u (sym c.row_met.ensures ∙ c.if-row_met.false)
