use Rattle.std.proofs.Common.{sym, ◌∙◌}
use Rattle.until_rows.proofs.SetLemmas.{only_gone, other_stays}
use Rattle.until_rows.proofs.row_set.one_without.Goals as goal

pub returns-then-eq : goal.returns-then-eq
returns-then-eq c = λ u. only_gone c.args.first c.args.row.now u (sym c.eq.ensures ∙ c.if-eq.true)

pub returns : goal.returns
returns c = λ u. other_stays c.args.first c.args.row.now u (sym c.eq.ensures ∙ c.if-eq.false)
