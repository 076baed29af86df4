use Rattle.std.proofs.Common.{sym, ◌∙◌}
use Rattle.until_rows.proofs.SetLemmas.{same_twice}
use Rattle.until_rows.proofs.row_set.next_row.Goals as goal

pub returns-then-eq : goal.returns-then-eq
returns-then-eq c = λ u. same_twice c.args.first c.args.row u (sym c.eq.ensures ∙ c.if-eq.true)
