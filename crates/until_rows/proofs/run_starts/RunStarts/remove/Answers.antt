use Rattle.std.proofs.Common.{sym, ◌∙◌}
use Rattle.until_rows.proofs.StartLemmas.{one_left, one_removed}
use Rattle.until_rows.proofs.run_starts.RunStarts.remove.Goals as goal

pub returns-then-eq : goal.returns-then-eq
returns-then-eq c = rw (← c.self.view_is, c.in-Some.is) (λ w.
    one_removed c.args.row.now c.in-Some.lone w c.in-Some.field-0-1 c.clear.new.self.entries c.clear.ensures.empty
    (sym c.eq.ensures ∙ c.if-eq.true))

pub returns-else-eq : goal.returns-else-eq
returns-else-eq c = rw (← c.self.view_is, c.in-Some.is) (λ w.
    one_left c.args.row.now c.in-Some.lone w c.in-Some.field-0-1 (sym c.eq.ensures ∙ c.if-eq.false))
