use Rattle.std.proofs.Common.{sym, ◌∙◌}
use Rattle.until_rows.proofs.StartLemmas.{one_put}
use Rattle.until_rows.proofs.run_starts.spread.Goals as goal

pub returns-clause-many : goal.returns-clause-many
returns-clause-many c = rw (← c.in-Some.ensures.value) (λ w.
    c.in_ok-insert.ensures.updates.0 w
    ∙ sym (one_put c.in-Some.row w c.in-Some.start c.clear.new.self.entries c.clear.ensures.empty))
