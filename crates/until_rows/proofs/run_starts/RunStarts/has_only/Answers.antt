use Rattle.std.proofs.Common.{sym, ◌∙◌}
use Rattle.until_rows.proofs.StartLemmas.{only_found}
use Rattle.until_rows.proofs.run_starts.RunStarts.has_only.Goals as goal

pub returns-in-Some : goal.returns-in-Some
returns-in-Some c = rw (← c.self.view_is, c.in-Some.is) (λ yes w p.
    only_found c.args.row.now c.in-Some.lone w c.in-Some.field-0-1 p (sym c.eq.ensures ∙ yes))
