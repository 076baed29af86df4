use Rattle.until_rows.proofs.StartLemmas.{one_put}
use Rattle.until_rows.proofs.run_starts.RunStarts.insert.Goals as goal

pub returns-then-is_empty : goal.returns-then-is_empty
returns-then-is_empty c = λ w.
    one_put c.args.row w c.args.start c.args.self.now (c.is_empty.ensures c.if-is_empty.true)
