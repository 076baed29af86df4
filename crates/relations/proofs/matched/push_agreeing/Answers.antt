use Rattle.relations.proofs.PairLemmas.{pairs_by_key}
use Rattle.relations.proofs.matched.push_agreeing.Goals as goal

pub returns-clause-pairs : goal.returns-clause-pairs
returns-clause-pairs g c = rw (
  ← pairs_by_key c.args.columns.now c.args.index.now.columns c.args.index.now.rows c.args.row.now,
  c.in_ok-push_seconds.ensures,
  c.columns.ensures.columns,
  c.requires.more,
  c.matches-seconds.ensures.rows,
  c.in_ok-key.ensures,
  c.key_columns.ensures,
  c.requires.key,
  c.values.ensures,
)
