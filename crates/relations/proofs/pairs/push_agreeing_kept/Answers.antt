use Rattle.relations.proofs.PairLemmas.{pairs_by_key}
use Rattle.relations.proofs.pairs.push_agreeing_kept.Goals as goal

pub returns : goal.returns
returns g c = rw (
  ← pairs_by_key c.args.columns.now c.args.index.now.columns c.args.index.now.rows c.args.row.now,
  c.in_ok-push_kept.ensures,
  c.columns.ensures.columns,
  c.requires.more,
  c.matches-seconds.ensures.rows,
  c.in_ok-key.ensures,
  c.key_columns.ensures,
  c.requires.key,
  c.values.ensures,
)
