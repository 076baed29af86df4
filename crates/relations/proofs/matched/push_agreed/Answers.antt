use Rattle.relations.proofs.PairLemmas.{pairs_with_by_key}
use Rattle.relations.proofs.matched.push_agreed.Goals as goal

pub returns : goal.returns
returns g c = rw (
  ← pairs_with_by_key c.args.index.now.columns c.args.columns.now c.args.index.now.rows c.args.second.now,
  c.in_ok-push_firsts.ensures,
  c.requires.more,
  c.matches-firsts.ensures.rows,
  c.in_ok-key.ensures,
  c.key_columns.ensures,
  c.requires.key,
  c.values.ensures,
)
