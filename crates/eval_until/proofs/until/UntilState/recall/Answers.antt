use Rattle.std.proofs.Common.{rules}
use Rattle.eval_until.proofs.TimedLemmas.{timed_kept}
use Rattle.eval_until.proofs.until.UntilState.recall.Goals as goal

pub invariant_of-self-2 : goal.invariant_of-self-2
invariant_of-self-2 c = record {
  low = search rules;
  high = search rules;
  few = search rules;
  inside = search rules;
  left = search rules;
  right = search rules;
  timed = rw (c.in_ok-recall.ensures.recalled, c.from_vec.ensures.items, c.in_ok-next.ensures.items) (
      timed_kept c.args.kept.pulled c.args.kept.taken c.args.times.now c.args.kept.rows.items c.requires.high
      c.requires.waiting);
}
