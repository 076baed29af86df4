use Rattle.std.proofs.Common.{◌≡◌, ◌∷◌, ap, ◌∙◌, rules}
use Rattle.eval_since.specs.Recalled.{put_times}
use Rattle.row_times.specs.KeptTimes.{times_kept}
use Rattle.eval_since.proofs.rebuild.grouped.Goals as goal

pub loop-kept-preserved : goal.loop-kept-preserved
loop-kept-preserved c =
    let rest : c.loop-kept.kept-iterator.rest.items ≡ c.in-Some.kept ∷ c.next.new.self.rest.items = search rules in
    record {
      ascend = (rw rest at c.loop-kept.invariant.ascend).1;
      put = λ q v.
          ap (put_times c.args.right.now c.args.left.now (times_kept c.next.new.self.rest.items) q v)
          (c.in_ok-put_kept.ensures.times q v)
          ∙ (rw rest at (c.loop-kept.invariant.put q v));
      some = λ all.
          let before = c.loop-kept.invariant.some all in
          let each = rw rest at before.0 in
          (each.1, c.in_ok-put_kept.ensures.some each.0 before.1);
    }
