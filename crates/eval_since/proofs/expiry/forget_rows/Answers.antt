use Rattle.std.proofs.Common.{rules, ◌≡◌, ◌∷◌, refl, ◌∙◌}
use Rattle.mfotl_model.specs.Tables.{part}
use Rattle.row_times.specs.{Groups.times_at, Times.recent}
use Rattle.eval_since.proofs.WindowLemmas.{rows_rest}
use Rattle.row_times.proofs.TwiceLemmas.{recent_twice}
use Rattle.eval_since.proofs.expiry.forget_rows.Goals as goal

pub loop-row-preserved : goal.loop-row-preserved
loop-row-preserved c =
    let here : c.loop-row.row-iterator.rest.items ≡ c.in-Some.row ∷ c.next.new.self.rest.items = search rules in
    record {
      times = λ q v.
          rows_rest (recent c.args.hi c.args.now) (recent_twice c.args.hi c.args.now) c.args.right.now c.args.left.now
          c.in-Some.row (part c.args.right.now c.args.left.now c.in-Some.row) q v
          c.next.new.self.rest.items (times_at c.loop-row.groups q v) (times_at c.forget_row.new.groups q v)
          refl (c.in_ok-forget_row.ensures.times q v) ∙ (rw here at (c.loop-row.invariant.times q v));
      some = λ all. c.in_ok-forget_row.ensures.some (c.loop-row.invariant.some all);
    }
