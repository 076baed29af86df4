use Rattle.std.proofs.Common.{rules, ◌≡◌, ◌∷◌, [], refl, ◌∙◌}
use Rattle.mfotl_model.specs.Tables.{part}
use Rattle.row_times.specs.{Groups.times_at, PackedRows.alone, Times.recent}
use Rattle.eval_since.proofs.WindowLemmas.{rows_rest}
use Rattle.row_times.proofs.TwiceLemmas.{recent_twice}
use Rattle.eval_since.proofs.expiry.forget_values.Goals as goal

pub loop-value-preserved : goal.loop-value-preserved
loop-value-preserved c =
    let here : c.loop-value.value-iterator.rest.items ≡ c.in-Some.value ∷ c.next.new.self.rest.items = search rules in
    record {
      times = λ q v.
          rows_rest (recent c.args.hi c.args.now) (recent_twice c.args.hi c.args.now) c.args.right.now c.args.left.now
          (c.in-Some.value ∷ []) (part c.args.right.now c.args.left.now (c.in-Some.value ∷ [])) q v
          (alone c.next.new.self.rest.items) (times_at c.loop-value.groups q v)
          (times_at c.forget_value.new.groups q v)
          refl (c.in_ok-forget_value.ensures.times q v) ∙ (rw here at (c.loop-value.invariant.times q v));
      some = λ all. c.in_ok-forget_value.ensures.some (c.loop-value.invariant.some all);
    }
