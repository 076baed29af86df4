use Rattle.std.proofs.Common.{[], ◌∷◌, refl, sym, ◌∙◌}
use Rattle.mfotl_model.specs.Tables.{part}
use Rattle.row_times.specs.{Groups.times_at, PackedRows.packed_rows, Times.recent}
use Rattle.eval_since.proofs.{WindowLemmas.all_together, WindowLemmas.one_row}
use Rattle.row_times.proofs.{TwiceLemmas.recent_twice}
use Rattle.eval_since.proofs.expiry.forget_packed.Goals as goal

pub returns-then-is_empty-clause-times : goal.returns-then-is_empty-clause-times
returns-then-is_empty-clause-times c =
    all_together c.forget_ungrouped.result c.args.right.now c.args.left.now (recent c.args.hi c.args.now)
    (packed_rows c.args.rows) c.args.groups.now c.forget_ungrouped.new.self
    (sym c.is_empty.ensures ∙ c.if-is_empty.true)
    c.forget_ungrouped.ensures.times

pub returns-in_ok-forget_value-in-One-clause-times : goal.returns-in_ok-forget_value-in-One-clause-times
returns-in_ok-forget_value-in-One-clause-times c = rw c.in-One.is (λ q v.
    one_row (recent c.args.hi c.args.now) (recent_twice c.args.hi c.args.now) c.args.right.now c.args.left.now
    (c.in-One.value ∷ []) (part c.args.right.now c.args.left.now (c.in-One.value ∷ [])) q v
    (times_at c.args.groups.now q v) (times_at c.forget_value.new.groups q v)
    refl (c.in_ok-forget_value-in-One.ensures.times q v))
