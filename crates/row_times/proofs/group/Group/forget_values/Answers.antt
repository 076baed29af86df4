use Rattle.std.proofs.Common.{rules, ◌≡◌, ◌∷◌, [], ◌∙◌}
use Rattle.relations.specs.KeptRows.{list_for}
use Rattle.row_times.specs.{PackedRows.alone, Times.recent}
use Rattle.row_times.proofs.{GroupRowLemmas.row_rest, TwiceLemmas.recent_twice}
use Rattle.row_times.proofs.group.Group.forget_values.Goals as goal

pub loop-value-preserved : goal.loop-value-preserved
loop-value-preserved c =
    let here : c.loop-value.value-iterator.rest.items ≡ c.in-Some.value ∷ c.next.new.self.rest.items = search rules in
    record {
      times = λ v.
          row_rest (recent c.args.hi c.args.now) (recent_twice c.args.hi c.args.now) (c.in-Some.value ∷ []) v
          (alone c.next.new.self.rest.items) (list_for c.loop-value.self v) (list_for c.forget.new.self v)
          (rw (c.in_ok-push.ensures, c.empty.ensures) at (c.forget.ensures.times v))
          ∙ (rw here at (c.loop-value.invariant.times v));
      some = λ all. c.forget.ensures.some (c.loop-value.invariant.some all);
    }
