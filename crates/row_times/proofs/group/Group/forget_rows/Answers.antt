use Rattle.std.proofs.Common.{rules, ◌≡◌, ◌∷◌, ◌∙◌}
use Rattle.relations.specs.KeptRows.{list_for}
use Rattle.row_times.specs.Times.{recent}
use Rattle.row_times.proofs.{GroupRowLemmas.row_rest, TwiceLemmas.recent_twice}
use Rattle.row_times.proofs.group.Group.forget_rows.Goals as goal

pub loop-row-preserved : goal.loop-row-preserved
loop-row-preserved c =
    let here : c.loop-row.row-iterator.rest.items ≡ c.in-Some.row ∷ c.next.new.self.rest.items = search rules in
    record {
      times = λ v.
          row_rest (recent c.args.hi c.args.now) (recent_twice c.args.hi c.args.now) c.in-Some.row v
          c.next.new.self.rest.items (list_for c.loop-row.self v) (list_for c.forget.new.self v)
          (c.forget.ensures.times v) ∙ (rw here at (c.loop-row.invariant.times v));
      some = λ all. c.forget.ensures.some (c.loop-row.invariant.some all);
    }
