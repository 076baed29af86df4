use Rattle.std.proofs.Common.{◌≡◌, true, List, sym, subst, ◌∙◌}
use Rattle.std.specs.List.{AllByRecursion, list_all}
use Rattle.mfotl_model.specs.declared.value.Value.{Value}
use Rattle.until_rows.specs.Timed.{is_timed}
use Rattle.until_rows.specs.declared.entries.Entry.{Entry}
use Rattle.until_rows.specs.InOrder.{in_order}
use Rattle.until_rows.proofs.OrderLemmas.{in_order_ascends, kept_in_order}
use Rattle.eval_until.proofs.ResumeLemmas.{each_passes, each_some}
use Rattle.eval_until.proofs.ahead.Ahead.kept_marks.Goals as goal

pub kept_marks-requires : goal.kept_marks-requires
kept_marks-requires c =
    let timed = rw (← c.self.view_is) at c.requires in
    let rows = c.self.inside.contents.rows.entries in
    let pulled = c.self.inside.pulled in
    record {
      timed = subst
          (AllByRecursion (λ (r : List Value × List Entry). list_all (is_timed pulled c.args.times.now.items) r.1 ≡ true))
          (sym c.in_ok-rows.ensures.same)
          (each_passes (is_timed pulled c.args.times.now.items) (in_order rows) (in_order_ascends rows) timed);
    }

pub returns-clause-rows : goal.returns-clause-rows
returns-clause-rows c = rw (← c.self.view_is) (
    c.in_ok-kept.ensures.rows ∙ c.in_ok-rows.ensures.same)

pub returns-clause-some : goal.returns-clause-some
returns-clause-some c = rw (← c.self.view_is) (
    let rows = c.self.inside.contents.rows.entries in
    each_some (in_order rows) (in_order_ascends rows)
    (λ u. rw (kept_in_order rows u) (c.self.invariant.keeps.some u)))

pub returns-clause-ascend : goal.returns-clause-ascend
returns-clause-ascend c = rw (← c.self.view_is) (in_order_ascends c.self.inside.contents.rows.entries)
