use Rattle.std.proofs.Common.{sym, ap, ◌∙◌}
use Rattle.std.specs.List.{position}
use Rattle.relations.proofs.KeptLemmas.{empty_list, not_empty}
use Rattle.row_times.specs.Times.{recent}
use Rattle.row_times.proofs.FewLemmas.{absent, is_its, list_removed, list_written, removed_differ, some_removed}
use Rattle.row_times.proofs.FewLemmas.{some_written, written_differ}
use Rattle.row_times.proofs.{GroupLemmas.recent_none, RowKeyLemmas.none_changed}
use Rattle.row_times.proofs.few.FewRows.forget.Goals as goal

pub returns-in_default-clause-times : goal.returns-in_default-clause-times
returns-in_default-clause-times c = rw (← c.self.view_is) (λ v.
    let row = c.args.row.now in
    none_changed (recent c.args.hi c.args.now) row v c.self.inside.rows.items (recent_none c.args.hi c.args.now)
    (absent row c.self.inside.rows.items
    (ap (position (is_its row)) (sym c.as_slice.ensures.value) ∙ sym c.place_of.ensures ∙ c.in_default.is)))

pub invariant_of-self : goal.invariant_of-self
invariant_of-self c =
    rw c.remove.ensures.items (removed_differ c.args.row.now c.self.inside.rows.items c.in-Some.place
    (c.index_mut.result.now.0, c.forget.new.self) (sym (rw c.as_slice.ensures.value at c.in-Some.ensures))
    c.self.invariant)

pub returns-then-is_empty : goal.returns-then-is_empty
returns-then-is_empty c = rw (← c.self.view_is, c.remove.ensures.items) (
    let row = c.args.row.now in
    let entries = c.self.inside.rows.items in
    let e = c.index_mut.result.now in
    let left = c.forget.new.self in
    let at = sym (rw c.as_slice.ensures.value at c.in-Some.ensures) in
    record {
      times = list_removed row (recent c.args.hi c.args.now) entries c.in-Some.place e (e.0, left) at
          c.index_mut.ensures.value c.self.invariant
          (empty_list left (sym c.is_empty.ensures ∙ c.if-is_empty.true) ∙ c.forget.ensures);
      some = some_removed row entries c.in-Some.place (e.0, left) at c.self.invariant;
    })

pub invariant_of-self-else-is_empty : goal.invariant_of-self-else-is_empty
invariant_of-self-else-is_empty c =
    written_differ c.args.row.now c.self.inside.rows.items c.in-Some.place c.index_mut.result.now c.forget.new.self
    (sym (rw c.as_slice.ensures.value at c.in-Some.ensures)) c.index_mut.ensures.value c.self.invariant

pub returns-else-is_empty : goal.returns-else-is_empty
returns-else-is_empty c = rw (← c.self.view_is) (
    let row = c.args.row.now in
    let entries = c.self.inside.rows.items in
    let e = c.index_mut.result.now in
    let left = c.forget.new.self in
    let at = sym (rw c.as_slice.ensures.value at c.in-Some.ensures) in
    record {
      times = list_written row (recent c.args.hi c.args.now) entries c.in-Some.place e left at
          c.index_mut.ensures.value c.forget.ensures;
      some = some_written row entries c.in-Some.place e left at c.index_mut.ensures.value
          (not_empty left (sym c.is_empty.ensures ∙ c.if-is_empty.false));
    })
