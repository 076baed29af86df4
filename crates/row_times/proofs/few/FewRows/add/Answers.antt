use Rattle.std.proofs.Common.{sym, ap, ◌∙◌}
use Rattle.std.proofs.lemmas.Result.{on_ok_weaker}
use Rattle.std.specs.List.{position}
use Rattle.row_times.specs.Times.{added}
use Rattle.row_times.proofs.FewLemmas.{is_its, list_written, own_list, some_written, written_differ}
use Rattle.row_times.proofs.FilledLemmas.{some_added}
use Rattle.row_times.proofs.few.FewRows.add.Goals as goal

pub add-requires : goal.add-requires
add-requires c =
    let own = own_list c.args.row c.self.inside.rows.items c.in-Some.place c.index_mut.result.now
    (sym (rw c.as_slice.ensures.value at c.in-Some.ensures)) c.index_mut.ensures.value in
    rw (← own) (rw (← c.self.view_is) at c.requires)

pub invariant_of-self : goal.invariant_of-self
invariant_of-self c =
    written_differ c.args.row c.self.inside.rows.items c.in-Some.place c.index_mut.result.now c.add.new.self
    (sym (rw c.as_slice.ensures.value at c.in-Some.ensures)) c.index_mut.ensures.value c.self.invariant

pub returns-in-Some : goal.returns-in-Some
returns-in-Some c = rw (← c.self.view_is) (
    let row = c.args.row in
    let entries = c.self.inside.rows.items in
    let e = c.index_mut.result.now in
    let at = sym (rw c.as_slice.ensures.value at c.in-Some.ensures) in
    record {
      times = on_ok_weaker c.add.result (list_written row (λ ts. added c.args.bounded ts c.args.x) entries
          c.in-Some.place e c.add.new.self at c.index_mut.ensures.value) c.add.ensures;
      some = on_ok_weaker c.add.result (λ is. some_written row entries c.in-Some.place e c.add.new.self at
          c.index_mut.ensures.value (rw is (some_added c.args.bounded e.1 c.args.x))) c.add.ensures;
    })

pub add_row-requires : goal.add_row-requires
add_row-requires c =
    ap (position (is_its c.args.row)) (sym c.self.view_is ∙ sym c.as_slice.ensures.value)
    ∙ sym c.place_of.ensures ∙ c.in_default.is
