use Rattle.std.proofs.Common.{refl, sym, ap, ◌∙◌}
use Rattle.std.specs.List.{position}
use Rattle.row_times.proofs.FewLemmas.{is_its, list_pushed, list_written, pushed_differ, some_pushed, some_written}
use Rattle.row_times.proofs.FewLemmas.{written_differ}
use Rattle.row_times.proofs.few.FewRows.put.Goals as goal

pub invariant_of-self : goal.invariant_of-self
invariant_of-self c =
    written_differ c.args.row c.self.inside.rows.items c.in-Some.place c.index_mut.result.now c.args.times
    (sym (rw c.as_slice.ensures.value at c.in-Some.ensures)) c.index_mut.ensures.value c.self.invariant

pub returns-in-Some : goal.returns-in-Some
returns-in-Some c = rw (← c.self.view_is) (
    let entries = c.self.inside.rows.items in
    let e = c.index_mut.result.now in
    let at = sym (rw c.as_slice.ensures.value at c.in-Some.ensures) in
    record {
      times = list_written c.args.row (λ _. c.args.times) entries c.in-Some.place e c.args.times at
          c.index_mut.ensures.value refl;
      some = some_written c.args.row entries c.in-Some.place e c.args.times at c.index_mut.ensures.value;
    })

pub invariant_of-self-2 : goal.invariant_of-self-2
invariant_of-self-2 c =
    rw c.in_ok-push.ensures.items (pushed_differ c.args.row c.self.inside.rows.items c.args.times
    (ap (position (is_its c.args.row)) (sym c.as_slice.ensures.value) ∙ sym c.place_of.ensures ∙ c.in_default.is)
    c.self.invariant)

pub returns : goal.returns
returns c = rw (← c.self.view_is, c.in_ok-push.ensures.items) (
    let row = c.args.row in
    let entries = c.self.inside.rows.items in
    let none = ap (position (is_its row)) (sym c.as_slice.ensures.value) ∙ sym c.place_of.ensures ∙ c.in_default.is in
    record {
      times = list_pushed row (λ _. c.args.times) entries c.args.times none refl;
      some = some_pushed row entries c.args.times none;
    })
