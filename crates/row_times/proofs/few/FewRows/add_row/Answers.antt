use Rattle.std.proofs.Common.{[]}
use Rattle.row_times.specs.Times.{added}
use Rattle.row_times.proofs.FewLemmas.{list_pushed, pushed_differ, some_pushed}
use Rattle.row_times.proofs.FilledLemmas.{some_added}
use Rattle.row_times.proofs.few.FewRows.add_row.Goals as goal

pub invariant_of-self-2 : goal.invariant_of-self-2
invariant_of-self-2 c =
    rw c.in_ok-push.ensures.items (pushed_differ c.args.row c.self.inside.rows.items c.in_ok-times.times
    (rw (← c.self.view_is) at c.requires) c.self.invariant)

pub returns : goal.returns
returns c = rw (← c.self.view_is, c.in_ok-push.ensures.items) (
    let entries = c.self.inside.rows.items in
    let none = rw (← c.self.view_is) at c.requires in
    record {
      times = list_pushed c.args.row (λ ts. added c.args.bounded ts c.args.x) entries c.in_ok-times.times none
          c.in_ok-times.ensures;
      some = some_pushed c.args.row entries c.in_ok-times.times none
          (rw c.in_ok-times.ensures (some_added c.args.bounded [] c.args.x));
    })
