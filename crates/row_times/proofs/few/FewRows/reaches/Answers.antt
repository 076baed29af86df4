use Rattle.std.proofs.Common.{sym, ap, ◌∙◌}
use Rattle.std.specs.List.{position}
use Rattle.row_times.specs.Times.{reaches}
use Rattle.row_times.proofs.FewLemmas.{is_its, no_list, own_list}
use Rattle.row_times.proofs.few.FewRows.reaches.Goals as goal

pub returns-in-Some : goal.returns-in-Some
returns-in-Some c = rw (← c.self.view_is) (
    let row = c.args.row.now in
    c.reaches.ensures ∙ ap (λ ts. reaches c.args.interval.now ts c.args.x)
    (sym (own_list row c.self.inside.rows.items c.in-Some.place c.index.result.now
    (ap (position (is_its row)) (sym c.as_slice.ensures.value) ∙ sym c.in-Some.ensures) c.index.ensures)))

pub returns-in-None : goal.returns-in-None
returns-in-None c = rw (← c.self.view_is) (
    let row = c.args.row.now in
    sym (ap (λ ts. reaches c.args.interval.now ts c.args.x) (no_list row c.self.inside.rows.items
    (ap (position (is_its row)) (sym c.as_slice.ensures.value) ∙ sym c.in-None.ensures))))
