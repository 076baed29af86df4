use Rattle.std.proofs.Common.{Bool, ◌+◌, ◌-◌, cond, nat_le, ◌&&◌, ◌||◌, refl, sym, ap, ap₂, ◌∙◌}
use Rattle.std.specs.{List.list_all, Option.unwrap_or}
use Rattle.mfotl_model.specs.{Intervals.in_interval, Tables.has_row, Tables.part}
use Rattle.relations.specs.{KeptRows.kept_for, KeptRows.list_for, Pushed.turned}
use Rattle.until_rows.specs.{Entries.met_by, Starts.start_of}
use Rattle.until_rows.specs.declared.entries.Entry.{Entry}
use Rattle.eval_until.proofs.{KeepingLemmas.met_taken, KeepingLemmas.start_stepped, TimedLemmas.passes_taken}
use Rattle.until_rows.proofs.OrderLemmas.{entries_in_order, kept_in_order}
use Rattle.eval_until.proofs.ahead.Ahead.take.Goals as goal

pub returns-in-Ok-clause-met : goal.returns-in-Ok-clause-met
returns-in-Ok-clause-met c = rw (← c.self.view_is) (
    let k = c.self.inside in
    λ i x u.
    ap (met_by k.interval i x) (entries_in_order c.take_position-taken.new.contents.rows.entries u)
    ∙ met_taken k.interval i x (has_row c.args.rights.rows u) (list_for k.contents.rows.entries u)
    (list_for c.take_position-taken.new.contents.rows.entries u)
    (record {
      place = k.taken;
      start = start_of k.negated k.taken k.contents.starts (part k.right.items k.left.items u);
      ts = c.args.ts;
    })
    ((rw (c.as_slice.ensures.value, c.as_slice-2.ensures.value) at c.in-Ok.ensures.rows) u)
    ∙ ap₂ (λ m s. m || (has_row c.args.rights.rows u
    && (nat_le s i && nat_le i k.taken && in_interval k.interval (c.args.ts - x))))
    (ap (met_by k.interval i x) (sym (entries_in_order k.contents.rows.entries u)))
    (ap (λ o. unwrap_or o (cond k.negated 0 k.taken))
    (sym (kept_in_order k.contents.starts (part k.right.items k.left.items u)))))

pub returns-in-Ok-clause-start : goal.returns-in-Ok-clause-start
returns-in-Ok-clause-start c = rw (← c.self.view_is) (
    let k = c.self.inside in
    λ w.
    ap (λ o. unwrap_or o (cond k.negated 0 (k.taken + 1)))
    (kept_in_order c.take_position-taken.new.contents.starts w)
    ∙ start_stepped k.negated (has_row c.args.lefts.rows w) k.taken
    (start_of k.negated k.taken k.contents.starts w)
    (kept_for k.contents.starts w) (kept_for c.take_position-taken.new.contents.starts w) refl
    (c.in-Ok.ensures.starts w)
    ∙ ap (λ o. cond (turned k.negated (has_row c.args.lefts.rows w)) (unwrap_or o (cond k.negated 0 k.taken))
    (k.taken + 1)) (sym (kept_in_order k.contents.starts w)))

pub returns-in-Ok-clause-times : goal.returns-in-Ok-clause-times
returns-in-Ok-clause-times c = rw (← c.self.view_is) (
    let k = c.self.inside in
    λ test old passes u.
    let p : Entry → Bool = λ e. test e.place e.ts in
    ap (list_all p) (entries_in_order c.take_position-taken.new.contents.rows.entries u)
    ∙ passes_taken p (has_row c.args.rights.rows u) (list_for k.contents.rows.entries u)
    (list_for c.take_position-taken.new.contents.rows.entries u)
    (record {
      place = k.taken;
      start = start_of k.negated k.taken k.contents.starts (part k.right.items k.left.items u);
      ts = c.args.ts;
    })
    ((rw (c.as_slice.ensures.value, c.as_slice-2.ensures.value) at c.in-Ok.ensures.rows) u)
    (ap (list_all p) (sym (entries_in_order k.contents.rows.entries u)) ∙ old u) passes)
