use Rattle.std.proofs.Common.{◌≡◌, length, sym, subst, ap, ◌∙◌}
use Rattle.relations.specs.KeptRows.{kept_for, list_for}
use Rattle.eval_until.specs.Keeping.{Sized}
use Rattle.until_rows.specs.{Recalled.entries_kept, Recalled.starts_kept, Timed.has_time}
use Rattle.eval_until.specs.Rules.{Ascending, StartsAbove, StartsBelow, Waiting}
use Rattle.until_rows.specs.Rules.{NoneEmpty}
use Rattle.until_rows.proofs.OrderLemmas.{ascending_is, kept_in_order}
use Rattle.eval_until.proofs.ResumeLemmas.{each_ascends, each_passes, some_found}
use Rattle.eval_until.proofs.{TimedLemmas.have_times, WideLemmas.wide_found}
use Rattle.eval_until.proofs.ahead.Ahead.recall.Goals as goal

pub rows_map-requires-clause-places : goal.rows_map-requires-clause-places
rows_map-requires-clause-places c =
    each_ascends (entries_kept c.args.pulled c.args.times.now c.args.rows.items) c.requires.rows c.requires.ascend

pub rows_map-requires-clause-timed : goal.rows_map-requires-clause-timed
rows_map-requires-clause-timed c =
    let kept = entries_kept c.args.pulled c.args.times.now c.args.rows.items in
    each_passes (has_time c.args.pulled c.args.times.now) kept c.requires.rows (λ u.
    have_times c.args.pulled c.args.taken c.args.times.now (list_for kept u) c.requires.high (c.requires.waiting u))

pub recalled-requires-clause-sized : goal.recalled-requires-clause-sized
recalled-requires-clause-sized c =
    let kept = entries_kept c.args.pulled c.args.times.now c.args.rows.items in
    rw c.as_slice-right.ensures.value (
    subst (Sized (length c.self.inside.right.items))
    (sym (ascending_is kept c.in_ok-rows.rows.entries c.requires.rows c.in_ok-rows.ensures.ascend
    c.in_ok-rows.ensures.found))
    (rw (← c.self.view_is) at c.requires.sized))

pub recalled-requires-clause-some : goal.recalled-requires-clause-some
recalled-requires-clause-some c =
    let kept = entries_kept c.args.pulled c.args.times.now c.args.rows.items in
    subst NoneEmpty
    (sym (ascending_is kept c.in_ok-rows.rows.entries c.requires.rows c.in_ok-rows.ensures.ascend
    c.in_ok-rows.ensures.found))
    (some_found kept c.requires.some)

pub recalled-requires-clause-ascend : goal.recalled-requires-clause-ascend
recalled-requires-clause-ascend c =
    let kept = entries_kept c.args.pulled c.args.times.now c.args.rows.items in
    subst Ascending
    (sym (ascending_is kept c.in_ok-rows.rows.entries c.requires.rows c.in_ok-rows.ensures.ascend
    c.in_ok-rows.ensures.found))
    c.requires.ascend

pub go_on-requires-clause-kept : goal.go_on-requires-clause-kept
go_on-requires-clause-kept c = rw (← c.self.view_is) (
    let starts = starts_kept c.args.starts.items in
    let rows = entries_kept c.args.pulled c.args.times.now c.args.rows.items in
    let starts_are : starts ≡ c.in_ok-starts.starts.entries = sym (ascending_is starts c.in_ok-starts.starts.entries
    c.requires.starts c.in_ok-starts.ensures.ascend c.in_ok-starts.ensures.found) in
    let rows_are : rows ≡ c.in_ok-rows.rows.entries = sym (ascending_is rows c.in_ok-rows.rows.entries
    c.requires.rows c.in_ok-rows.ensures.ascend c.in_ok-rows.ensures.found) in
    (rw c.as_slice-right.ensures.value at c.in_ok-contents.ensures.kept) c.args.pulled c.args.taken
    (subst (Waiting c.args.pulled c.args.taken) rows_are c.requires.waiting)
    (subst (StartsBelow c.args.taken) starts_are c.requires.below)
    (λ is. subst (StartsAbove c.args.pulled) starts_are ((rw (← c.self.view_is) at c.requires.above) is)))

pub go_on-requires-clause-wide : goal.go_on-requires-clause-wide
go_on-requires-clause-wide c =
    let wide = rw (← c.self.view_is) at c.requires.wide in
    rw (← c.self.view_is) (λ w other.
    let starts = starts_kept c.args.starts.items in
    sym (kept_in_order c.in_ok-contents.contents.starts w)
    ∙ ap (λ rows. kept_for rows w) (c.in_ok-contents.ensures.starts ∙ ascending_is starts c.in_ok-starts.starts.entries
    c.requires.starts c.in_ok-starts.ensures.ascend c.in_ok-starts.ensures.found)
    ∙ wide_found (length c.self.inside.left.items) starts wide w other)

pub go_on-requires-clause-listed : goal.go_on-requires-clause-listed
go_on-requires-clause-listed c =
    rw (← c.self.view_is) (rw c.as_slice-right.ensures.value at c.in_ok-contents.ensures.listed)

pub returns-clause-recalled : goal.returns-clause-recalled
returns-clause-recalled c =
    let starts = starts_kept c.args.starts.items in
    let rows = entries_kept c.args.pulled c.args.times.now c.args.rows.items in
    c.go_on.ensures ∙ (λ i. record c.args.self.now {
      pulled = c.args.pulled;
      taken = c.args.taken;
      starts = (c.in_ok-contents.ensures.starts ∙ ascending_is starts c.in_ok-starts.starts.entries
          c.requires.starts c.in_ok-starts.ensures.ascend c.in_ok-starts.ensures.found) i;
      rows = (c.in_ok-contents.ensures.rows ∙ ascending_is rows c.in_ok-rows.rows.entries
          c.requires.rows c.in_ok-rows.ensures.ascend c.in_ok-rows.ensures.found) i;
    })
