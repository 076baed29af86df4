use Rattle.std.proofs.Common.{sym, subst, ap, ◌∙◌, drop}
use Rattle.until_rows.specs.{Entries.from_place, Rules.PlacesAscend}
use Rattle.until_rows.proofs.EntriesLemmas.{from_front, from_here, from_none}
use Rattle.until_rows.proofs.LevelLemmas.{kept_rest}
use Rattle.until_rows.proofs.entries.Entries.forget.Goals as goal

pub returns-then-first-next : goal.returns-then-first-next
returns-then-first-next c =
    let items = c.loop-first.self-inside.list in
    c.in-Some.ensures
    ∙ sym (from_here c.args.next c.in-Some.first (drop 1 items) c.if-first-next.true
    (subst PlacesAscend c.in-Some.ensures c.loop-first.invariant.kept.places))
    ∙ ap (from_place c.args.next) (sym c.in-Some.ensures) ∙ c.loop-first.invariant.same

pub loop-first-preserved : goal.loop-first-preserved
loop-first-preserved c =
    let items = c.loop-first.self-inside.list in
    record {
      kept = rw c.pop_front.ensures.rest
          (kept_rest c.loop-first.self-inside.level items c.loop-first.invariant.kept);
      same = ap (from_place c.args.next) c.pop_front.ensures.rest
          ∙ sym (from_front c.args.next c.in-Some.first (drop 1 items) c.if-first-next.false)
          ∙ ap (from_place c.args.next) (sym c.in-Some.ensures) ∙ c.loop-first.invariant.same;
    }

pub returns : goal.returns
returns c = c.in_default.ensures ∙ sym (from_none c.args.next)
    ∙ ap (from_place c.args.next) (sym c.in_default.ensures) ∙ c.loop-first.invariant.same
