use Rattle.std.proofs.Common.{Bool, ◌+◌, cond, ◌&&◌, nat_le, nat_lt, sym, ap, ◌∙◌}
use Rattle.std.specs.{List.list_all, Option.unwrap_or}
use Rattle.relations.specs.KeptRows.{kept_for, list_for}
use Rattle.until_rows.specs.Entries.{met_by}
use Rattle.until_rows.specs.declared.entries.Entry.{Entry}
use Rattle.eval_until.proofs.ThinnedLemmas.{all_thinned, ascend_thinned, met_thinned, none_thinned}
use Rattle.eval_until.proofs.{KeepingLemmas.later_low, KeepingLemmas.start_later, QueueLemmas.entries_waiting}
use Rattle.eval_until.proofs.WideLemmas.{none_later}
use Rattle.until_rows.proofs.OrderLemmas.{entries_in_order, kept_in_order}
use Rattle.eval_until.proofs.ahead.Ahead.advance.Goals as goal

pub invariant_of-self : goal.invariant_of-self
invariant_of-self c =
    let k = c.self.inside in
    let next = k.pulled + 1 in
    let kept = c.self.invariant.keeps in
    let old = list_for k.contents.rows.entries in
    let new = list_for c.expire.new.rows.entries in
    let thin = c.expire.ensures.rows in
    record {
      keeps = record {
        apart = kept.apart;
        sized = λ u other. none_thinned next (old u) (new u) (thin u) (kept.sized u other);
        some = c.expire.ensures.some kept.some;
        ascend = λ u. ascend_thinned next (old u) (new u) (thin u) (kept.ascend u);
        below = λ u. all_thinned (λ e. nat_lt e.place k.taken && nat_le e.start e.place) next (old u) (new u) (thin u)
            (kept.below u);
        low = λ w. later_low k.negated next k.taken (kept_for k.contents.starts w) (kept_for c.expire.new.starts w)
            (c.expire.ensures.starts w) (kept.low w);
        covered = c.expire.ensures.covered;
        breaks = λ is. c.expire.ensures.breaks is (kept.breaks is);
        rising = c.expire.ensures.rising;
        after = c.expire.ensures.after k.taken kept.after;
        fresh = c.expire.ensures.fresh;
      };
      wide = λ w other. none_later k.negated next (kept_for k.contents.starts w) (kept_for c.expire.new.starts w)
          (c.expire.ensures.starts w) (c.self.invariant.wide w other);
      listed = (rw c.as_slice-right.ensures.value at c.expire.ensures.listed) c.self.invariant.listed;
    }

pub returns-clause-met : goal.returns-clause-met
returns-clause-met c = rw (← c.self.view_is) (
    let k = c.self.inside in
    λ i x u low. ap (met_by k.interval i x) (entries_in_order c.expire.new.rows.entries u)
    ∙ met_thinned k.interval i x (k.pulled + 1) (list_for k.contents.rows.entries u)
    (list_for c.expire.new.rows.entries u) low (c.expire.ensures.rows u)
    ∙ ap (met_by k.interval i x) (sym (entries_in_order k.contents.rows.entries u)))

pub returns-clause-start : goal.returns-clause-start
returns-clause-start c = rw (← c.self.view_is) (
    let k = c.self.inside in
    λ i w low.
    ap (λ o. nat_le (unwrap_or o (cond k.negated 0 k.taken)) i) (kept_in_order c.expire.new.starts w)
    ∙ start_later k.negated (k.pulled + 1) k.taken i (kept_for k.contents.starts w)
    (kept_for c.expire.new.starts w) low (c.expire.ensures.starts w)
    ∙ ap (λ o. nat_le (unwrap_or o (cond k.negated 0 k.taken)) i)
    (sym (kept_in_order k.contents.starts w)))

pub returns-clause-waiting : goal.returns-clause-waiting
returns-clause-waiting c = rw (← c.self.view_is) (
    let k = c.self.inside in
    let new = list_for c.expire.new.rows.entries in
    λ u. rw (entries_in_order c.expire.new.rows.entries u) (
    entries_waiting (k.pulled + 1) k.taken u c.expire.new.queue.items (new u) c.expire.ensures.fresh
    (c.expire.ensures.covered u)
    (all_thinned (λ e. nat_lt e.place k.taken && nat_le e.start e.place) (k.pulled + 1)
    (list_for k.contents.rows.entries u) (new u) (c.expire.ensures.rows u) (c.self.invariant.keeps.below u))))

pub returns-clause-times : goal.returns-clause-times
returns-clause-times c = rw (← c.self.view_is) (
    let k = c.self.inside in
    λ test old u.
    let p : Entry → Bool = λ e. test e.place e.ts in
    ap (list_all p) (entries_in_order c.expire.new.rows.entries u)
    ∙ all_thinned p (k.pulled + 1) (list_for k.contents.rows.entries u) (list_for c.expire.new.rows.entries u)
    (c.expire.ensures.rows u) (ap (list_all p) (sym (entries_in_order k.contents.rows.entries u)) ∙ old u))
