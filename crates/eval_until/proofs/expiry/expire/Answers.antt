use Rattle.std.proofs.Common.{◌≡◌, ◌∷◌, nat_lt}
use Rattle.std.proofs.lemmas.Bool.{and_parts}
use Rattle.std.specs.List.{list_all}
use Rattle.mfotl_model.specs.Tables.{has_row}
use Rattle.relations.specs.KeptRows.{kept_for, list_for}
use Rattle.eval_until.proofs.ThinnedLemmas.{thin_more}
use Rattle.eval_until.proofs.QueueLemmas.{breaks_more, covered_more, fresh_front, front_before, later_more}
use Rattle.eval_until.proofs.expiry.expire.Goals as goal

pub returns-then-front-next-clause-fresh : goal.returns-then-front-next-clause-fresh
returns-then-front-next-clause-fresh c =
    fresh_front c.args.next c.loop-front.queue.items c.in-Some.front.now c.in-Some.ensures.lookup
    c.loop-front.invariant.rising c.if-front-next.true

pub loop-front-preserved : goal.loop-front-preserved
loop-front-preserved c =
    let q = c.in-Some-pop_front.old in
    let rest = c.pop_front.new.self.items in
    let is : c.loop-front.queue.items ≡ q ∷ rest = c.in-Some-pop_front.ensures.items in
    let covered = rw is at c.loop-front.invariant.covered in
    let rising = rw is at c.loop-front.invariant.rising in
    let low = front_before c.args.next c.loop-front.queue.items rest c.in-Some.front.now q is
    c.in-Some.ensures.lookup c.if-front-next.false in
    let rows = c.forget.ensures.entries in
    let starts = rw c.as_slice.ensures.value at c.forget_breaks.ensures in
    record {
      rows = λ u. thin_more c.args.next (list_for c.args.rows.now.entries u)
          (list_for c.loop-front.rows.entries u) (list_for c.forget.new.self.entries u)
          (has_row q.rights.items u) (c.loop-front.invariant.rows u) (rows u);
      some = λ before. c.forget.ensures.some (c.loop-front.invariant.some before);
      listed = λ before. c.forget.ensures.listed (c.loop-front.invariant.listed before);
      starts = λ w. later_more c.args.negated c.args.next (kept_for c.args.starts.now w)
          (kept_for c.loop-front.starts w) (kept_for c.forget_breaks.new.starts w)
          (has_row q.breaks.items w) (c.loop-front.invariant.starts w) (starts w);
      covered = λ u. covered_more c.args.next q rest u (list_for c.loop-front.rows.entries u)
          (list_for c.forget.new.self.entries u) low (covered u) (rows u);
      breaks = λ negated before w. breaks_more c.args.negated c.args.next q rest w
          (kept_for c.loop-front.starts w) (kept_for c.forget_breaks.new.starts w) negated low
          ((rw is at (c.loop-front.invariant.breaks negated before)) w) (starts w);
      rising = rising.1;
      after = λ p all. (and_parts (nat_lt q.place p) (list_all (λ r. nat_lt r.place p) rest)
          (rw is at (c.loop-front.invariant.after p all))).1;
    }
