use Rattle.eval_since.proofs.StepLemmas.{covered_after, joined, kept_bounded, kept_unbounded, past_before, placed_after}
use Rattle.eval_since.proofs.StepLemmas.{rising_after, within_after, within_bounded}
use Rattle.eval_since.specs.LeftOperand.{lead, left_has}
use Rattle.eval_since.proofs.contents.step.Goals as goal

pub add_rows-requires : goal.add_rows-requires
add_rows-requires c =
    past_before (λ q. left_has c.args.negated c.args.lefts.now.rows (lead c.args.closed q)) c.apply_left.new.groups
    c.requires.rises c.requires.kept c.in_ok-apply_left.ensures.times

pub returns-in_default : goal.returns-in_default
returns-in_default c =
    let j = joined c.args.interval.now (λ q. left_has c.args.negated c.args.lefts.now.rows (lead c.args.closed q))
    c.args.rights.items c.args.now c.apply_left.new.groups c.add_rows.new.groups c.requires.kept c.requires.rises
    c.requires.sized c.in_ok-apply_left.ensures.times
    (rw (c.as_slice-rows.ensures.value, c.is_some.ensures) at c.in_ok-add_rows.ensures.times)
    (c.in_ok-add_rows.ensures.some (c.in_ok-apply_left.ensures.some c.requires.kept.some)) in
    record { within = λ x u _. within_after j x u; kept = kept_unbounded j c.in_default.is }

pub expire-requires : goal.expire-requires
expire-requires c =
    let j = joined c.args.interval.now (λ q. left_has c.args.negated c.args.lefts.now.rows (lead c.args.closed q))
    c.args.rights.items c.args.now c.apply_left.new.groups c.add_rows.new.groups c.requires.kept c.requires.rises
    c.requires.sized c.in_ok-apply_left.ensures.times
    (rw (c.as_slice-rows.ensures.value, c.is_some.ensures) at c.in_ok-add_rows.ensures.times)
    (c.in_ok-add_rows.ensures.some (c.in_ok-apply_left.ensures.some c.requires.kept.some)) in
    record {
      placed = placed_after j;
      covered = covered_after j c.in-Some.hi c.in-Some.is c.put_dated.new.queue.items c.in_ok-put_dated.ensures;
      rising = rising_after j c.in-Some.hi c.in-Some.is c.put_dated.new.queue.items c.in_ok-put_dated.ensures;
    }

pub returns : goal.returns
returns c =
    let j = joined c.args.interval.now (λ q. left_has c.args.negated c.args.lefts.now.rows (lead c.args.closed q))
    c.args.rights.items c.args.now c.apply_left.new.groups c.add_rows.new.groups c.requires.kept c.requires.rises
    c.requires.sized c.in_ok-apply_left.ensures.times
    (rw (c.as_slice-rows.ensures.value, c.is_some.ensures) at c.in_ok-add_rows.ensures.times)
    (c.in_ok-add_rows.ensures.some (c.in_ok-apply_left.ensures.some c.requires.kept.some)) in
    let thin = c.in_ok-expire.ensures.thin in
    record {
      within = within_bounded j c.in-Some.hi c.in-Some.is c.put_dated.new.queue.items c.in_ok-put_dated.ensures
          c.expire.new.groups c.expire.new.dated.items thin;
      kept = kept_bounded j c.in-Some.hi c.in-Some.is c.put_dated.new.queue.items c.in_ok-put_dated.ensures
          c.expire.new.groups c.expire.new.dated.items thin
          (c.in_ok-expire.ensures.some (c.in_ok-add_rows.ensures.some (c.in_ok-apply_left.ensures.some
          c.requires.kept.some)))
          c.in_ok-expire.ensures.covered c.in_ok-expire.ensures.rising c.in_ok-expire.ensures.fresh
          c.in_ok-expire.ensures.after c.in_ok-expire.ensures.rows;
    }
