use Rattle.std.proofs.Common.{cond, sym, subst, ◌∙◌}
use Rattle.std.specs.BTreeMap.{is_at}
use Rattle.mfotl_model.specs.Values.{row_cmp}
use Rattle.relations.specs.KeptRows.{list_for}
use Rattle.row_times.specs.{Groups.HaveTimes, HeldTimes.held_times}
use Rattle.row_times.proofs.{FilledLemmas.one_has, OneRowLemmas.times_one}
use Rattle.row_times.proofs.held.with_times.Goals as goal

pub returns-in-Zero-clause-times : goal.returns-in-Zero-clause-times
returns-in-Zero-clause-times c = λ v.
    times_one c.args.row c.args.times v
    ∙ (λ i. cond (is_at (row_cmp c.args.row) v) c.args.times (list_for (held_times (sym c.in-Zero.is i)) v))

pub returns-in-Zero-clause-some : goal.returns-in-Zero-clause-some
returns-in-Zero-clause-some c = λ some _. one_has c.args.row c.args.times some

pub returns-in_ok-put-in-Many-clause-some : goal.returns-in_ok-put-in-Many-clause-some
returns-in_ok-put-in-Many-clause-some c = rw c.in-Many.is
    (rw c.deref_mut.ensures.value at c.in_ok-put-in-Many.ensures.some)

pub returns-in_ok-put-in-One-clause-some : goal.returns-in_ok-put-in-One-clause-some
returns-in_ok-put-in-One-clause-some c = rw c.in-One.is (λ some have.
    c.in_ok-put-in-One.ensures.some some (subst HaveTimes (sym c.in_ok-rows-in-One.ensures) have))

pub returns-in-Few-clause-some : goal.returns-in-Few-clause-some
returns-in-Few-clause-some c = rw c.in-Few.is c.few_with_times.ensures.some
