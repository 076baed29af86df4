use Rattle.std.proofs.Common.{cond, sym, ◌∙◌}
use Rattle.std.specs.BTreeMap.{is_at}
use Rattle.mfotl_model.specs.Values.{row_cmp}
use Rattle.relations.specs.KeptRows.{list_for}
use Rattle.row_times.specs.{HeldTimes.held_times, Times.recent}
use Rattle.row_times.proofs.GroupLemmas.{nothing_recent}
use Rattle.row_times.proofs.held.with_recent.Goals as goal

pub returns-in-Zero-clause-times : goal.returns-in-Zero-clause-times
returns-in-Zero-clause-times c = λ v.
    nothing_recent c.args.hi c.args.now v (is_at (row_cmp c.args.row) v)
    ∙ (λ i. cond (is_at (row_cmp c.args.row) v)
    (recent c.args.hi c.args.now (list_for (held_times (sym c.in-Zero.is i)) v))
    (list_for (held_times (sym c.in-Zero.is i)) v))

pub returns-in-One-clause-some : goal.returns-in-One-clause-some
returns-in-One-clause-some c = rw c.in-One.is c.one_recent.ensures.some

pub returns-in-Many-clause-some : goal.returns-in-Many-clause-some
returns-in-Many-clause-some c = rw c.in-Many.is (rw c.deref_mut.ensures.value at c.forget-in-Many.ensures.some)

pub returns-in-Few-clause-some : goal.returns-in-Few-clause-some
returns-in-Few-clause-some c = rw c.in-Few.is c.forget.ensures.some
