use Rattle.std.proofs.Common.{sym, subst, ◌∙◌}
use Rattle.row_times.specs.Times.{ArePast, added}
use Rattle.row_times.proofs.{FilledLemmas.one_has, FilledLemmas.some_added, OneRowLemmas.one_changed}
use Rattle.row_times.proofs.{OneRowLemmas.own_times}
use Rattle.row_times.proofs.held.next_time.Goals as goal

pub add-requires : goal.add-requires
add-requires c = subst (ArePast c.args.x)
    (own_times c.args.first c.args.row c.args.times (sym c.eq.ensures ∙ c.if-eq.true)) c.requires

pub returns-then-eq-clause-times : goal.returns-then-eq-clause-times
returns-then-eq-clause-times c =
    one_changed c.args.first (λ ts. added c.args.bounded ts c.args.x) c.args.row c.args.times c.add.new.self
    (sym c.eq.ensures ∙ c.if-eq.true) c.in_ok-add.ensures

pub returns-then-eq-clause-some : goal.returns-then-eq-clause-some
returns-then-eq-clause-some c = λ _.
    one_has c.args.first c.add.new.self (rw c.in_ok-add.ensures (some_added c.args.bounded c.args.times c.args.x))
