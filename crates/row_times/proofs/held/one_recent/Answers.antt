use Rattle.std.proofs.Common.{refl, sym, ◌∙◌}
use Rattle.row_times.specs.Times.{recent}
use Rattle.row_times.proofs.{GroupLemmas.recent_none, OneRowLemmas.one_apart, OneRowLemmas.one_changed}
use Rattle.row_times.proofs.held.one_recent.Goals as goal

pub returns-then-eq-clause-times : goal.returns-then-eq-clause-times
returns-then-eq-clause-times c = λ v.
    c.same_recent.ensures.times v
    ∙ one_changed c.args.first (recent c.args.hi c.args.now) c.args.row.now c.args.times
    (recent c.args.hi c.args.now c.args.times) (sym c.eq.ensures ∙ c.if-eq.true) refl v

pub returns-clause-times : goal.returns-clause-times
returns-clause-times c =
    one_apart c.args.first (recent c.args.hi c.args.now) c.args.row.now c.args.times
    (recent_none c.args.hi c.args.now) (sym c.eq.ensures ∙ c.if-eq.false)

pub returns-then-eq-clause-some : goal.returns-then-eq-clause-some
returns-then-eq-clause-some c = λ _. c.same_recent.ensures.some

pub returns-clause-some : goal.returns-clause-some
returns-clause-some c = λ have. have
