use Rattle.std.proofs.Common.{sym, ap, ◌∙◌}
use Rattle.row_times.specs.Times.{reaches}
use Rattle.row_times.proofs.OneRowLemmas.{other_times, own_times}
use Rattle.row_times.proofs.group.row_reaches.Goals as goal

pub returns-then-eq : goal.returns-then-eq
returns-then-eq c =
    c.reaches.ensures ∙ ap (λ ts. reaches c.args.interval.now ts c.args.x)
    (sym (own_times c.args.first.now c.args.row.now c.args.times.now (sym c.eq.ensures ∙ c.if-eq.true)))

pub returns : goal.returns
returns c = ap (λ ts. reaches c.args.interval.now ts c.args.x)
    (other_times c.args.first.now c.args.row.now c.args.times.now (sym c.eq.ensures ∙ c.if-eq.false))
