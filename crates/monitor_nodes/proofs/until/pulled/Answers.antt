use Rattle.std.proofs.Common.{◌≡◌, ◌-◌, nat_eq, sym, ap, ◌∙◌, arith}
use Rattle.eval_until.proofs.TakingLemmas.{due_stays, left_over}
use Rattle.eval_until.specs.UntilView.{to_take}
use Rattle.monitor_nodes.proofs.UntilLemmas.{pulled_end, pulled_fewer, pulled_more, pulled_none}
use Rattle.monitor_nodes.proofs.until.pulled.Goals as goal

pub loop-tables-init : goal.loop-tables-init
loop-tables-init c = rw c.new-tables.ensures (pulled_none c.args.order.now.columns c.args.state.now)

pub loop-tables-smaller : goal.loop-tables-smaller
loop-tables-smaller c =
    let pulled = rw c.in-Some.is at c.in_ok-table.ensures in pulled_fewer pulled.due pulled.state

pub loop-tables-preserved : goal.loop-tables-preserved
loop-tables-preserved c =
    let pulled = rw c.in-Some.is at c.in_ok-table.ensures in
    pulled_more c.loop-tables.invariant pulled.due pulled.state pulled.left pulled.follows pulled.columns pulled.rows
    c.in_ok-push_in_order.ensures

pub returns-clause-pulled : goal.returns-clause-pulled
returns-clause-pulled c =
    let last = rw c.in_default.is at c.in_ok-table.ensures in
    pulled_end c.loop-tables.invariant last.state last.left last.follows

pub returns-clause-ends : goal.returns-clause-ends
returns-clause-ends c =
    let last = rw c.in_default.is at c.in_ok-table.ensures in
    due_stays (to_take c.loop-tables.state) c.loop-tables.state c.pull.new.self last.state (omega arith) ∙ sym last.due

pub returns-clause-all : goal.returns-clause-all
returns-clause-all c =
    let last = rw c.in_default.is at c.in_ok-table.ensures in
    let none : to_take c.loop-tables.state - to_take c.loop-tables.state ≡ 0 = omega arith in
    ap (λ n. nat_eq n 0)
    (left_over (to_take c.loop-tables.state) c.loop-tables.state c.pull.new.self last.state ∙ none)
