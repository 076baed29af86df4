use Rattle.std.proofs.Common.{rules, ◌<◌, subst, sym}
use Rattle.turn_hub.specs.Ends.{cell_count}
use Rattle.turn_hub.proofs.Keeps.{there}
use Rattle.thread_cases.proofs.tests.turns_of_two_cells.Goals as goal

pub swap-first-requires-clause-may : goal.swap-first-requires-clause-may
swap-first-requires-clause-may g c =
    let near : 0 < cell_count c.in_ok-hub.hub = search rules in
    let lines = c.in_ok-hub.main.seat.me.0.lines in
    let l = there lines 0 (subst (λ n. 0 < n) (sym c.in_ok-hub.ensures.main.1.4) near) in (l.0, l.1, tt)

pub swap-second-requires-clause-may : goal.swap-second-requires-clause-may
swap-second-requires-clause-may g c =
    let near : 0 < cell_count c.in_ok-hub.hub = search rules in
    let lines = c.swap-first.new.main.seat.me.0.lines in
    let l = there lines 0 (subst (λ n. 0 < n) (sym c.swap-first.ensures.main.4) near) in (l.0, l.1, tt)
