use Rattle.std.proofs.Common.{◌<◌, subst, sym}
use Rattle.turn_hub.proofs.Keeps.{there}
use Rattle.thread_cases.proofs.passes.hand_over.Goals as goal

-- main knows a line of each cell, and this one is near
pub swap-back-requires-clause-may : goal.swap-back-requires-clause-may
swap-back-requires-clause-may c =
    let lines = c.args.main.now.seat.me.0.lines in
    let near = subst (λ n. c.args.number < n) (sym c.requires.main.4) c.requires.near in
    let l = there lines c.args.number near in
    (l.0, l.1, tt)
