use Rattle.eval_since.proofs.DataLemmas.{follows_resumed}
use Rattle.eval_since.proofs.since.SinceState.resumed.Goals as goal

pub returns-clause-follows : goal.returns-clause-follows
returns-clause-follows c =
    let rule = rw (← c.self.view_is) at c.requires.rule in
    rw (← c.self.view_is) (
    let s = c.self.inside in
    rw (c.from_vec.ensures.items, c.in_ok-times.ensures.items, c.from_vec-2.ensures.items, c.from_vec-3.ensures.items)
    (λ t a b v f. follows_resumed c.in_ok-window.window s.window.interval s.window.left s.window.right
    s.negated c.args.last c.latest-newest.result c.args.times.now c.args.kept t a b v
    c.in_ok-window.ensures.interval
    c.in_ok-window.ensures.left
    c.in_ok-window.ensures.right
    c.in_ok-window.ensures.last
    c.self.invariant.inside rule.lefts rule.rights rule.rows
    c.in_ok-window.ensures.kept f))
