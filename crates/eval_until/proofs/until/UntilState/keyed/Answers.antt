use Rattle.eval_until.proofs.until.UntilState.keyed.Goals as goal

pub returns-clause-left : goal.returns-clause-left
returns-clause-left c = rw (c.find_by.ensures, c.state.view_is) c.in_ok-state.ensures.left

pub returns-clause-follows : goal.returns-clause-follows
returns-clause-follows c = rw (c.find_by.ensures, c.state.view_is) c.in_ok-state.ensures.follows
