use Rattle.eval_since.proofs.PreviousLemmas.{later_answers}
use Rattle.eval_since.proofs.previous.PrevState.pull_later.Goals as goal

pub returns-clause-rows : goal.returns-clause-rows
returns-clause-rows c = rw (← c.self.view_is) (λ t a v f.
    rw (c.only_where.ensures.has v, c.contains-inside.ensures, c.saturating_sub.ensures)
    (later_answers f c.in-Some.now c.pop_front.new.self.items c.in-Some-pop_front.table
    c.pop_front-2.new.self.items (rw (← c.self.view_is) at c.requires.later)
    c.in-Some.ensures.items c.in-Some-pop_front.ensures.items))
