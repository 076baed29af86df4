use Rattle.eval_since.proofs.ExpireLemmas.{bounded_is}
use Rattle.eval_since.proofs.window.Window.is_bounded.Goals as goal

pub returns : goal.returns
returns c = rw (← c.self.view_is) (
    let w = c.self.inside in
    record {
      bounded = bounded_is w.interval.hi w.last w.contents.groups w.contents.dated.items c.self.invariant.finds;
      past = c.self.invariant.past;
      ascend = c.self.invariant.ascend;
      alone = c.self.invariant.alone;
      some = c.self.invariant.some;
      placed = c.self.invariant.placed;
    })
