use Rattle.eval_since.proofs.since.SinceState.keeps_no_more.Goals as goal

pub returns : goal.returns
returns c = rw (← c.self.view_is) (record {
  bounded = c.is_bounded.ensures.bounded;
  past = c.is_bounded.ensures.past;
  ascend = c.is_bounded.ensures.ascend;
  alone = c.is_bounded.ensures.alone;
  some = c.is_bounded.ensures.some;
  placed = c.is_bounded.ensures.placed;
})
