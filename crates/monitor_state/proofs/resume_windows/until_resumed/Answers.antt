use Rattle.std.proofs.Common.{◌∙◌}
use Rattle.monitor_state.proofs.resume_windows.until_resumed.Goals as goal

pub returns : goal.returns
returns c = record {
  setting = c.in_ok-resumed.ensures.setting;
  pulled = c.in_ok-resumed.ensures.pulled;
  taken = c.in_ok-resumed.ensures.taken;
  times = c.in_ok-resumed.ensures.times ∙ c.from_place-next.ensures;
  lefts = c.in_ok-resumed.ensures.lefts;
  rights = c.in_ok-resumed.ensures.rights;
  left = λ a v f. c.in_ok-resumed.ensures.left a v (rw c.from_place-next.ensures f);
  follows = λ t a b v f. c.in_ok-resumed.ensures.follows t a b v (rw c.from_place-next.ensures f);
}
