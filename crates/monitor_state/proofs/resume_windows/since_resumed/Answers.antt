use Rattle.std.proofs.Common.{◌∙◌}
use Rattle.monitor_state.proofs.resume_windows.since_resumed.Goals as goal

pub returns : goal.returns
returns c = record {
  setting = c.in_ok-resumed.ensures.setting;
  pulled = c.in_ok-resumed.ensures.pulled;
  last = c.in_ok-resumed.ensures.last ∙ c.before_place-last.ensures;
  times = c.in_ok-resumed.ensures.times ∙ c.from_place-next.ensures;
  lefts = c.in_ok-resumed.ensures.lefts;
  rights = c.in_ok-resumed.ensures.rights;
  follows = λ t a b v f. c.in_ok-resumed.ensures.follows t a b v
      (rw (c.before_place-last.ensures, c.from_place-next.ensures) f);
}
