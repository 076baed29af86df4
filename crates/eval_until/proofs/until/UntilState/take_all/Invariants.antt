use Rattle.std.proofs.Common.{◌-◌, ◌≤◌, ℕ, Bool, List}
use Rattle.mfotl_model.specs.Satisfaction.{Valuation}
use Rattle.eval_until.specs.UntilView.{Follows, FollowsLeft, Takes, to_take}
use Rattle.eval_until.proofs.until.UntilState.take_all.Given as goal

abbrev pub invariant-loop-alloc : goal.invariant-loop-alloc
invariant-loop-alloc l = record {
  takes : Takes (l.self.ahead.taken - l.fn.self.ahead.taken) l.fn.self l.self;
  few : l.self.ahead.taken - l.fn.self.ahead.taken ≤ to_take l.fn.self;
  left : (a : List Bool) (v : Valuation) → FollowsLeft l.fn.self a v → FollowsLeft l.self a v;
  follows : (t : List ℕ) (a b : List Bool) (v : Valuation) → Follows l.fn.self t a b v → Follows l.self t a b v;
}

abbrev pub decreases-loop-alloc : goal.decreases-loop-alloc
decreases-loop-alloc l = to_take l.self
