use Rattle.std.proofs.Common.{subst, sym, ap}
use Rattle.eval_since.specs.SinceData.{FollowsData, SinceSetting, setting_of}
use Rattle.eval_since.proofs.since.SinceState.resume.Goals as goal

pub returns-clause-follows : goal.returns-clause-follows
returns-clause-follows c = λ t a b v f.
    c.in_ok-state.ensures.follows t a b v
    (subst (λ (s : SinceSetting). FollowsData s c.args.last c.args.times.now c.args.kept t a b v)
    (sym (ap setting_of c.in_ok-fresh.ensures.state)) f)
