use Rattle.eval_until.proofs.ahead.Ahead.find_by.Goals as goal

pub invariant_of-self : goal.invariant_of-self
invariant_of-self c = rw c.in_err-find_by.ensures.old c.self.invariant

pub invariant_of-self-2 : goal.invariant_of-self-2
invariant_of-self-2 c =
    record {
      keeps = rw c.in_ok-find_by.ensures.entries c.self.invariant.keeps;
      wide = c.self.invariant.wide;
      listed = rw c.as_slice-right.ensures.value at c.in_ok-find_by.ensures.listed;
    }
