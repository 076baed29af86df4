use Rattle.std.proofs.Common.{sym, subst}
use Rattle.verdict_merge.specs.Generations.{AreBegun}
use Rattle.verdict_merge.proofs.gather.Gather.new.Goals as goal

pub invariant_of-result : goal.invariant_of-result
invariant_of-result c = subst AreBegun (sym c.new.ensures.items) (record { apart = tt; some = tt })
