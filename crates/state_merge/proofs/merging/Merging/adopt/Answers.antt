use Rattle.std.proofs.Common.{Some}
use Rattle.state_merge.proofs.MergeLaws.{adopt_merges}
use Rattle.state_merge.proofs.merging.Merging.adopt.Goals as goal

pub returns-clause-merges : goal.returns-clause-merges
returns-clause-merges c = λ core s s2 k2 log ks k merged stands.
    adopt_merges core s s2 k2 log ks k c.args.self.now.merged (Some c.in_ok-state.state) c.args.piece merged stands
    (rw c.take-merged.ensures.value at c.in_ok-state.ensures)
