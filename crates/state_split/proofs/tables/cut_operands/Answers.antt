use Rattle.state_split.proofs.ShareLemmas.{each_paired}
use Rattle.state_split.proofs.tables.cut_operands.Goals as goal

pub returns : goal.returns
returns g c = each_paired _ _ _ _ _ _ c.in_ok-lefts.ensures c.in_ok-rights.ensures c.in_ok-cuts.ensures
