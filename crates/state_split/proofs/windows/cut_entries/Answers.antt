use Rattle.state_split.proofs.ShareLemmas.{each_paired}
use Rattle.state_split.proofs.windows.cut_entries.Goals as goal

pub returns : goal.returns
returns g c = each_paired _ _ _ _ _ _ c.in_ok-starts.ensures c.in_ok-rows.ensures c.in_ok-entries.ensures
