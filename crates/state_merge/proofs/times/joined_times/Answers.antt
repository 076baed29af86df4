use Rattle.state_merge.proofs.PutLemmas.{times_walked}
use Rattle.state_merge.proofs.times.joined_times.Goals as goal

pub returns-in_ok-times-in-Some : goal.returns-in_ok-times-in-Some
returns-in_ok-times-in-Some c =
    rw c.in-Some.is
    (times_walked _ _ _ c.requires.first c.requires.second c.in_ok-times-in-Some.ensures)
