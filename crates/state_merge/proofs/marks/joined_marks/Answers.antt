use Rattle.state_merge.proofs.PutLemmas.{marks_walked}
use Rattle.state_merge.proofs.marks.joined_marks.Goals as goal

pub returns : goal.returns
returns c = marks_walked _ _ _ c.requires.first c.requires.second c.in_ok-marks.ensures
