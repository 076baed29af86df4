use Rattle.state_split.proofs.CutLaw.{cut_is_piece}
use Rattle.state_split.proofs.laws.cut_is_piece.Goals as goal

pub returns : goal.returns
returns c = cut_is_piece
