use Rattle.std.proofs.Common.{refl}
use Rattle.state_merge.proofs.merging.with_piece.Goals as goal

pub returns-in_ok-united-in-Some : goal.returns-in_ok-united-in-Some
returns-in_ok-united-in-Some c = rw c.in-Some.is (c.in_ok-united-in-Some.united, refl, c.in_ok-united-in-Some.ensures)
