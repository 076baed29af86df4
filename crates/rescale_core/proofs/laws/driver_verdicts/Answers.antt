use Rattle.rescale_core.specs.Worlds.{spot_in}
use Rattle.rescale_worker.specs.Lines.{first_spot, spot_after}
use Rattle.std.proofs.Common.{◌≡◌, ◌++◌}
use Rattle.rescale_core.proofs.{Verdicts.read_on, WorldLemmas.spot_more}
use Rattle.rescale_core.proofs.laws.driver_verdicts.Goals as goal

pub returns : goal.returns
returns c = λ d w more is verdicts may.
    let v = read_on w more is.router.sound may verdicts in
    let all : spot_after (first_spot w.first) (w.read ++ more) ≡ spot_after (spot_in w) more =
    spot_more (first_spot w.first) w.read more in
    (rw all at v.are, rw all at v.settled)
