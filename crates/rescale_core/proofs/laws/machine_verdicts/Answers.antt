use Rattle.rescale_core.proofs.Verdicts.{read_on}
use Rattle.rescale_core.proofs.laws.machine_verdicts.Goals as goal

pub returns : goal.returns
returns c = λ m entries w is.
    let v = read_on w m.left.items is.router.sound is.left is.verdicts in
    (rw is.entries_are at v.are, rw is.entries_are at v.settled)
