use Rattle.rescale_core.proofs.DriverLemmas.{line_mine}
use Rattle.rescale_core.proofs.driver.Driver.ended.Goals as goal

pub returns-clause-mine : goal.returns-clause-mine
returns-clause-mine c = λ w is over k l at.
    line_mine w k l (is.lines k l at) (c.ended.ensures.ended w is.router over)
