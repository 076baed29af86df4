use Rattle.state_split.proofs.ShareLemmas.{each_copied, each_paired}
use Rattle.state_split.proofs.windows.column_pairs.Goals as goal

pub returns : goal.returns
returns g c =
    each_paired _ _ _ _ _ _
    (each_copied (λ v. v.items) c.args.left.now _ _ _ c.workers.ensures.count c.in_ok-lefts.ensures)
    (each_copied (λ v. v.items) c.args.right.now _ _ _ c.workers-2.ensures.count c.in_ok-rights.ensures)
    c.in_ok-pairs.ensures
