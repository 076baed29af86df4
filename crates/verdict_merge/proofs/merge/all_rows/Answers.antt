use Rattle.verdict_merge.proofs.MergedLists.{merged_ok}
use Rattle.verdict_merge.proofs.merge.all_rows.Goals as goal

pub returns : goal.returns
returns c =
    merged_ok _ (λ v j given. given.0) _ c.in_ok-rows.rows c.args.lists.items c.into_iter.result
    c.into_iter.ensures.rest
    c.in_ok-rows.ensures.items c.collect_vec.result c.collect_vec.ensures.runs
