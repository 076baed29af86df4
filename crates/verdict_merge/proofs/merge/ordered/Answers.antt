use Rattle.std.proofs.Common.{◌<◌, length, arith}
use Rattle.std.proofs.lemmas.Grind.{common_steps}
use Rattle.verdict_merge.proofs.MergeLemmas.{few_ascend}
use Rattle.verdict_merge.proofs.merge.ordered.Goals as goal

pub returns-then-len-lt2 : goal.returns-then-len-lt2
returns-then-len-lt2 c =
    let few : length c.args.rows.items < 2 = grind (arith, common_steps) in
    rw (c.new.ensures) (few_ascend c.args.rows.items few)
