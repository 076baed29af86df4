use Rattle.mfotl_plain.proofs.DomainLemmas.{values_ascend}
use Rattle.mfotl_plain.proofs.domain.in_order.Goals as goal

pub returns : goal.returns
returns c =
    values_ascend c.args.values.items c.sort_unstable.new.self.items c.dedup.new.self.items
    c.sort_unstable.ensures.permutation c.sort_unstable.ensures.sorted c.dedup.ensures.filtered
