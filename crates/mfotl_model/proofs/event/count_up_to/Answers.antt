use Rattle.std.proofs.{Common.nat_le, Common.rules, lemmas.List.Sorted.IsPartitionPoint-from_clause}
use Rattle.std.proofs.{lemmas.List.Sorted.IsPartitionedBy-leb}
use Rattle.mfotl_model.proofs.RunLemmas.{all_up_to}
use Rattle.mfotl_model.specs.declared.event.Event.{Event}
use Rattle.mfotl_model.proofs.event.count_up_to.Goals as goal

pub returns-in-len1-up-clause-parted : goal.returns-in-len1-up-clause-parted
returns-in-len1-up-clause-parted c =
    IsPartitionPoint-from_clause (λ (e : Event). nat_le e.pred c.args.pred) _ _ c.partition_point.ensures.partitioned
    (IsPartitionedBy-leb (λ (e : Event). e.pred) _ c.args.pred c.requires) (λ a r q k. search rules)

pub returns-in_default-2-clause-parted : goal.returns-in_default-2-clause-parted
returns-in_default-2-clause-parted c =
    all_up_to c.args.pred c.args.events.now c.last-item.result c.requires c.last-item.is c.if-pred-last.false
