use Rattle.std.proofs.{Common.nat_lt, Common.rules, lemmas.List.Sorted.IsPartitionPoint-from_clause}
use Rattle.std.proofs.{lemmas.List.Sorted.IsPartitionedBy-ltb}
use Rattle.mfotl_model.specs.declared.event.Event.{Event}
use Rattle.mfotl_model.proofs.event.count_below.Goals as goal

pub returns-clause-parted : goal.returns-clause-parted
returns-clause-parted c =
    IsPartitionPoint-from_clause (λ (e : Event). nat_lt e.pred c.args.pred) _ _ c.partition_point.ensures.partitioned
    (IsPartitionedBy-ltb (λ (e : Event). e.pred) _ c.args.pred c.requires) (λ a r q k. search rules)
