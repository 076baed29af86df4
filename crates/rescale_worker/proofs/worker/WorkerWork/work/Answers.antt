use Rattle.std.proofs.Common.{◌∷◌, []}
use Rattle.rescale_worker.proofs.Leading.{can_take, leads_by, leads_on, takes_seen}
use Rattle.rescale_worker.proofs.worker.WorkerWork.work.Goals as goal

pub take-requires : goal.take-requires
take-requires c = can_take c.args.self.now c.args.item (takes_seen c.args.self.now (c.args.item ∷ []) c.requires)

pub returns-clause-did : goal.returns-clause-did
returns-clause-did c =
    let g = c.in_ok-take.ensures in (
      g.0,
      g.1,
      leads_by c.args.self.now (c.args.item ∷ []) c.take.new.self g.0
          (leads_on c.args.self.now c.args.item c.take.new.self g.0 g.2),
    )
