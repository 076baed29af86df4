use Rattle.std.proofs.Common.{refl}
use Rattle.rescale_worker.proofs.{MergeLemmas.splits, PieceLemmas.part_below, PieceLemmas.takes_part}
use Rattle.rescale_worker.proofs.worker.Worker.part.Goals as goal

pub split_state-requires : goal.split_state-requires
split_state-requires c =
    rw c.get-present.ensures.same
    (part_below c.args.self.now c.in-Active.monitor c.in-Active.strategy c.args.generation c.args.old c.args.new
    c.in-Active.is c.requires)

pub returns : goal.returns
returns c =
    let e = c.in_ok-pieces.ensures in
    let split = rw (c.get-present.ensures.same, c.get-next.ensures.same) at
    (splits c.in-Active.monitor c.get-present.result.now c.args.self.now.number c.get-next.result.now c.args.generation
    c.in_ok-pieces.pieces.items e.pieces e.numbers e.stands) in (
      _,
      c.in_ok-give_pieces.ensures,
      rw c.enter.ensures
          (takes_part c.args.self.now c.in-Active.monitor c.in-Active.strategy c.args.generation c.args.old c.args.new
          c.in-Active.is _ c.in_ok-pieces.pieces.items refl refl refl split),
    )
