use Rattle.std.proofs.Common.{refl}
use Rattle.rescale_worker.proofs.MergeLemmas.{adopt_due, adopt_fits, merges_more}
use Rattle.rescale_worker.proofs.PieceLemmas.{adopt_allowed, takes_piece, full_allowed}
use Rattle.rescale_worker.proofs.worker.Worker.adopt.Goals as goal

pub adopt-requires-clause-fits : goal.adopt-requires-clause-fits
adopt-requires-clause-fits c =
    adopt_fits c.in_ok-merging.merging c.args.piece
    (adopt_allowed c.args.self.now c.args.piece c.args.now c.in_ok-merging.merging c.replace-phase.ensures.value
    c.in_ok-merging.ensures c.requires)

pub adopt-requires-clause-due : goal.adopt-requires-clause-due
adopt-requires-clause-due c =
    adopt_due c.in_ok-merging.merging c.args.piece
    (adopt_allowed c.args.self.now c.args.piece c.args.now c.in_ok-merging.merging c.replace-phase.ensures.value
    c.in_ok-merging.ensures c.requires)

pub settle-requires : goal.settle-requires
settle-requires c =
    let e = c.in_ok-adopt.ensures in
    record {
      full = full_allowed c.args.self.now c.args.piece c.args.now c.in_ok-merging.merging c.replace-phase.ensures.value
          c.in_ok-merging.ensures c.adopt.new.self
          (merges_more c.in_ok-merging.merging c.adopt.new.self c.args.piece e.core e.count e.adopted e.merges)
          c.requires;
    }

pub returns : goal.returns
returns c =
    let e = c.in_ok-adopt.ensures in
    rw c.enter.ensures
    (takes_piece c.args.self.now c.args.piece c.args.now c.in_ok-merging.merging c.replace-phase.ensures.value
    c.in_ok-merging.ensures c.adopt.new.self
    (merges_more c.in_ok-merging.merging c.adopt.new.self c.args.piece e.core e.count e.adopted e.merges) _ refl refl
    c.in_ok-next.ensures)
