use Rattle.std.proofs.Common.{refl}
use Rattle.monitor_state.specs.MonitorView.{monitor_of}
use Rattle.rescale_worker.specs.Settlings.{all_settled}
use Rattle.rescale_worker.proofs.SliceLemmas.{slice_kept, takes_slice}
use Rattle.rescale_worker.proofs.worker.Worker.take_slice.Goals as goal

pub give_tables-requires : goal.give_tables-requires
give_tables-requires c =
    let e = c.in_ok-tables.ensures in
    let state = (monitor_of c.step.new.self).state in
    let tables = c.in_ok-tables.tables in
    let has = slice_kept c.args.self.now c.in-Active.monitor c.step.new.self c.in-Active.strategy c.args.generation
    c.args.number c.args.point tables c.in-Active.is e.core e.first e.steps c.requires in
    record { kept = rw c.given-first.ensures has.0; wide = rw (c.given-first.ensures, c.get.ensures.same) has.1 }

pub returns : goal.returns
returns c =
    let e = c.in_ok-tables.ensures in
    let state = (monitor_of c.step.new.self).state in
    let tables = c.in_ok-tables.tables in
    let outs = c.in_ok-give_tables.ensures in (
      _,
      rw c.get.ensures.same at outs.given,
      takes_slice c.args.self.now c.in-Active.monitor c.step.new.self c.in-Active.strategy c.args.generation
          c.args.number c.args.point tables c.in-Active.is e.core e.first e.steps _
          (all_settled state c.given-first.result tables) refl refl refl (rw c.given-first.ensures) outs.tables,
    )
