use Rattle.std.proofs.Common.{◌∙◌, ◌+◌, arith, length, subst, sym}
use Rattle.monitor_state.specs.MonitorView.{MonitorOf}
use Rattle.monitor_state.specs.Stands.{IsKept}
use Rattle.lone_worker.specs.Alone.{Owes}
use Rattle.lone_worker.proofs.AloneLemmas.{kept_on, pays_one, pays_part}
use Rattle.lone_worker.proofs.ErrorLemmas.{on_err}
use Rattle.lone_worker.proofs.lone_worker.LoneWorker.write_tables.Goals as goal

pub returns-in_err-write_table-clause-err : goal.returns-in_err-write_table-clause-err
returns-in_err-write_table-clause-err g c =
    on_err c.from_residual.result _ (λ core points start owes.
    pays_part c.in-Some.ensures.first (c.loop-table.invariant.owes core points start owes)
    c.loop-table.invariant.kept.from c.write_table.ensures.table c.in_err-write_table.ensures.front)

pub loop-table-preserved : goal.loop-table-preserved
loop-table-preserved g c =
    let inv = c.loop-table.invariant in
    let same = c.write_table.ensures.same in
    record {
      same = same ∙ inv.same;
      kept = subst (λ (m : MonitorOf). IsKept m.state (c.loop-table.point + 1) (length c.take.new.self))
          (sym same) (kept_on _ _ _ _ _ c.in-Some.ensures.first inv.kept);
      owes = λ core points start owes.
          subst (λ (m : MonitorOf). Owes core points start m.state (g.O.Sink.written c.write_table.new.out)
          c.write_table.new.self.writer.tally (c.loop-table.point + 1) c.take.new.self) (sym same)
          (pays_one c.in-Some.ensures.first (inv.owes core points start owes) inv.kept.from
          c.write_table.ensures.table c.in_ok-write_table.ensures.ok c.in_ok-write_table.ensures.counts);
      later = omega (arith, inv.later, c.write_table.ensures.later);
    }
