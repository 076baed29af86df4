use Rattle.std.proofs.Common.{◌≡◌, ◌≤◌, false}
use Rattle.lone_worker.specs.{Alone.ForEachRunAlone, Alone.IsReadAlone}
use Rattle.lone_worker.proofs.alone_points.take_complete.Given as goal

abbrev pub invariant-points : goal.invariant-points
invariant-points g l = record {
  works : l.reader.is_broken ≡ false;
  reader : l.reader ≡ record l.fn.reader { given = l.reader.given; kept = l.reader.kept };
  later : g.O.Sink.faults l.fn.out ≤ g.O.Sink.faults l.out;
  so_far : ForEachRunAlone l.fn.reader l.fn.worker.monitor (g.O.Sink.written l.fn.out) l.fn.worker.writer.tally
      (λ core bytes start. IsReadAlone core start l.reader l.worker.monitor (g.O.Sink.written l.out)
      l.worker.writer.tally bytes);
}
