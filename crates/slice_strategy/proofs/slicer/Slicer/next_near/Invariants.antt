use Rattle.mfotl_model.specs.Tables.{valuation}
use Rattle.slice_strategy.specs.Slicers.{NoneFrom}
use Rattle.slice_strategy.proofs.slicer.Slicer.next_near.Given as goal

abbrev pub invariant-loop-k : goal.invariant-loop-k
invariant-loop-k g l =
    NoneFrom l.from l.k (λ n. g.Self.Slicer.region l.self n l.part.cols.now (valuation l.part.cols.now l.part.row.now))
