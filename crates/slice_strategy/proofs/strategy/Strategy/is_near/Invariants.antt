use Rattle.mfotl_model.specs.Tables.{valuation}
use Rattle.slice_strategy.proofs.EntryLemmas.{Nears}
use Rattle.slice_strategy.proofs.strategy.Strategy.is_near.Given as goal

abbrev pub invariant-loop-variable : goal.invariant-loop-variable
invariant-loop-variable l =
    Nears l.entry-items l.part.cols.now (valuation l.part.cols.now l.part.row.now) l.k l.digits l.place l.variable
