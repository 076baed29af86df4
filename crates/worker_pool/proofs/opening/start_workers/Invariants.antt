use Rattle.std.proofs.Common.{◌≡◌, length}
use Rattle.monitorable.specs.Cores.{core_form}
use Rattle.worker_pool.specs.Opening.{AreStarted}
use Rattle.worker_pool.proofs.opening.start_workers.Given as goal

-- the workers of the numbers so far were started
abbrev pub invariant-loop-k : goal.invariant-loop-k
invariant-loop-k l = record {
  count : length l.works.items ≡ l.k;
  started : AreStarted (core_form l.core) l.strategy l.works.items;
}
