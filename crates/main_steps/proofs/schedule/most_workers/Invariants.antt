use Rattle.std.proofs.Common.{◌≡◌, ◌≤◌, ◌<◌, ◌⊎◌, Any}
use Rattle.std.specs.List.{AllWithin}
use Rattle.mfotl_model.specs.Strategies.{workers_of}
use Rattle.main_steps.proofs.schedule.most_workers.Given as goal

-- none of the strategies so far has more workers, and one of them has as many
abbrev pub invariant-loop-change : goal.invariant-loop-change
invariant-loop-change l = record {
  some : 0 < l.most;
  first : workers_of l.first ≤ l.most;
  changes : AllWithin (λ c. workers_of c.strategy ≤ l.most) l.changes 0 l.change-index;
  attained : (workers_of l.first ≡ l.most) ⊎ Any (λ c. workers_of c.strategy ≡ l.most) l.changes;
}
