use Rattle.std.proofs.Common.{◌≡◌, ℕ, ◌<◌, List, [], length}
use Rattle.std.specs.List.{AllByRecursion}
use Rattle.mfotl_model.specs.declared.value.Value.{Value}
use Rattle.relations.specs.KeptRows.{list_for}
use Rattle.row_times.specs.Groups.{HaveTimes}
use Rattle.row_times.proofs.FewLemmas.{put_all}
use Rattle.row_times.proofs.few.FewRows.into_hashed.Given as goal

-- what is put, and what is left to put
abbrev pub invariant-loop-row : goal.invariant-loop-row
invariant-loop-row l = record {
  put : (u : List Value) → put_all l.row-iterator.rest.items u (list_for l.hashed u) ≡ put_all l.fn.self u [];
  some : HaveTimes l.fn.self
      → AllByRecursion (λ (e : List Value × List ℕ). 0 < length e.1) l.row-iterator.rest.items × HaveTimes l.hashed;
}
