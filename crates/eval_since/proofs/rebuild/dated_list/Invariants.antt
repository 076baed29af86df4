use Rattle.std.proofs.Common.{◌≡◌, ℕ, Bool, ◌&&◌, ◌||◌, List, drop}
use Rattle.std.specs.List.{list_all}
use Rattle.mfotl_model.specs.declared.value.Value.{Value}
use Rattle.eval_since.specs.{Recalled.is_recalled, Windows.EachHasRows, Windows.names}
use Rattle.row_times.specs.declared.{kept_row.KeptRow.KeptRow}
use Rattle.eval_since.specs.declared.{contents.Dated.Dated}
use Rattle.eval_since.proofs.rebuild.dated_list.Given as goal

abbrev pub invariant-loop-kept : goal.invariant-loop-kept
invariant-loop-kept l = record {
  names : (v : List Value) (y : ℕ) → (names l.list.items v y || is_recalled (drop l.kept-index l.rows) v y)
      ≡ is_recalled l.rows v y;
  all : (test : ℕ → Bool) → (list_all (λ (d : Dated). test d.ts) l.list.items
      && list_all (λ (k : KeptRow). list_all test k.times.items) (drop l.kept-index l.rows))
      ≡ list_all (λ (k : KeptRow). list_all test k.times.items) l.rows;
  rows : EachHasRows l.list.items;
}
