use Rattle.std.proofs.Common.{◌≡◌, ℕ, Bool, nat_eq, ◌&&◌, ◌||◌, List, [], ◌∷◌, drop}
use Rattle.std.specs.List.{list_all, list_any}
use Rattle.mfotl_model.specs.Tables.{has_row}
use Rattle.mfotl_model.specs.declared.value.Value.{Value}
use Rattle.eval_since.specs.Windows.{EachHasRows, names}
use Rattle.eval_since.specs.declared.contents.Dated.{Dated}
use Rattle.eval_since.proofs.rebuild.push_dated.Given as goal

abbrev pub invariant-loop-ts : goal.invariant-loop-ts
invariant-loop-ts l = record {
  names : (v : List Value) (y : ℕ) → (names l.out.items v y
      || list_any (λ t. nat_eq t y && has_row (l.row ∷ []) v) (drop l.ts-index l.times))
      ≡ (names l.fn.out.items v y || list_any (λ t. nat_eq t y && has_row (l.row ∷ []) v) l.times);
  all : (test : ℕ → Bool)
      → (list_all (λ (d : Dated). test d.ts) l.out.items && list_all test (drop l.ts-index l.times))
      ≡ (list_all (λ (d : Dated). test d.ts) l.fn.out.items && list_all test l.times);
  rows : EachHasRows l.fn.out.items → EachHasRows l.out.items;
}
