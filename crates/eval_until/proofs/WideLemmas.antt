-- Rows with starts, of which each has as many values as the left operand has columns.
use Rattle.std.proofs.Common.{◌≡◌, ℕ, ◌+◌, Bool, true, false, cond, nat_eq, List, [], ◌∷◌, Option, Some, None, length}
use Rattle.std.proofs.Common.{refl, sym, ◌∙◌, arith}
use Rattle.std.proofs.lemmas.Bool.Decides.{nat_tests}
use Rattle.std.specs.BTreeMap.{is_at}
use Rattle.std.specs.List.{AllByRecursion}
use Rattle.mfotl_model.specs.Values.{row_cmp}
use Rattle.mfotl_model.specs.declared.value.Value.{Value}
use Rattle.relations.specs.KeptRows.{RowsAscend, kept_for}
use Rattle.relations.proofs.{KeptLemmas.each_kept, MapLemmas.same_row}
use Rattle.eval_until.specs.Keeping.{IsLater, SizedStarts}

-- by look-ups, and of all pairs
pub wide_found : (n : ℕ) (starts : List (List Value × ℕ)) → AllByRecursion (λ r. length r.0 ≡ n) starts
    → SizedStarts n starts
wide_found n [] wide w other = refl
wide_found n (r ∷ rs) wide w other = by (is_at (row_cmp w) r.0) refl (wide_found n rs wide.1 w other)
  where
    by : (b : Bool) → is_at (row_cmp w) r.0 ≡ b → kept_for rs w ≡ None → cond b (Some r.1) (kept_for rs w) ≡ None
    by true at rest = grind (arith, nat_tests, same_row w r.0 at, wide.0)
    by false at rest = rest

pub each_wide : (n : ℕ) (starts : List (List Value × ℕ)) → RowsAscend starts → SizedStarts n starts
    → AllByRecursion (λ r. length r.0 ≡ n) starts
each_wide n starts up sized = each_kept (λ w s. length w ≡ n) starts up
    (λ w s is. by w s is (nat_eq (length w) n) refl)
  where
    by : (w : List Value) (s : ℕ) → kept_for starts w ≡ Some s → (b : Bool) → nat_eq (length w) n ≡ b → length w ≡ n
    by w s is true same = grind (arith, nat_tests)
    by w s is false other = absurd (let no : None ≡ Some s = sym (sized w other) ∙ is in cc)

-- of a row that the table lacks no start is begun
pub none_taken : (negated has : Bool) (p s : ℕ) (old new : Option ℕ) → has ≡ false → old ≡ None
    → new ≡ cond negated (cond has (Some (p + 1)) old) (cond has (Some s) None) → new ≡ None
none_taken negated has p s old new lacks none e = grind arith

-- nor by a position that is pulled
pub none_later : (negated : Bool) (next : ℕ) (old new : Option ℕ) → IsLater negated next old new → old ≡ None
    → new ≡ None
none_later negated next old new later none = grind arith
