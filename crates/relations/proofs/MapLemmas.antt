-- What a change at one row leaves in a map at each row.
use Rattle.std.proofs.Common.{◌≡◌, Bool, true, cond, List, Option, None, arith}
use Rattle.std.proofs.lemmas.Grind.{common_steps}
use Rattle.std.specs.{BTreeMap.is_at, Cmp.Equal-is, Map.lookup, Option.unwrap_or}
use Rattle.mfotl_model.specs.Values.{row_cmp}
use Rattle.mfotl_model.specs.declared.value.Value.{Value}
use Rattle.mfotl_model.proofs.RowLemmas.{row_exact}

-- rows that compare as equal are one
pub same_row : (u v : List Value) → is_at (row_cmp u) v ≡ true → u ≡ v
same_row u v e = row_exact u v ((Equal-is (row_cmp u v)).0 e)

-- of two outcomes
pub either : {X : Type 0} (P : X → Type 0) (b : Bool) (x y z : X) → z ≡ cond b x y → P x → P y → P z
either P b x y z e p q = grind arith

-- after a change at one key, the value there is changed, and no other
pub changed : {X : Type 0} (d : X) (h : X → X) (row v : List Value) (m n : List (List Value × X)) (w : Option X)
    → lookup (is_at (row_cmp v)) n ≡ cond (is_at (row_cmp row) v) w (lookup (is_at (row_cmp v)) m)
    → unwrap_or w d ≡ h (unwrap_or (lookup (is_at (row_cmp row)) m) d) → unwrap_or (lookup (is_at (row_cmp v)) n) d
    ≡ cond (is_at (row_cmp row) v) (h (unwrap_or (lookup (is_at (row_cmp v)) m) d))
    (unwrap_or (lookup (is_at (row_cmp v)) m) d)
changed d h row v m n w gets gives = grind (arith, common_steps, same_row row v, gets, gives)

-- a look-up that finds nothing, in a list that stays
pub nothing_there : {X : Type 0} (row v : List Value) (m n : List (List Value × X)) → n ≡ m
    → None ≡ lookup (is_at (row_cmp row)) m
    → lookup (is_at (row_cmp v)) n ≡ cond (is_at (row_cmp row) v) None (lookup (is_at (row_cmp v)) m)
nothing_there row v m n same none = grind (arith, common_steps, same_row row v)
