-- What is kept for a key is kept for the row that it stands for.
use Rattle.std.proofs.Common.{arith, ◌≡◌, ℕ, ℤ, ◌<◌, Bool, true, false, cond, List, [], ◌∷◌, length, Option, Some, None}
use Rattle.std.proofs.Common.{refl, sym, subst, ap, ap₂, ◌∙◌}
use Rattle.std.specs.{BTreeMap.is_at, List.AllByRecursion, List.IsDistinct, Map.keys_of, Map.lookup, Option.IfSome}
use Rattle.std.specs.{Option.unwrap_or}
use Rattle.mfotl_model.specs.Values.{row_cmp}
use Rattle.mfotl_model.specs.declared.value.Value.{Value}
use Rattle.relations.proofs.{KeptLemmas.each_after, MapLemmas.changed, MapLemmas.same_row}
use Rattle.relations.specs.KeptRows.{RowsDiffer, kept_for, list_for}
use Rattle.row_times.specs.Groups.{HaveTimes}
use Rattle.row_times.specs.RowKeys.{by_rows, is_int, itself, one_int}

-- where a row isn't found there is nothing to change
pub none_changed : (h : List ℕ → List ℕ) (row v : List Value) (es : List (List Value × List ℕ)) → h [] ≡ []
    → kept_for es row ≡ None → list_for es v ≡ cond (is_at (row_cmp row) v) (h (list_for es v)) (list_for es v)
none_changed h row v es none absent = grind (arith, same_row row v)

module _ {K X : Type 0} (eq : K → K → Bool) (row_of : K → List Value)
    (same : (k l : K) → is_at (row_cmp (row_of k)) (row_of l) ≡ eq k l) where
  -- what is found for the row of a key
  pub key_found : (k : K) (es : List (K × X))
      → lookup (is_at (row_cmp (row_of k))) (by_rows row_of es) ≡ lookup (eq k) es
  key_found k [] = refl
  key_found k (e ∷ es) = ap₂ (λ b o. cond b (Some e.1) o) (same k e.0) (key_found k es)

  -- a row that is found is one that a key stands for
  either : (P : Type 0) (v : List Value) (es : List (K × X))
      → ((q : K) → row_of q ≡ v → P) → (lookup (is_at (row_cmp v)) (by_rows row_of es) ≡ None → P) → P
  either P v [] found none = none refl
  either P v (e ∷ es) found none = grind (arith, either P v es found, same_row v (row_of e.0))

  -- a change at one key is one at its row
  pub key_changed : (k : K) (m n : List (K × X)) (w : Option X)
      → ((q : K) → lookup (eq q) n ≡ cond (eq k q) w (lookup (eq q) m))
      → (v : List Value) → lookup (is_at (row_cmp v)) (by_rows row_of n)
      ≡ cond (is_at (row_cmp (row_of k)) v) w (lookup (is_at (row_cmp v)) (by_rows row_of m))
  key_changed k m n w step v =
      either (Changes v) v n at_key (λ none. either (Changes v) v m at_key
      (neither (is_at (row_cmp (row_of k)) v) refl none))
    where
      Changes : List Value → Type 0
      Changes r = lookup (is_at (row_cmp r)) (by_rows row_of n)
          ≡ cond (is_at (row_cmp (row_of k)) r) w (lookup (is_at (row_cmp r)) (by_rows row_of m))

      at_key : (q : K) → row_of q ≡ v → Changes v
      at_key q is = subst Changes is (key_found q n ∙ step q
          ∙ sym (ap₂ (λ b o. cond b w o) (same k q) (key_found q m)))

      neither : (b : Bool) → is_at (row_cmp (row_of k)) v ≡ b
          → lookup (is_at (row_cmp v)) (by_rows row_of n) ≡ None
          → lookup (is_at (row_cmp v)) (by_rows row_of m) ≡ None → Changes v
      neither true at none_new none_old = at_key k (same_row (row_of k) v at)
      neither false at none_new none_old = none_new
          ∙ sym (ap₂ (λ b o. cond b w o) at none_old)

  -- keys that differ stand for rows that differ
  pub keys_differ : (es : List (K × X)) → IsDistinct eq (keys_of es) → RowsDiffer (by_rows row_of es)
  unfolding IsDistinct
  keys_differ [] apart = tt
  keys_differ (e ∷ es) apart = (each es apart.0, keys_differ es apart.1)
    where
      each : (fs : List (K × X)) → AllByRecursion (λ y. eq e.0 y ≡ false) (keys_of fs)
          → AllByRecursion (λ y. is_at (row_cmp (row_of e.0)) y ≡ false) (keys_of (by_rows row_of fs))
      each [] all = tt
      each (f ∷ fs) all = (same e.0 f.0 ∙ all.0, each fs all.1)

module _ {K : Type 0} (eq : K → K → Bool) (row_of : K → List Value)
    (same : (k l : K) → is_at (row_cmp (row_of k)) (row_of l) ≡ eq k l) where
  -- a change of the times at one key, and what it leaves at each row
  pub times_changed : (h : List ℕ → List ℕ) (k : K) (m n : List (K × List ℕ)) (w : Option (List ℕ))
      → ((q : K) → lookup (eq q) n ≡ cond (eq k q) w (lookup (eq q) m))
      → unwrap_or w [] ≡ h (unwrap_or (lookup (eq k) m) []) → (v : List Value) → list_for (by_rows row_of n) v
      ≡ cond (is_at (row_cmp (row_of k)) v) (h (list_for (by_rows row_of m) v)) (list_for (by_rows row_of m) v)
  times_changed h k m n w step is v =
      grind (arith, changed, key_changed eq row_of same k m n w step v, key_found eq row_of same k m)

  -- each row still has a time after it
  pub times_stay : (k : K) (m n : List (K × List ℕ)) (w : Option (List ℕ))
      → ((q : K) → lookup (eq q) n ≡ cond (eq k q) w (lookup (eq q) m))
      → IfSome w (λ times. 0 < length times) → HaveTimes (by_rows row_of m) → HaveTimes (by_rows row_of n)
  times_stay k m n w step = grind (arith, each_after, key_changed eq row_of same k m n w step)

-- rows stand for themselves
pub by_themselves : {X : Type 0} (es : List (List Value × X)) → by_rows itself es ≡ es
by_themselves [] = refl
by_themselves (e ∷ es) = ap (λ fs. e ∷ fs) (by_themselves es)

-- a row of other values isn't equal to one of one integer
not_from : (v : List Value) (m : ℤ) → is_int v ≡ false → is_at (row_cmp v) (one_int m) ≡ false
not_from v m e = grind arith

-- among rows of one integer nothing is found for another row
others_none : (v : List Value) (es : List (ℤ × List ℕ)) → is_int v ≡ false
    → lookup (is_at (row_cmp v)) (by_rows one_int es) ≡ None
others_none v [] other = refl
others_none v (e ∷ es) other = simp (ap₂, not_from, others_none v es other)

pub no_times : (v : List Value) (es : List (ℤ × List ℕ)) → is_int v ≡ false → list_for (by_rows one_int es) v ≡ []
no_times v es other = ap (λ o. unwrap_or o []) (others_none v es other)

-- and there is nothing to forget
pub others_stay : (h : List ℕ → List ℕ) (row v : List Value) (es : List (ℤ × List ℕ)) → h [] ≡ []
    → is_int row ≡ false → list_for (by_rows one_int es) v
    ≡ cond (is_at (row_cmp row) v) (h (list_for (by_rows one_int es) v)) (list_for (by_rows one_int es) v)
others_stay h row v es none other = none_changed h row v (by_rows one_int es) none (others_none row es other)
