-- Lists of columns that differ, and rows read through them.
use Rattle.std.proofs.Common.{◌≡◌, ℕ, Bool, true, false, not, ◌||◌, cond, nat_eq, List, [], ◌∷◌, ◌++◌, length, map}
use Rattle.std.proofs.Common.{refl, sym, ap, ap₂, ◌∙◌, arith}
use Rattle.std.proofs.lemmas.Bool.{and_parts, and_from, or_left, or_right, not-true, cond-true, cond-false, eqb-true}
use Rattle.std.proofs.{lemmas.List.Folds.list_any-append, lemmas.Map.Views.any-filter_same}
use Rattle.std.specs.List.{filter}
use Rattle.mfotl_model.proofs.LogicLemmas.{same_number}
use Rattle.mfotl_model.specs.FreeVariables.{among, distinct, joined}
use Rattle.mfotl_model.specs.{Satisfaction.Valuation, Tables.all_apart, Tables.valuation}
use Rattle.mfotl_model.specs.declared.value.Value.{Value}

-- ---- columns that differ

filter_apart_at : (s : ℕ → Bool) (x : ℕ) (xs : List ℕ) (b : Bool) → s x ≡ b → among x xs ≡ false
    → all_apart (filter s xs) ≡ true → all_apart (cond (s x) (x ∷ filter s xs) (filter s xs)) ≡ true
filter_apart_at s x xs true e out rest =
    ap all_apart (cond-true (s x) (x ∷ filter s xs) (filter s xs) e)
    ∙ and_from (not (among x (filter s xs))) (all_apart (filter s xs))
    (ap not (any-filter_same (nat_eq x) s true (λ z m. ap s (sym (eqb-true x z m)) ∙ e) xs ∙ out)) rest
filter_apart_at s x xs false e out rest = ap all_apart (cond-false (s x) (x ∷ filter s xs) (filter s xs) e) ∙ rest

-- columns that are left of columns that differ
pub filter_apart : (s : ℕ → Bool) (xs : List ℕ) → all_apart xs ≡ true → all_apart (filter s xs) ≡ true
filter_apart s [] h = refl
filter_apart s (x ∷ xs) h =
    filter_apart_at s x xs (s x) refl (not-true (among x xs) (and_parts (not (among x xs)) (all_apart xs) h).0)
    (filter_apart s xs (and_parts (not (among x xs)) (all_apart xs) h).1)

-- columns behind others
pub append_apart : (xs ys : List ℕ) → all_apart xs ≡ true → all_apart ys ≡ true
    → ((y : ℕ) → among y xs ≡ true → among y ys ≡ false) → all_apart (xs ++ ys) ≡ true
append_apart [] ys h k out = k
append_apart (x ∷ xs) ys h k out =
    let parts = and_parts (not (among x xs)) (all_apart xs) h in
    and_from (not (among x (xs ++ ys))) (all_apart (xs ++ ys))
    (ap not (list_any-append (nat_eq x) xs ys
    ∙ ap₂ (λ b c. b || c) (not-true (among x xs) parts.0)
    (out x (or_left (nat_eq x x) (among x xs) (same_number x)))))
    (append_apart xs ys parts.1 k (λ y m. out y (or_right (nat_eq y x) (among y xs) m)))

pub joined_apart : (xs ys : List ℕ) → all_apart xs ≡ true → all_apart ys ≡ true → all_apart (joined xs ys) ≡ true
joined_apart xs ys h k =
    append_apart xs (filter (λ z. not (among z xs)) ys) h (filter_apart (λ z. not (among z xs)) ys k)
    (λ y m. any-filter_same (nat_eq y) (λ z. not (among z xs)) false
    (λ z e. ap (λ w. not (among w xs)) (sym (eqb-true y z e)) ∙ ap not m) ys)

pub distinct_apart : (xs : List ℕ) → all_apart (distinct xs) ≡ true
distinct_apart [] = refl
distinct_apart (x ∷ xs) = joined_apart (x ∷ []) (distinct xs) refl (distinct_apart xs)

-- ---- rows read through columns

-- a variable that is among the columns is another than one that isn't
other : (x y : ℕ) (columns : List ℕ) → among y columns ≡ true → among x columns ≡ false → nat_eq y x ≡ false
other x y columns m out = grind arith

-- the values of the columns hang on the columns' variables alone
pub same_columns : (v w : Valuation) (columns : List ℕ) → ((y : ℕ) → among y columns ≡ true → v y ≡ w y)
    → map v columns ≡ map w columns
same_columns v w [] same = refl
same_columns v w (x ∷ columns) same =
    ap₂ (λ a rest. a ∷ rest) (same x (or_left (nat_eq x x) (among x columns) (same_number x)))
    (same_columns v w columns (λ y m. same y (or_right (nat_eq y x) (among y columns) m)))

-- a row is read back through its columns, which differ
pub row_kept : (columns : List ℕ) (row : List Value) → all_apart columns ≡ true → length row ≡ length columns
    → map (valuation columns row) columns ≡ row
row_kept [] [] apart same = refl
row_kept [] (a ∷ row) apart same = absurd (omega arith)
row_kept (x ∷ columns) [] apart same = absurd (omega arith)
row_kept (x ∷ columns) (a ∷ row) apart same =
    let parts = and_parts (not (among x columns)) (all_apart columns) apart in
    let out : among x columns ≡ false = not-true (among x columns) parts.0 in
    ap₂ (λ b rest. b ∷ rest) (cond-true (nat_eq x x) a (valuation columns row x) (same_number x))
    (same_columns (valuation (x ∷ columns) (a ∷ row)) (valuation columns row) columns
    (λ y h. cond-false (nat_eq y x) a (valuation columns row y) (other x y columns h out))
    ∙ row_kept columns row parts.1 (omega arith))

-- a valuation is read back at the columns of its row
pub read_own : (v : Valuation) (columns : List ℕ) (y : ℕ) → among y columns ≡ true
    → valuation columns (map v columns) y ≡ v y
read_own v [] y m = cc
read_own v (x ∷ columns) y m = grind (arith, cond-true, eqb-true, cond-false, read_own v columns y)
