-- The place of a name in a list that grows at its end, and the sorts at places.
use Rattle.std.proofs.Common.{◌≡◌, ℕ, zero, suc, ◌<◌, ◌≤◌, Bool, true, cond, List, [], ◌∷◌, ◌++◌, length, Option, Some}
use Rattle.std.proofs.Common.{None, refl, sym, ap, ◌∙◌, arith}
use Rattle.std.proofs.Math.Dec.{eqb-suc-zero, eqb-zero-suc, eqb-suc-suc}
use Rattle.std.proofs.{lemmas.List.Quantifiers.position-Some, lemmas.Option.slice_get_past}
use Rattle.std.proofs.{lemmas.Slice.Eq.bytes_eq-Decides, lemmas.Grind.common_steps}
use Rattle.std.specs.{List.position, Option.option_map, Str.bytes_eq}
use Rattle.std.specs.Prelude.{nat_eq, get_or, slice_get, slice_set}
use Rattle.mfotl_model.specs.declared.policy.Sort.{Sort}
use Rattle.mfotl_parse.specs.SymbolTable.{given_at}

-- ---- the first that passes

position_cons : {X : Type 0} (p : X → Bool) (x : X) (xs : List X) → position p (x ∷ xs)
    ≡ cond (p x) (Some 0) (option_map suc (position p xs))
position_cons p x xs = grind arith

pub stays_found : {X : Type 0} (p : X → Bool) (xs : List X) (x : X) (k : ℕ) → position p xs ≡ Some k
    → position p (xs ++ x ∷ []) ≡ Some k
stays_found p xs x k e = grind (arith, common_steps, position_cons)

pub found_last : {X : Type 0} (p : X → Bool) (xs : List X) (x : X) → position p xs ≡ None
    → position p (xs ++ x ∷ []) ≡ cond (p x) (Some (length xs)) None
found_last p [] x e = position_cons p x []
found_last p (y ∷ xs) x e = grind (arith, position_cons, found_last p xs x)

-- ---- names

pub same_names : (a b : List ℕ) → bytes_eq a b ≡ true → a ≡ b
same_names a b e = (bytes_eq-Decides a b).0 e

pub name_is : (a : List ℕ) → bytes_eq a a ≡ true
name_is a = (bytes_eq-Decides a a).1 refl

-- where a name stands among the free ones
abbrev pub place_of_name : List ℕ → List (List ℕ × ℕ) → Option ℕ
place_of_name name free = position (λ known. bytes_eq name known.0) free

-- no two names stand at one place
pub one_name : (a b : List ℕ) (free : List (List ℕ × ℕ)) (k : ℕ) → place_of_name a free ≡ Some k
    → place_of_name b free ≡ Some k → a ≡ b
one_name a b free k e f =
    same_names a (get_or free k ([], 0)).0
    (position-Some (λ (known : List ℕ × ℕ). bytes_eq a known.0) free k ([], 0) e).1
    ∙ sym (same_names b (get_or free k ([], 0)).0
    (position-Some (λ (known : List ℕ × ℕ). bytes_eq b known.0) free k ([], 0) f).1)

-- ---- sorts at places

pub none_more : (xs : List (Option Sort)) (k : ℕ) → given_at (slice_get (xs ++ None ∷ []) k) ≡ given_at (slice_get xs k)
none_more [] zero = refl
none_more [] (suc k) = refl
none_more (x ∷ xs) zero = refl
none_more (x ∷ xs) (suc k) = none_more xs k

pub none_past : (xs : List (Option Sort)) (k : ℕ) → length xs ≤ k → given_at (slice_get xs k) ≡ None
none_past xs k past = ap given_at (slice_get_past xs k past)

pub sort_more : (xs : List (Option Sort)) (s : Sort) (k : ℕ) → given_at (slice_get (xs ++ Some s ∷ []) k)
    ≡ cond (nat_eq k (length xs)) (Some s) (given_at (slice_get xs k))
sort_more [] s zero = refl
sort_more [] s (suc k) = ap (λ (b : Bool). cond b (Some s) None) (sym (eqb-suc-zero k))
sort_more (x ∷ xs) s zero = ap (λ (b : Bool). cond b (Some s) x) (sym (eqb-zero-suc (length xs)))
sort_more (x ∷ xs) s (suc k) = cc (sort_more xs s k, eqb-suc-suc k (length xs))

pub sort_set : (xs : List (Option Sort)) (k : ℕ) (s : Sort) (j : ℕ) → k < length xs
    → given_at (slice_get (slice_set xs k (Some s)) j) ≡ cond (nat_eq j k) (Some s) (given_at (slice_get xs j))
sort_set [] k s j within = absurd (omega (arith, within))
sort_set (x ∷ xs) zero s zero within = refl
sort_set (x ∷ xs) zero s (suc j) within = cc (eqb-suc-zero j)
sort_set (x ∷ xs) (suc k) s zero within = ap (λ (b : Bool). cond b (Some s) x) (sym (eqb-zero-suc k))
sort_set (x ∷ xs) (suc k) s (suc j) within =
    sort_set xs k s j (omega (arith, within))
    ∙ ap (λ (b : Bool). cond b (Some s) (given_at (slice_get xs j))) (sym (eqb-suc-suc j k))
