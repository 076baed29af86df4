-- Children whose tables alone change: which columns they bind, and that what holds of a conjunction stays.
use Rattle.std.proofs.Common.{◌≡◌, ℕ, zero, suc, ◌+◌, ◌<◌, ◌≤◌, ◌^◌, Bool, true, cond, ◌&&◌, List, [], ◌∷◌, ◌++◌}
use Rattle.std.proofs.Common.{length, map, get_or, slice_set, drop, refl, sym, subst, ap, ◌∙◌, arith}
use Rattle.std.proofs.{lemmas.Bool.and_parts, lemmas.List.length-append, lemmas.Grind.common_steps}
use Rattle.std.specs.{List.list_all, Prelude.nat_lt}
use Rattle.mfotl_model.specs.Tables.{TableOf, all_among}
use Rattle.eval_bool.specs.{Heads.advanced_to, IsJoin.FewFrom, IsJoin.IsJoin}
use Rattle.eval_bool.specs.JoinView.{ChildOf, TestOf, all_children, bound_columns, child_advanced, child_columns}
use Rattle.eval_bool.specs.JoinView.{child_pushed, child_tables, compared_variables, is_guarded}

-- the same children but for their tables
abbrev pub Alike : List ChildOf → List ChildOf → Type 0
Alike [] [] = Unit {0}
Alike (x ∷ xs) (y ∷ ys) = (x.columns ≡ y.columns) × (x.negated ≡ y.negated) × Alike xs ys
Alike xs ys = ⊥

pub alike_itself : (xs : List ChildOf) → Alike xs xs
alike_itself [] = tt
alike_itself (x ∷ xs) = (refl, refl, alike_itself xs)

bound_alike : (xs ys : List ChildOf) → Alike xs ys → bound_columns xs ≡ bound_columns ys
bound_alike [] [] same = refl
bound_alike [] (y ∷ ys) same = absurd same
bound_alike (x ∷ xs) [] same = absurd same
bound_alike (x ∷ xs) (y ∷ ys) same = λ i.
    cond (same.1 i) (bound_alike xs ys same.2 i) (same.0 i ++ bound_alike xs ys same.2 i)

all_alike : (p : List ℕ → Bool) (xs ys : List ChildOf) → Alike xs ys → all_children p xs ≡ all_children p ys
all_alike p [] [] same = refl
all_alike p [] (y ∷ ys) same = absurd same
all_alike p (x ∷ xs) [] same = absurd same
all_alike p (x ∷ xs) (y ∷ ys) same = λ i. p (same.0 i) && all_alike p xs ys same.2 i

guarded_alike : (xs ys : List ChildOf) (tests : List TestOf) → Alike xs ys → is_guarded xs tests ≡ is_guarded ys tests
guarded_alike xs ys tests same =
    ap (λ bound. all_children (λ columns. all_among columns bound) xs
    && list_all (λ t. all_among (compared_variables t.comparison) bound) tests) (bound_alike xs ys same)
    ∙ ap (λ b. b && list_all (λ t. all_among (compared_variables t.comparison) (bound_columns ys)) tests)
    (all_alike (λ columns. all_among columns (bound_columns ys)) xs ys same)

pub join_alike : (columns : List ℕ) (tests : List TestOf) (p q : ℕ) (xs ys : List ChildOf) → IsJoin columns tests p xs
    → Alike xs ys → FewFrom q ys → IsJoin columns tests q ys
join_alike columns tests p q xs ys is same few = grind (arith, bound_alike, guarded_alike)

-- ---- one position pulled

alike_to : (n : ℕ) (xs : List ChildOf) → Alike xs (advanced_to n xs)
alike_to zero xs = alike_itself xs
alike_to (suc n) [] = tt
alike_to (suc n) (x ∷ xs) = (refl, refl, alike_to n xs)

shorter : (tables : List TableOf) → length (drop 1 tables) ≤ length tables
shorter tables = grind arith

few_to : (p n : ℕ) (xs : List ChildOf) → FewFrom p xs → FewFrom p (advanced_to n xs)
few_to p zero xs few = few
few_to p (suc n) [] few = tt
few_to p (suc n) (x ∷ xs) few = grind (arith, shorter, few_to p n xs few.1)

-- after some of the first tables were taken
pub join_to : (columns : List ℕ) (tests : List TestOf) (p n : ℕ) (xs : List ChildOf) → IsJoin columns tests p xs
    → IsJoin columns tests p (advanced_to n xs)
join_to columns tests p n xs is = search (join_alike, alike_to, few_to)

pub join_stays : (columns : List ℕ) (tests : List TestOf) (p : ℕ) (xs ys : List ChildOf)
    → IsJoin columns tests p xs → ((n : ℕ) × (ys ≡ advanced_to n xs)) → IsJoin columns tests p ys
join_stays columns tests p xs ys is to = grind (arith, join_to columns tests p to.0 xs is)

alike_advanced : (xs : List ChildOf) → Alike xs (map child_advanced xs)
alike_advanced [] = tt
alike_advanced (x ∷ xs) = (refl, refl, alike_advanced xs)

one_less : (p : ℕ) (tables : List TableOf) → nat_lt 0 (length tables) ≡ true → p + length tables ≤ 2 ^ 63
    → p + 1 + length (drop 1 tables) ≤ 2 ^ 63
one_less p tables some few = grind arith

few_advanced : (p : ℕ) (xs : List ChildOf) → list_all (λ c. nat_lt 0 (length c.tables)) xs ≡ true → FewFrom p xs
    → FewFrom (p + 1) (map child_advanced xs)
few_advanced p [] due few = tt
few_advanced p (x ∷ xs) due few =
    let parts = and_parts (nat_lt 0 (length x.tables)) (list_all (λ c. nat_lt 0 (length c.tables)) xs) due in
    (one_less p x.tables parts.0 few.0, few_advanced p xs parts.1 few.1)

-- after all of them were taken
pub join_advances : (columns : List ℕ) (tests : List TestOf) (p : ℕ) (xs ys : List ChildOf) → IsJoin columns tests p xs
    → list_all (λ c. nat_lt 0 (length c.tables)) xs ≡ true → ys ≡ map child_advanced xs
    → IsJoin columns tests (p + 1) ys
join_advances columns tests p xs ys is due e =
    subst (IsJoin columns tests (p + 1)) (sym e)
    (join_alike columns tests p (p + 1) xs (map child_advanced xs) is (alike_advanced xs)
    (few_advanced p xs due is.few))

-- where a position is due, fewer than 2^63 were pulled
pub few_pulled : (p : ℕ) (xs : List ChildOf) → (xs ≡ [] → p < 2 ^ 63)
    → list_all (λ c. nat_lt 0 (length c.tables)) xs ≡ true → FewFrom p xs → p < 2 ^ 63
few_pulled p [] childless due few = childless refl
few_pulled p (x ∷ xs) childless due few = grind arith

-- ---- one table pushed

alike_pushed : (xs : List ChildOf) (n : ℕ) (t : TableOf) → Alike xs (child_pushed xs n t)
alike_pushed [] n t = tt
alike_pushed (x ∷ xs) zero t = (refl, refl, alike_itself xs)
alike_pushed (x ∷ xs) (suc n) t = (refl, refl, alike_pushed xs n t)

few_pushed : (p n : ℕ) (xs : List ChildOf) (t : TableOf) → FewFrom p xs → p + length (child_tables xs n) < 2 ^ 63
    → FewFrom p (child_pushed xs n t)
few_pushed p n [] t few room = tt
few_pushed p zero (x ∷ xs) t few room = grind (arith, length-append)
few_pushed p (suc n) (x ∷ xs) t few room = (few.0, few_pushed p n xs t few.1 room)

pub join_pushed : (columns : List ℕ) (tests : List TestOf) (p n : ℕ) (xs ys : List ChildOf) (t : TableOf)
    → IsJoin columns tests p xs → p + length (child_tables xs n) < 2 ^ 63 → ys ≡ child_pushed xs n t
    → IsJoin columns tests p ys
join_pushed columns tests p n xs ys t is room e =
    subst (IsJoin columns tests p) (sym e)
    (join_alike columns tests p p xs (child_pushed xs n t) is (alike_pushed xs n t) (few_pushed p n xs t is.few room))

-- the child with a number
pub columns_at : (xs : List ChildOf) (n : ℕ) (d : ChildOf) → n < length xs
    → child_columns xs n ≡ (get_or xs n d).columns
columns_at [] n d within = absurd (omega arith)
columns_at (x ∷ xs) zero d within = refl
columns_at (x ∷ xs) (suc n) d within = columns_at xs n d (omega arith)

pub tables_at : (xs : List ChildOf) (n : ℕ) (d : ChildOf) → n < length xs → child_tables xs n ≡ (get_or xs n d).tables
tables_at [] n d within = absurd (omega arith)
tables_at (x ∷ xs) zero d within = refl
tables_at (x ∷ xs) (suc n) d within = tables_at xs n d (omega arith)

pub pushed_at : (xs : List ChildOf) (n : ℕ) (d new : ChildOf) (t : TableOf) → n < length xs
    → new ≡ record (get_or xs n d) { tables = (get_or xs n d).tables ++ t ∷ [] }
    → slice_set xs n new ≡ child_pushed xs n t
pushed_at [] n d new t within e = absurd (omega arith)
pushed_at (x ∷ xs) zero d new t within e = ap (λ z. z ∷ xs) e
pushed_at (x ∷ xs) (suc n) d new t within e = ap (λ zs. x ∷ zs) (pushed_at xs n d new t (omega arith) e)

pub same_at : (xs : List ChildOf) (n : ℕ) (d new : ChildOf) → n < length xs → new ≡ get_or xs n d
    → slice_set xs n new ≡ xs
same_at xs n d new within e = grind (arith, common_steps, zero)
