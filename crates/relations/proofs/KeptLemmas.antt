-- What is kept for rows that differ: by look-ups, and one after another.
use Rattle.std.proofs.Common.{◌≡◌, ◌<◌, Bool, true, false, cond, nat_eq, ◌&&◌, List, [], ◌∷◌, length, Option, Some}
use Rattle.std.proofs.Common.{None, refl, sym, ap, arith}
use Rattle.std.proofs.{lemmas.Grind.common_steps, lemmas.Map.lookup-none, lemmas.Map.Entries.none_past_head}
use Rattle.std.proofs.lemmas.Map.Keys.{sorted_tail, IsDistinct-from_sorted, IsDistinct-tail}
use Rattle.std.specs.{BTreeMap.is_at, Cmp.eq_by_cmp_equiv, List.AllByRecursion, List.list_any, Map.keys_of}
use Rattle.std.specs.{Ordering.eq_by_cmp}
use Rattle.std.specs.Option.{IfSome, is_some, option_or, unwrap_or}
use Rattle.mfotl_model.specs.Values.{row_cmp, row_total}
use Rattle.mfotl_model.specs.declared.value.Value.{Value}
use Rattle.relations.proofs.MapLemmas.{either, same_row}
use Rattle.relations.specs.KeptRows.{RowsAscend, RowsDiffer, filled, first_filled, kept_for, last_for, list_for}

-- a list with something, and one with nothing
pub not_empty : {X : Type 0} (xs : List X) → nat_eq (length xs) 0 ≡ false → 0 < length xs
not_empty xs e = grind (arith, common_steps)

pub empty_list : {X : Type 0} (xs : List X) → nat_eq (length xs) 0 ≡ true → [] ≡ xs
empty_list xs e = grind (arith, common_steps)

-- rows that ascend differ
pub ascending_differ : {X : Type 0} (es : List (List Value × X)) → RowsAscend es → RowsDiffer es
ascending_differ es up = IsDistinct-from_sorted row_cmp (keys_of es) up

pub differ_tail : {X : Type 0} (e : List Value × X) (es : List (List Value × X)) → RowsDiffer (e ∷ es) → RowsDiffer es
differ_tail e es apart = IsDistinct-tail (eq_by_cmp row_cmp) e.0 (keys_of es) apart

-- behind a row nothing is kept for it
pub none_behind : {X : Type 0} (u : List Value) (e : List Value × X) (es : List (List Value × X)) → RowsDiffer (e ∷ es)
    → is_at (row_cmp u) e.0 ≡ true → kept_for es u ≡ None
none_behind u e es apart at =
    lookup-none (is_at (row_cmp u)) es (none_past_head (eq_by_cmp_equiv row_total) u e es apart at)

-- what a test finds among the lists of a row is what it says of the row's own list
pub any_is : {X : Type 0} (p : List X → Bool) → p [] ≡ false → (u : List Value) (es : List (List Value × List X))
    → RowsDiffer es → list_any (λ e. eq_by_cmp row_cmp u e.0 && p e.1) es ≡ p (list_for es u)
any_is p none u [] apart = sym none
any_is p none u (e ∷ es) apart = grind (arith, none_behind, differ_tail, any_is p none u es (differ_tail e es apart))

-- what holds of all that is kept still does after a change at one row
pub each_after : {X : Type 0} (P : X → Type 0) (row : List Value) (old new : List (List Value × X)) (w : Option X)
    → ((v : List Value) → kept_for new v ≡ cond (is_at (row_cmp row) v) w (kept_for old v))
    → IfSome w P → ((v : List Value) → IfSome (kept_for old v) P) → (v : List Value) → IfSome (kept_for new v) P
each_after {X} P row old new w changes here before v = grind arith

-- what holds of all that look-ups find holds of each row
pub each_kept : {X : Type 0} (Q : List Value → X → Type 0) (es : List (List Value × X)) → RowsAscend es
    → ((u : List Value) (x : X) → kept_for es u ≡ Some x → Q u x) → AllByRecursion (λ e. Q e.0 e.1) es
each_kept Q [] up found = tt
each_kept Q (e ∷ es) up found = (
  found e.0 e.1 (ap (λ b. cond b (Some e.1) (kept_for es e.0)) ((eq_by_cmp_equiv row_total).refl e.0)),
  each_kept Q es (sorted_tail row_cmp e.0 (keys_of es) up)
      (λ u x is. found u x (grind (arith, common_steps, none_behind u e es (ascending_differ (e ∷ es) up)))),
)

-- what holds of each row holds of all that look-ups find
pub found_kept : {X : Type 0} (P : X → Type 0) (es : List (List Value × X)) → AllByRecursion (λ e. P e.1) es
    → (u : List Value) → IfSome (kept_for es u) P
found_kept P [] all u = tt
found_kept P (e ∷ es) all u = grind (arith, either, found_kept P es all.1 u)

pub or_none : {X : Type 0} (o : Option X) → option_or o None ≡ o
or_none o = grind (arith, common_steps)

-- the first list of a row is its only one
pub first_is_only : {X : Type 0} (es : List (List Value × List X)) → RowsDiffer es → (u : List Value)
    → first_filled es u ≡ filled (list_for es u)
first_is_only [] apart u = refl
first_is_only (e ∷ es) apart u =
    grind (arith, none_behind, differ_tail, or_none, first_is_only es (differ_tail e es apart) u)

pub filled_none : {X : Type 0} (xs : List X) → nat_eq (length xs) 0 ≡ true → filled xs ≡ None
filled_none xs e = sym (ap filled (empty_list xs e))

pub filled_some : {X : Type 0} (xs : List X) → nat_eq (length xs) 0 ≡ false → filled xs ≡ Some xs
filled_some xs e = grind arith

-- without a list there is nothing more
pub none_more : {X : Type 0} (o p : Option X) (b : Bool) → p ≡ None → o ≡ option_or o (cond b p None)
none_more o p b none = grind (arith, common_steps, or_none o)

-- what is kept for a row stays
pub there_already : {X : Type 0} (row u : List Value) (es : List (List Value × X)) (p : Option X)
    → is_some (kept_for es row) ≡ true → kept_for es u ≡ option_or (kept_for es u) (cond (is_at (row_cmp u) row) p None)
there_already row u es p there = grind (arith, common_steps, same_row u row, or_none (kept_for es u))

-- one row more
pub one_poured : {X : Type 0} (row u : List Value) (es new : List (List Value × X)) (x : X) (p : Option X)
    → is_some (kept_for es row) ≡ false → p ≡ Some x
    → kept_for new u ≡ cond (is_at (row_cmp row) u) (Some x) (kept_for es u)
    → kept_for new u ≡ option_or (kept_for es u) (cond (is_at (row_cmp u) row) p None)
one_poured row u es new x p none is step = grind (
  arith,
  common_steps,
  (eq_by_cmp_equiv row_total).symm row u,
  same_row u row,
  or_none (kept_for es u),
)

pub filled_back : {X : Type 0} (xs : List X) → unwrap_or (filled xs) [] ≡ xs
filled_back xs = grind arith

-- what is kept is the list itself, and it isn't empty
pub filled_is : {X : Type 0} (xs ys : List X) → filled xs ≡ Some ys → (xs ≡ ys) × (0 < length xs)
filled_is xs ys e = grind arith

-- of rows that differ the last one is the only one
pub last_is : {X : Type 0} (es : List (List Value × X)) → RowsDiffer es → (u : List Value) (o : Option X)
    → last_for es u o ≡ option_or (kept_for es u) o
last_is [] apart u o = refl
last_is (e ∷ es) apart u o = grind (
  arith,
  common_steps,
  none_behind u e es apart,
  (eq_by_cmp_equiv row_total).symm e.0 u,
  last_is es (differ_tail e es apart) u (cond (is_at (row_cmp e.0) u) (Some e.1) o),
)
