-- What is left where old times of a group's rows are forgotten.
use Rattle.std.proofs.Common.{arith, ◌≡◌, ℕ, Bool, true, cond, ◌&&◌, nat_eq, List, [], length, Some, None, refl, ap}
use Rattle.std.specs.{BTreeMap.is_at, Cmp.eq_by_cmp_equiv, HashMap.HashMap, HashMap.WritesThrough, Map.lookup}
use Rattle.std.specs.{Option.unwrap_or, Ordering.eq_by_cmp}
use Rattle.mfotl_model.specs.Values.{row_cmp, row_total}
use Rattle.mfotl_model.specs.declared.value.Value.{Value}
use Rattle.relations.proofs.{KeptLemmas.empty_list, MapLemmas.nothing_there, MapLemmas.same_row}
use Rattle.relations.specs.KeptRows.{kept_for, list_for}
use Rattle.row_times.specs.Groups.{HaveTimes, NoneEmpty, NoneEmptyBut, times_at}
use Rattle.row_times.specs.Times.{recent}
use Rattle.row_times.proofs.GroupLemmas.{nothing_recent, regrouped}

-- in a group that isn't there
pub not_there : (hi x : ℕ) (key q v : List Value) (meant : Bool)
    (old new : List (List Value × List (List Value × List ℕ))) → new ≡ old → None ≡ kept_for old key
    → times_at new q v ≡ cond (is_at (row_cmp key) q && meant) (recent hi x (times_at old q v)) (times_at old q v)
not_there hi x key q v meant old new same none =
    regrouped (recent hi x) key q v meant old new [] [] None (nothing_there key q old new same none) refl
    (ap (λ o. unwrap_or o []) none) (nothing_recent hi x v meant)

-- in a group e, which becomes g
module _ {S : Type 0} (key : List Value) (m n : HashMap (List Value) (List (List Value × List ℕ)) S)
    (g e : List (List Value × List ℕ)) (is : Some e ≡ lookup (is_at (row_cmp key)) m.entries)
    (writes : WritesThrough (eq_by_cmp row_cmp) (eq_by_cmp row_cmp key) m g n) where
  changes : (q : List Value) → kept_for n.entries q ≡ cond (is_at (row_cmp key) q) (Some g) (kept_for m.entries q)
  changes q = grind arith

  pub forgets : (hi x : ℕ) (q v : List Value) (meant : Bool)
      → list_for g v ≡ cond meant (recent hi x (list_for e v)) (list_for e v) → times_at n.entries q v
      ≡ cond (is_at (row_cmp key) q && meant) (recent hi x (times_at m.entries q v)) (times_at m.entries q v)
  forgets hi x q v meant inner = grind (arith, regrouped, changes)

  pub leaves_none : nat_eq (length g) 0 ≡ true → list_for n.entries key ≡ []
  leaves_none none = grind (arith, changes key, (eq_by_cmp_equiv row_total).refl key, empty_list g none)

  pub leaves_filled : (HaveTimes e → HaveTimes g) → NoneEmpty m.entries
      → NoneEmptyBut (nat_eq (length g) 0) key n.entries
  leaves_filled stay all q = grind arith

-- where a group without rows goes, each row keeps its times
pub none_lost : (key q v : List Value) (old new : List (List Value × List (List Value × List ℕ)))
    → list_for old key ≡ [] → kept_for new q ≡ cond (is_at (row_cmp key) q) None (kept_for old q)
    → times_at new q v ≡ times_at old q v
none_lost key q v old new none gone = grind (arith, same_row key q)
