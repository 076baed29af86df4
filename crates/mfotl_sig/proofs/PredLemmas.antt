-- The map that keeps the predicates, and the list that clauses see.
use Rattle.std.proofs.Common.{◌≡◌, ℕ, List, [], ◌∷◌, ◌++◌, map, Option, Some, None, option_map, cond, Bool, refl, arith}
use Rattle.std.specs.{List.AllByRecursion, List.find, Str.bytes_eq, Global.Vec, Map.lookup}
use Rattle.indexmap.specs.IndexMap.{insert_entry}
use Rattle.mfotl_sig.specs.declared.pred.Pred.{Pred}
use Rattle.mfotl_sig.specs.Preds.{PredOf, pred_of, named, KeyedByName}

-- the predicates that a map's entries have
abbrev pub preds_of : List (Vec ℕ × Pred) → List PredOf
preds_of entries = map (λ e. pred_of e.1) entries

either_way : (b : Bool) (p : Pred) (found : Option Pred) (next : Option PredOf) → option_map pred_of found ≡ next
    → option_map pred_of (cond b (Some p) found) ≡ cond b (Some (pred_of p)) next
either_way b p found next same = grind arith

-- a look-up by name finds the predicate of that name
pub lookup_named : (entries : List (Vec ℕ × Pred)) (name : List ℕ) → AllByRecursion KeyedByName entries
    → option_map pred_of (lookup (λ k. bytes_eq name k.items) entries) ≡ named name (preds_of entries)
lookup_named [] name keyed = refl
lookup_named (e ∷ entries) name keyed = grind (arith, either_way, lookup_named entries name keyed.1)

-- the first predicate of the name among the values is that one too
pub first_named : (entries : List (Vec ℕ × Pred)) (name : List ℕ)
    → option_map pred_of (find (λ (p : Pred). bytes_eq name p.name) (map (λ e. e.1) entries))
    ≡ named name (preds_of entries)
first_named [] name = refl
first_named (e ∷ entries) name = either_way (bytes_eq name e.1.name) e.1 _ _ (first_named entries name)

-- when two keys of the map are one
abbrev pub same_key : Vec ℕ → Vec ℕ → Bool
same_key a b = bytes_eq a.items b.items

-- the entries after a predicate goes last: the same predicates and this one, each under its name
pub record GoesLast (entries new : List (Vec ℕ × Pred)) (pred : Pred) : Type 0 where
  pub preds : preds_of new ≡ preds_of entries ++ pred_of pred ∷ []
  pub keyed : AllByRecursion KeyedByName new

behind : (b : Bool) (e : Vec ℕ × Pred) (entries others : List (Vec ℕ × Pred)) (pred : Pred) → KeyedByName e
    → cond b (Some (pred_of e.1)) (named pred.name (preds_of entries)) ≡ None
    → (named pred.name (preds_of entries) ≡ None → GoesLast entries others pred)
    → GoesLast (e ∷ entries) (cond b ((e.0, pred) ∷ entries) (e ∷ others)) pred
behind b e entries others pred keyed absent go = grind arith

-- a predicate with a new name goes last
pub insert_new : (entries : List (Vec ℕ × Pred)) (key : Vec ℕ) (pred : Pred) → AllByRecursion KeyedByName entries
    → KeyedByName (key, pred)
    → named pred.name (preds_of entries) ≡ None → GoesLast entries (insert_entry same_key entries key pred) pred
insert_new [] key pred keyed named_so absent = record { preds = refl; keyed = (named_so, tt) }
insert_new (e ∷ entries) key pred keyed named_so absent =
    grind (arith, behind, insert_new entries key pred keyed.1 named_so)
