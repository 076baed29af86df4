-- The predicates of a signature, as clauses see them.
use Rattle.std.specs.Prelude.{[], ◌∷◌, ◌++◌, length, ◌≡◌, ℕ, List, Option, find}
use Rattle.std.specs.Str.{bytes_eq}
use Rattle.std.specs.Global.{Vec}
use Rattle.mfotl_model.specs.declared.policy.Sort.{Sort}
use Rattle.mfotl_sig.specs.declared.pred.Pred.{Pred}

-- a predicate without where its sorts lie in memory
pub record PredOf : Type 0 where
  pub number : ℕ
  pub name : List ℕ
  pub sorts : List Sort

-- the same of a predicate that a call lends
abbrev pub pred_of : Pred → PredOf
pred_of p = record { number = p.number; name = p.name; sorts = p.sorts.items }

-- the predicate of a name
abbrev pub named : List ℕ → List PredOf → Option PredOf
named name preds = find (λ p. bytes_eq name p.name) preds

-- one predicate more, with the next number
abbrev pub with_pred : List PredOf → List ℕ → List Sort → List PredOf
with_pred preds name sorts =
    preds ++ record { number = length preds; name = name; sorts = sorts } ∷ []

-- each predicate lies under its own name
abbrev pub KeyedByName : Vec ℕ × Pred → Type 0
KeyedByName e = e.0.items ≡ e.1.name
