-- What was pushed: one item more, and the first one.
use Rattle.std.proofs.Common.{◌≡◌, ℕ, ◌+◌, ◌<◌, List, [], ◌∷◌, ◌++◌, length, get_or, drop, subst, arith}
use Rattle.mfotl_model.specs.Tables.{TableOf}
use Rattle.relations.specs.Pushed.{AreOver, StandFrom}

pub stand_push : {X : Type 0} (P : ℕ → X → Type 0) (p : ℕ) (xs : List X) (x : X) → StandFrom P p xs
    → P (p + length xs) x → StandFrom P p (xs ++ x ∷ [])
stand_push P p [] x all here = (let e : p + 0 ≡ p = omega arith in subst (λ i. P i x) e here, tt)
stand_push P p (y ∷ ys) x all here = (
  all.0,
  stand_push P (p + 1) ys x all.1
      (let e : p + length (y ∷ ys) ≡ p + 1 + length ys = omega arith in subst (λ i. P i x) e here),
)

pub over_push : (columns : List ℕ) (xs : List TableOf) (x : TableOf) → AreOver columns xs → x.columns ≡ columns
    → AreOver columns (xs ++ x ∷ [])
over_push columns [] x all here = (here, tt)
over_push columns (y ∷ ys) x all here = (all.0, over_push columns ys x all.1 here)

pub first_is : {X : Type 0} (ys : List X) (y : X) → 0 < length ys → y ≡ get_or ys 0 y → ys ≡ y ∷ drop 1 ys
first_is ys y n e = grind arith

-- the first of what stands, and the rest
pub stand_first : {X : Type 0} (P : ℕ → X → Type 0) (p : ℕ) (all rest : List X) (x : X) → all ≡ x ∷ rest
    → StandFrom P p all → P p x × StandFrom P (p + 1) rest
stand_first P p all rest x e stands = subst (StandFrom P p) e stands

pub over_first : (columns : List ℕ) (all rest : List TableOf) (x : TableOf) → all ≡ x ∷ rest → AreOver columns all
    → (x.columns ≡ columns) × AreOver columns rest
over_first columns all rest x e over = subst (AreOver columns) e over
