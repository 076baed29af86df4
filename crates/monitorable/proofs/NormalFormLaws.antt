-- The normal forms hold where they should, and are settled where the formula is.
use Rattle.std.proofs.Common.{◌≡◌, ℕ, Bool, not, ◌&&◌, nat_lt, List, length, refl, arith}
use Rattle.std.proofs.lemmas.Bool.{lt-ltb}
use Rattle.mfotl_model.specs.{Formulas.Form, Settled.settled}
use Rattle.mfotl_model.specs.Formulas.Form.{Not, And, Or, Implies, Equiv, Exists, Forall, Previous, Next, Once}
use Rattle.mfotl_model.specs.Formulas.Form.{Historically, Eventually, Always, Since, Until}
use Rattle.mfotl_model.specs.Satisfaction.{Valuation, sat, with_value}
use Rattle.mfotl_model.specs.declared.{event.TimePoint.TimePoint, value.Value.Value}
use Rattle.mfotl_model.proofs.LogicLemmas.{absorbed, all_any}
use Rattle.monitorable.proofs.CoreSettled.{core_within}
use Rattle.monitorable.specs.{CoreForms.CoreForm, CoreForms.meaning, NormalForm.positive, NormalForm.negative}
use Rattle.monitorable.specs.{Laws.NormalFormHolds, Laws.NormalFormSettled}

not_not : (a : Bool) → a ≡ not (not a)
not_not a = grind arith

module _ (log : List TimePoint) (dom : List Value) where
  holds : (f : Form) (v : Valuation) (i : ℕ) → (sat log dom v i (meaning (positive f)) ≡ sat log dom v i f)
      × (sat log dom v i (meaning (negative f)) ≡ not (sat log dom v i f))
  unfolding sat positive negative
  holds (Not f) v i = grind (arith, holds f v i)
  holds (And f g) v i = grind (arith, holds f v i, holds g v i)
  holds (Or f g) v i = grind (arith, holds f v i, holds g v i)
  holds (Implies f g) v i = grind (arith, holds f v i, holds g v i)
  holds (Equiv f g) v i = grind (arith, holds f v i, holds g v i)
  holds (Exists x f) v i = simp (λ (a : Value). (holds f (with_value v x.number a) i).0) (refl, refl)
  holds (Forall x f) v i = simp (λ (a : Value). (holds f (with_value v x.number a) i).1, all_any) (refl, not_not _)
  holds (Previous interval f) v i = simp (λ (j : ℕ). (holds f v j).0) (refl, refl)
  holds (Next interval f) v i = simp (λ (j : ℕ). (holds f v j).0) (refl, refl)
  holds (Once interval f) v i = simp (λ (j : ℕ). (holds f v j).0) (refl, refl)
  holds (Historically interval f) v i = simp (λ (j : ℕ). (holds f v j).1) (refl, not_not _)
  holds (Eventually interval f) v i = simp (λ (j : ℕ). (holds f v j).0) (refl, refl)
  holds (Always interval f) v i = simp (λ (j : ℕ). (holds f v j).1) (refl, not_not _)
  holds (Since interval f g) v i = simp (λ (j : ℕ). (holds f v j).0, λ (j : ℕ). (holds g v j).0) (refl, refl)
  holds (Until interval f g) v i = simp (λ (j : ℕ). (holds f v j).0, λ (j : ℕ). (holds g v j).0) (refl, refl)
  holds f v i = (refl, refl)

pub normal_form_holds : NormalFormHolds
normal_form_holds log dom f v i = holds log dom f v i

module _ (times : List ℕ) where
  -- beside TRUE, which the derived operators take on the left
  beside_true : (f : CoreForm) (j : ℕ)
      → (nat_lt j (length times) && settled times (meaning f) j) ≡ settled times (meaning f) j
  beside_true f j = absorbed _ _ (λ h. lt-ltb j (length times) (core_within times f j h))

  same : (f : Form) (i : ℕ) → (settled times (meaning (positive f)) i ≡ settled times f i)
      × (settled times (meaning (negative f)) i ≡ settled times f i)
  unfolding settled positive negative
  same (Not f) i = ((same f i).1, (same f i).0)
  same (And f g) i = grind (arith, same f i, same g i)
  same (Or f g) i = grind (arith, same f i, same g i)
  same (Implies f g) i = grind (arith, same f i, same g i)
  same (Equiv f g) i = grind (arith, same f i, same g i)
  same (Exists x f) i = ((same f i).0, (same f i).0)
  same (Forall x f) i = ((same f i).1, (same f i).1)
  same (Previous interval f) i = simp (λ (j : ℕ). (same f j).0) (refl, refl)
  same (Next interval f) i = simp (λ (j : ℕ). (same f j).0) (refl, refl)
  same (Once interval f) i = simp (beside_true (positive f)) (simp (λ (j : ℕ). (same f j).0) (refl, refl))
  same (Historically interval f) i = simp (beside_true (negative f)) (simp (λ (j : ℕ). (same f j).1) (refl, refl))
  same (Eventually interval f) i = simp (beside_true (positive f)) (simp (λ (j : ℕ). (same f j).0) (refl, refl))
  same (Always interval f) i = simp (beside_true (negative f)) (simp (λ (j : ℕ). (same f j).1) (refl, refl))
  same (Since interval f g) i = simp (λ (j : ℕ). (same f j).0, λ (j : ℕ). (same g j).0) (refl, refl)
  same (Until interval f g) i = simp (λ (j : ℕ). (same f j).0, λ (j : ℕ). (same g j).0) (refl, refl)
  same f i = (refl, refl)

pub normal_form_settled : NormalFormSettled
normal_form_settled times f i = same times f i
