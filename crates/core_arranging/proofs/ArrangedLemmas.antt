-- An arranged core means what the core means.
use Rattle.std.proofs.Common.{◌≡◌, ℕ, Bool, not, ◌&&◌, ◌||◌, cond, List, length, refl, sym, ap, ap₂, ◌∙◌, arith}
use Rattle.std.proofs.{Math.Bool.and_assoc, Math.Bool.and_comm, lemmas.Slice.Eq.bytes_eq-Decides}
use Rattle.std.proofs.lemmas.Bool.{and_parts, cases_Bool, cond-false, cond-true}
use Rattle.std.specs.List.{list_any}
use Rattle.mfotl_model.proofs.{LogicLemmas.funext, VariableLemmas.joined_assoc}
use Rattle.mfotl_model.specs.FreeVariables.{fv, joined, without}
use Rattle.mfotl_model.specs.{Log.times, Settled.next_settled, Settled.settled}
use Rattle.mfotl_model.specs.Satisfaction.{Valuation, next, previous, sat, since, truths, until, with_value}
use Rattle.mfotl_model.specs.declared.{event.TimePoint.TimePoint, value.Value.Value}
use Rattle.monitorable.specs.CoreForms.{CoreForm, meaning, And, Exists, Next, Not, Or, Previous, Since, Until}
use Rattle.core_arranging.specs.Arranging.{arranged, before_windows, with_conjunct, with_conjuncts}

-- what both branches have
pub of_either : (P : CoreForm → Type 0) (b : Bool) (f g : CoreForm) → P f → P g → P (cond b f g)
of_either P b f g p q = grind arith

-- ---- a test that a conjunction meets by both sides, whatever their order

module _ (op : Bool → Bool → Bool) (assoc : (a b c : Bool) → op (op a b) c ≡ op a (op b c))
    (comm : (a b : Bool) → op a b ≡ op b a) (has : CoreForm → Bool)
    (both : (f g : CoreForm) → has (And f g) ≡ op (has f) (has g)) where
  swapped : (a b c : Bool) → op (op a c) b ≡ op (op a b) c
  swapped a b c = assoc a c b ∙ ap (op a) (comm c b) ∙ sym (assoc a b c)

  has_before : (f h : CoreForm) → has (before_windows f h) ≡ op (has f) (has h)
  has_before (And f g) h = grind (arith, of_either, swapped, has_before f h)
  has_before f h = grind arith

  pub has_conjuncts : (f g : CoreForm) → has (with_conjuncts f g) ≡ op (has f) (has g)
  has_conjuncts f (And g h) = grind (arith, has_conjuncts (with_conjuncts f g) h, has_conjuncts f g)
  has_conjuncts f g = grind (arith, of_either, has_before)

-- ---- the columns keep their order

fv_conjunct : (f h : CoreForm) → fv (meaning (with_conjunct f h)) ≡ fv (meaning (And f h))
fv_conjunct f h = grind (arith, cases_Bool, cond-true, and_parts, bytes_eq-Decides, cond-false)

fv_conjuncts : (f g : CoreForm) → fv (meaning (with_conjuncts f g)) ≡ joined (fv (meaning f)) (fv (meaning g))
unfolding fv
fv_conjuncts f (And g h) = simp (joined_assoc, fv_conjuncts (with_conjuncts f g) h, fv_conjuncts f g)
fv_conjuncts f g = fv_conjunct f g

-- ---- the core

pub fv_arranged : (f : CoreForm) → fv (meaning (arranged f)) ≡ fv (meaning f)
unfolding fv
fv_arranged (Not f) = fv_arranged f
fv_arranged (And f g) = fv_conjuncts (arranged f) (arranged g) ∙ ap₂ joined (fv_arranged f) (fv_arranged g)
fv_arranged (Or f g) = ap₂ joined (fv_arranged f) (fv_arranged g)
fv_arranged (Exists x f) = ap (without x.number) (fv_arranged f)
fv_arranged (Previous i f) = fv_arranged f
fv_arranged (Next i f) = fv_arranged f
fv_arranged (Since i f g) = ap₂ joined (fv_arranged f) (fv_arranged g)
fv_arranged (Until i f g) = ap₂ joined (fv_arranged f) (fv_arranged g)
fv_arranged f = refl

pub sat_arranged : (log : List TimePoint) (dom : List Value) (v : Valuation) (i : ℕ) (f : CoreForm)
    → sat log dom v i (meaning (arranged f)) ≡ sat log dom v i (meaning f)
unfolding sat
sat_arranged log dom v i (Not f) = ap not (sat_arranged log dom v i f)
sat_arranged log dom v i (And f g) =
    has_conjuncts (λ a b. a && b) and_assoc and_comm (λ k. sat log dom v i (meaning k)) (λ h k. refl) (arranged f)
    (arranged g)
    ∙ ap₂ (λ a b. a && b) (sat_arranged log dom v i f) (sat_arranged log dom v i g)
sat_arranged log dom v i (Or f g) = ap₂ (λ a b. a || b) (sat_arranged log dom v i f) (sat_arranged log dom v i g)
sat_arranged log dom v i (Exists x f) =
    ap (λ q. list_any q dom) (funext _ _ (λ a. sat_arranged log dom (with_value v x.number a) i f))
sat_arranged log dom v i (Previous interval f) =
    ap (λ q. previous interval (times log) (truths (length log) q) i) (funext _ _ (λ j. sat_arranged log dom v j f))
sat_arranged log dom v i (Next interval f) =
    ap (λ q. next interval (times log) (truths (length log) q) i) (funext _ _ (λ j. sat_arranged log dom v j f))
sat_arranged log dom v i (Since interval f g) =
    ap₂ (λ q r. since interval (times log) (truths (length log) q) (truths (length log) r) i)
    (funext _ _ (λ j. sat_arranged log dom v j f)) (funext _ _ (λ j. sat_arranged log dom v j g))
sat_arranged log dom v i (Until interval f g) =
    ap₂ (λ q r. until interval (times log) (truths (length log) q) (truths (length log) r) i)
    (funext _ _ (λ j. sat_arranged log dom v j f)) (funext _ _ (λ j. sat_arranged log dom v j g))
sat_arranged log dom v i f = refl

pub settled_arranged : (t : List ℕ) (f : CoreForm) (i : ℕ)
    → settled t (meaning (arranged f)) i ≡ settled t (meaning f) i
unfolding settled
settled_arranged t (Not f) i = settled_arranged t f i
settled_arranged t (And f g) i =
    has_conjuncts (λ a b. a && b) and_assoc and_comm (λ k. settled t (meaning k) i) (λ h k. refl) (arranged f)
    (arranged g)
    ∙ ap₂ (λ a b. a && b) (settled_arranged t f i) (settled_arranged t g i)
settled_arranged t (Or f g) i = ap₂ (λ a b. a && b) (settled_arranged t f i) (settled_arranged t g i)
settled_arranged t (Exists x f) i = settled_arranged t f i
settled_arranged t (Previous interval f) i = simp (settled_arranged t f)
settled_arranged t (Next interval f) i = ap (λ r. next_settled t r i) (funext _ _ (settled_arranged t f))
settled_arranged t (Since interval f g) i = simp (settled_arranged t f, settled_arranged t g)
settled_arranged t (Until interval f g) i = simp (settled_arranged t f, settled_arranged t g)
settled_arranged t f i = refl
