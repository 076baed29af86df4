-- A core as it is evaluated means what the core means.
use Rattle.std.proofs.Common.{◌≡◌, ℕ, List, ◌∙◌}
use Rattle.mfotl_model.specs.{FreeVariables.fv, Satisfaction.Valuation, Satisfaction.sat, Settled.settled}
use Rattle.mfotl_model.specs.declared.{event.TimePoint.TimePoint, value.Value.Value}
use Rattle.monitorable.specs.{CoreForms.CoreForm, CoreForms.meaning}
use Rattle.core_arranging.proofs.ArrangedLemmas.{fv_arranged, sat_arranged, settled_arranged}
use Rattle.core_arranging.proofs.NarrowedLemmas.{fv_narrowed, sat_narrowed, settled_narrowed}
use Rattle.core_arranging.specs.Arranging.{narrowed, posed}
use Rattle.core_arranging.specs.Laws.{PosedMeansTheSame}

pub sat_posed : (log : List TimePoint) (dom : List Value) (v : Valuation) (i : ℕ) (f : CoreForm)
    → sat log dom v i (meaning (posed f)) ≡ sat log dom v i (meaning f)
sat_posed log dom v i f = sat_arranged log dom v i (narrowed f) ∙ sat_narrowed log dom v i f

pub settled_posed : (t : List ℕ) (i : ℕ) (f : CoreForm) → settled t (meaning (posed f)) i ≡ settled t (meaning f) i
settled_posed t i f = settled_arranged t (narrowed f) i ∙ settled_narrowed t i f

pub fv_posed : (f : CoreForm) → fv (meaning (posed f)) ≡ fv (meaning f)
fv_posed f = fv_arranged (narrowed f) ∙ fv_narrowed f

pub posed_means_the_same : PosedMeansTheSame
posed_means_the_same = record {
  holds = sat_posed;
  settles = settled_posed;
  columns = fv_posed;
}
