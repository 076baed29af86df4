-- What a core has to do with the formula that it negates.
use Rattle.std.specs.Prelude.{◌≡◌, ℕ, not, List}
use Rattle.mfotl_model.specs.ActiveDomain.{constants}
use Rattle.mfotl_model.specs.Formulas.{Form}
use Rattle.mfotl_model.specs.Satisfaction.{Valuation, sat}
use Rattle.mfotl_model.specs.Settled.{settled}
use Rattle.mfotl_model.specs.declared.event.TimePoint.{TimePoint}
use Rattle.mfotl_model.specs.declared.value.Value.{Value}
use Rattle.monitorable.specs.CoreForms.{CoreForm, meaning}
use Rattle.mfotl_model.specs.Domains.{in_domain}

-- g holds exactly where f doesn't
abbrev pub Negates : CoreForm → Form → Type 0
Negates g f =
    (log : List TimePoint) (dom : List Value) (v : Valuation) (i : ℕ)
    → sat log dom v i (meaning g) ≡ not (sat log dom v i f)

-- g is settled exactly where f is
abbrev pub SettlesWith : CoreForm → Form → Type 0
SettlesWith g f = (times : List ℕ) (i : ℕ) → settled times (meaning g) i ≡ settled times f i

-- g has the constants of f
abbrev pub HasConstantsOf : CoreForm → Form → Type 0
HasConstantsOf g f = (a : Value) → in_domain (constants (meaning g)) a ≡ in_domain (constants f) a
