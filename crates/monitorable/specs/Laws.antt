-- What is always true of the logic.
use Rattle.std.specs.Prelude.{◌≡◌, ℕ, ◌+◌, ◌<◌, true, false, not, List, ◌++◌, length, None}
use Rattle.std.specs.List.{list_all}
use Rattle.std.specs.List.Sorted.{IsStrictlySortedBy}
use Rattle.mfotl_model.specs.ActiveDomain.{constants, log_values}
use Rattle.mfotl_model.specs.Exact.{Exact, View}
use Rattle.mfotl_model.specs.Formulas.{Form}
use Rattle.mfotl_model.specs.FreeVariables.{fv, among}
use Rattle.mfotl_model.specs.Log.{Log, times}
use Rattle.mfotl_model.specs.Regions.{everywhere}
use Rattle.mfotl_model.specs.Satisfaction.{Valuation, sat}
use Rattle.mfotl_model.specs.Settled.{settled}
use Rattle.mfotl_model.specs.Tables.{TableOf, all_apart, all_sized}
use Rattle.mfotl_model.specs.Values.{row_cmp}
use Rattle.mfotl_model.specs.VerdictText.{text}
use Rattle.mfotl_model.specs.Violations.{viol}
use Rattle.mfotl_model.specs.declared.event.TimePoint.{TimePoint}
use Rattle.mfotl_model.specs.declared.value.Value.{Value}
use Rattle.monitorable.specs.Conjuncts.{conjuncts_of, part_holds}
use Rattle.monitorable.specs.CoreForms.{CoreForm, meaning}
use Rattle.mfotl_model.specs.Domains.{Includes, in_domain}
use Rattle.monitorable.specs.Fragment.{Names, frag, frag_fault}
use Rattle.monitorable.specs.Negation.{HasConstantsOf, Negates}
use Rattle.monitorable.specs.NormalForm.{positive, negative}
use Rattle.monitorable.specs.Renaming.{apart_form, binders}
use Rattle.monitorable.specs.Soundness.{IsWellFormedIn}
use Rattle.monitorable.specs.SatisfyingRows.{HasViolationsOf, satisfying_rows}
use Rattle.mfotl_model.specs.Times.{NeverFalls}

-- whether a formula holds hangs on its free variables alone
abbrev pub Coincidence : Type 0
Coincidence =
    (log : List TimePoint) (dom : List Value) (f : Form) (v w : Valuation) (i : ℕ)
    → ((y : ℕ) → among y (fv f) ≡ true → v y ≡ w y)
    → sat log dom v i f ≡ sat log dom w i f

-- the normal form of f holds exactly where f does, and that of NOT f exactly where f doesn't
abbrev pub NormalFormHolds : Type 0
NormalFormHolds =
    (log : List TimePoint) (dom : List Value) (f : Form) (v : Valuation) (i : ℕ)
    → (sat log dom v i (meaning (positive f)) ≡ sat log dom v i f)
    × (sat log dom v i (meaning (negative f)) ≡ not (sat log dom v i f))

-- both normal forms are settled exactly where f is
abbrev pub NormalFormSettled : Type 0
NormalFormSettled =
    (times : List ℕ) (f : Form) (i : ℕ)
    → (settled times (meaning (positive f)) i ≡ settled times f i)
    × (settled times (meaning (negative f)) i ≡ settled times f i)

-- with its quantifiers apart, a core holds where it did and is settled where it was
abbrev pub ApartMeansTheSame : Type 0
ApartMeansTheSame =
    (log : List TimePoint) (dom : List Value) (f : CoreForm) (v : Valuation) (i : ℕ)
    → (sat log dom v i (meaning (apart_form f)) ≡ sat log dom v i (meaning f))
    × ((times : List ℕ) → settled times (meaning (apart_form f)) i ≡ settled times (meaning f) i)

-- with its quantifiers apart, a core has the same free variables, and no two of its free variables
-- and its quantifiers' variables are the same
abbrev pub ApartVariables : Type 0
ApartVariables =
    (f : CoreForm)
    → (fv (meaning (apart_form f)) ≡ fv (meaning f))
    × (all_apart (fv (meaning (apart_form f)) ++ binders (apart_form f)) ≡ true)

-- both normal forms have the formula's free variables, in the same order
abbrev pub NormalFormVariables : Type 0
NormalFormVariables = (f : Form) → (fv (meaning (positive f)) ≡ fv f) × (fv (meaning (negative f)) ≡ fv f)

-- both normal forms have the formula's constants
abbrev pub NormalFormConstants : Type 0
NormalFormConstants =
    (f : Form) (a : Value)
    → (in_domain (constants (meaning (positive f))) a ≡ in_domain (constants f) a)
    × (in_domain (constants (meaning (negative f))) a ≡ in_domain (constants f) a)

-- what is settled holds or fails so in every longer log whose timestamps never fall
abbrev pub Finality : Type 0
Finality =
    (log more : List TimePoint) (dom : List Value) (f : Form) (v : Valuation) (i : ℕ)
    → NeverFalls (times (log ++ more)) → settled (times log) f i ≡ true
    → sat log dom v i f ≡ sat (log ++ more) dom v i f

-- the settled positions are the first ones
abbrev pub SettledBefore : Type 0
SettledBefore =
    (times : List ℕ) → NeverFalls times → (f : Form) (i : ℕ)
    → settled times f (i + 1) ≡ true → settled times f i ≡ true

-- What the fragment accepts is satisfied only by values of the domain, for each base that has the
-- values of the log and the constants of the core; and it holds alike over all domains that
-- include the base, whatever their order and repeats.
abbrev pub Domain : Type 0
Domain =
    (log : List TimePoint) (base : List Value) (names : Names) (f : CoreForm)
    → frag names f ≡ None → Includes base (log_values log) → Includes base (constants (meaning f))
    → (v : Valuation) (i : ℕ)
    → ((dom : List Value) (y : ℕ)
    → sat log dom v i (meaning f) ≡ true → among y (fv (meaning f)) ≡ true → in_domain base (v y) ≡ true)
    × ((a b : List Value) → Includes a base → Includes b base
    → sat log a v i (meaning f) ≡ sat log b v i (meaning f))

-- what is settled lies within the log
abbrev pub SettledWithin : Type 0
SettledWithin = (times : List ℕ) (f : Form) (i : ℕ) → settled times f i ≡ true → i < length times

-- what is settled is settled in every longer log
abbrev pub SettledStays : Type 0
SettledStays =
    (times more : List ℕ) → NeverFalls (times ++ more) → (f : Form) (i : ℕ)
    → settled times f i ≡ true → settled (times ++ more) f i ≡ true

-- the violations of a monitored policy at a settled position are the same in every longer log
abbrev pub ViolationsFinal : Type 0
ViolationsFinal =
    (log more : List TimePoint) (names : Names) (f : Form) (i : ℕ)
    → NeverFalls (times (log ++ more)) → frag names (negative f) ≡ None → settled (times log) f i ≡ true
    → viol log f i ≡ viol (log ++ more) f i

-- the log of these time-points
abbrev pub log_of : List TimePoint → Log
log_of points = record { points = points }

-- the text of a log is a prefix of the text of every longer one, where the policy can be monitored
abbrev pub TextFinal : Type 0
TextFinal =
    (log more : List TimePoint) (names : Names) (f : Form)
    → NeverFalls (times (log ++ more)) → frag_fault names f ≡ None
    → (rest : List ℕ)
    × (text (log_of (log ++ more)) f ≡ text (log_of log) f ++ rest)

-- with its quantifiers apart, a core that the fragment accepts is accepted, whatever its names
abbrev pub ApartFragment : Type 0
ApartFragment =
    (names names' : Names) (f : CoreForm) → frag names f ≡ None → frag names' (apart_form f) ≡ None

-- a core holds exactly where all its conjuncts do
abbrev pub ConjunctsMean : Type 0
ConjunctsMean =
    (log : List TimePoint) (dom : List Value) (f : CoreForm) (v : Valuation) (i : ℕ)
    → sat log dom v i (meaning f) ≡ list_all (part_holds log dom v i) (conjuncts_of f)

-- with its quantifiers apart, a core has the same constants
abbrev pub ApartConstants : Type 0
ApartConstants = (f : CoreForm) → constants (meaning (apart_form f)) ≡ constants (meaning f)

-- the violations of a formula are the rows that satisfy a core which negates it, and has its free variables in
-- their order and its constants
abbrev pub ViolationsSatisfy : Type 0
ViolationsSatisfy =
    (f : Form) (g : CoreForm) → Negates g f → fv (meaning g) ≡ fv f → HasConstantsOf g f
    → HasViolationsOf g f

-- the view of one worker alone on a core and a log: each row is near
abbrev pub whole_view : List TimePoint → CoreForm → View
whole_view log g = record { near = everywhere; log = log; whole = meaning g }

-- A table that is exact for a core which the fragment accepts, on all rows, holds the rows that satisfy the core:
-- where its rows ascend, and each has a value for each column, they are these rows.
abbrev pub TablesSatisfy : Type 0
TablesSatisfy =
    (log : List TimePoint) (names : Names) (g : CoreForm) (i : ℕ) (table : TableOf)
    → frag names g ≡ None → Exact (whole_view log g) (meaning g) i table
    → all_sized (length table.columns) table.rows ≡ true → IsStrictlySortedBy row_cmp table.rows
    → table.rows ≡ satisfying_rows log g i

-- a core that the fragment accepts, and no two of whose free and bound variables are the same, is sound in each part
abbrev pub PartsAreSound : Type 0
PartsAreSound =
    (names : Names) (f : CoreForm)
    → frag names f ≡ None → all_apart (fv (meaning f) ++ binders f) ≡ true → IsWellFormedIn f f
