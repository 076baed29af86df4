-- What a node does with one time-point more.
use Rattle.std.specs.Prelude.{◌≡◌, ◌+◌, true, List, [], ◌∷◌, ◌++◌, length}
use Rattle.mfotl_model.specs.Exact.{AllExact, View}
use Rattle.mfotl_model.specs.FreeVariables.{fv, variables_in}
use Rattle.mfotl_model.specs.Log.{times}
use Rattle.mfotl_model.specs.Regions.{Passes}
use Rattle.mfotl_model.specs.Satisfaction.{Valuation, event_of, has_event}
use Rattle.mfotl_model.specs.Tables.{TableOf}
use Rattle.mfotl_model.specs.Times.{NeverFalls}
use Rattle.mfotl_model.specs.declared.event.Event.{Event}
use Rattle.mfotl_model.specs.declared.event.TimePoint.{TimePoint}
use Rattle.monitorable.specs.CoreForms.{CoreForm, meaning, True, False, Atom, Compare, Not, And, Or, Exists, Previous}
use Rattle.monitorable.specs.CoreForms.{Next, Since, Until}
use Rattle.monitorable.specs.Soundness.{IsWellFormedIn}
use Rattle.monitor_nodes.specs.Operands.{operands}
use Rattle.monitor_nodes.specs.Stands.{IsNodeFor, NodeStands}
use Rattle.monitor_nodes.specs.Views.{reached}
use Rattle.monitor_nodes.specs.declared.node.Node.{Node}

-- the view with one time-point more
abbrev pub longer : View → TimePoint → View
longer view point = record view { log = view.log ++ point ∷ [] }

-- both databases have the same near events of each atom of the core
abbrev pub SameNear : View → CoreForm → List Event → List Event → Type 0
SameNear view True given db = Unit {0}
SameNear view False given db = Unit {0}
SameNear view (Atom atom) given db =
    (v : Valuation) → view.near (variables_in atom.args) v ≡ true
    → has_event given (event_of v atom) ≡ has_event db (event_of v atom)
SameNear view (Compare c) given db = Unit {0}
SameNear view (Not f) given db = SameNear view f given db
SameNear view (And f g) given db = SameNear view f given db × SameNear view g given db
SameNear view (Or f g) given db = SameNear view f given db × SameNear view g given db
SameNear view (Exists x f) given db = SameNear view f given db
SameNear view (Previous i f) given db = SameNear view f given db
SameNear view (Next i f) given db = SameNear view f given db
SameNear view (Since i f g) given db = SameNear view f given db × SameNear view g given db
SameNear view (Until i f g) given db = SameNear view f given db × SameNear view g given db

-- the tables are those of the positions that the new time-point settles, in order, and exact
pub record News (view : View) (point : TimePoint) (f : CoreForm) (tables : List TableOf) : Type 0 where
  pub count : reached view f + length tables ≡ reached (longer view point) f
  pub exact : AllExact (longer view point) (meaning f) (reached view f) tables

-- What a step takes for granted: timestamps never fall, near passes to parts of a row, the whole is a
-- core's, which has all that evaluating the part f relies on; and what is given of the time-point has its
-- timestamp and its near events. It may lack others, or have more.
pub record Premises (view : View) (point given : TimePoint) (whole f : CoreForm) : Type 0 where
  pub rising : NeverFalls (times (longer view point).log)
  pub passes : Passes (fv view.whole) view.near
  pub whole_is : view.whole ≡ meaning whole
  pub sound : IsWellFormedIn whole f
  pub ts : given.ts ≡ point.ts
  pub same : SameNear view f given.db point.db

-- the new tables of cores, one list after the other
abbrev pub StackNews : View → TimePoint → List CoreForm → List (List TableOf) → Type 0
StackNews view point [] [] = Unit {0}
StackNews view point (f ∷ fs) (tables ∷ stack) = News view point f tables × StackNews view point fs stack
StackNews view point fs stack = ⊥

-- a node takes a time-point: its operands' new tables leave the stack, its own are given, and it stands
-- for the longer log
abbrev pub TakesPoint : Node → TimePoint → List (List TableOf) → Node → List (List TableOf) → List TableOf → Type 0
TakesPoint old given stack new rest tables =
    (view : View) (point : TimePoint) (whole f : CoreForm) (below : List CoreForm)
    → Premises view point given whole f → IsNodeFor f old → NodeStands view f old
    → StackNews view point (below ++ operands f) stack
    → IsNodeFor f new × NodeStands (longer view point) f new × StackNews view point below rest
    × News view point f tables
