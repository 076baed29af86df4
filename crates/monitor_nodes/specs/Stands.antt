-- When what a node keeps stands for a log, in a region of rows.
use Rattle.std.specs.Prelude.{◌≡◌, ℕ, ◌+◌, ◌-◌, ◌≤◌, ◌<◌, Bool, true, false, List, [], ◌∷◌, length, drop, map}
use Rattle.mfotl_model.specs.Exact.{AllExact, Covers, View}
use Rattle.mfotl_model.specs.FreeVariables.{fv}
use Rattle.mfotl_model.specs.Log.{times}
use Rattle.mfotl_model.specs.Satisfaction.{Valuation, sat}
use Rattle.mfotl_model.specs.Tables.{TableOf, has}
use Rattle.mfotl_model.specs.declared.event.TimePoint.{TimePoint}
use Rattle.mfotl_model.specs.declared.interval.Interval.{Interval}
use Rattle.mfotl_model.specs.declared.value.Value.{Value}
use Rattle.eval_bool.specs.JoinView.{ChildOf, ConjunctOf, JoinOf, children_of, conjunct_columns, tests_of}
use Rattle.eval_bool.specs.JoinView.ConjunctOf.{Child, Test}
use Rattle.eval_bool.specs.OrView.{OrOf}
use Rattle.eval_since.specs.PreviousView.{FollowsPrevious, PrevOf}
use Rattle.eval_until.specs.NextView.{FollowsNext, NextOf, tables_pushed}
use Rattle.monitorable.specs.CoreForms.{CoreForm, meaning, True, False, Atom, Compare, Not, And, Or, Exists, Previous}
use Rattle.monitorable.specs.CoreForms.{Next, Since}
use Rattle.monitorable.specs.Conjuncts.{PartForm, conjuncts_of}
use Rattle.monitorable.specs.Conjuncts.PartForm.{Child as ChildPart, Test as TestPart}
use Rattle.monitorable.specs.CoreForms.{Until}
use Rattle.monitor_nodes.specs.Operands.{children, operands}
use Rattle.monitor_nodes.specs.FilterNode.{FilterStands, IsFilter}
use Rattle.monitor_nodes.specs.SinceNode.{IsSince, SinceStands}
use Rattle.monitor_nodes.specs.Stamps.{stamps}
use Rattle.monitor_nodes.specs.UntilNode.{IsUntil, UntilStands}
use Rattle.monitor_nodes.specs.Views.{Dates, Tells, reached}
use Rattle.monitor_nodes.specs.declared.node.Node.{Node}
use Rattle.monitor_nodes.specs.declared.node.Node.TheVariants as node

-- the core has no operands, and the table is the core's at each position of each log
pub record IsConstant (f : CoreForm) (table : TableOf) : Type 0 where
  pub columns : table.columns ≡ fv (meaning f)
  pub rows : (log : List TimePoint) (dom : List Value) (v : Valuation) (i : ℕ)
      → has table v ≡ sat log dom v i (meaning f)
  pub alone : operands f ≡ []

-- the state is one of a PREVIOUS over the core f, with this interval
pub record IsPrevious (i : Interval) (f : CoreForm) (s : PrevOf) : Type 0 where
  pub interval : s.interval ≡ i
  pub columns : s.columns ≡ fv (meaning f)

-- the state is one of a NEXT over the core f, with this interval
pub record IsNext (i : Interval) (f : CoreForm) (s : NextOf) : Type 0 where
  pub interval : s.interval ≡ i
  pub columns : s.columns ≡ fv (meaning f)

-- a conjunct as the state of a conjunction has it
abbrev pub conjunct_as : PartForm → ConjunctOf
conjunct_as (ChildPart f negated) = Child (fv (meaning f)) negated
conjunct_as (TestPart c wanted) = Test c wanted

-- a child without its tables
abbrev pub bare : ChildOf → ChildOf
bare c = record c { tables = [] }

-- the state is one of the core's conjunction, which has a child and no conjunct that is only asked
pub record IsConjunction (f : CoreForm) (s : JoinOf) : Type 0 where
  pub columns : s.columns ≡ conjunct_columns (map conjunct_as (conjuncts_of f))
  pub tests : s.tests ≡ tests_of (map conjunct_as (conjuncts_of f))
  pub parts : map bare s.children ≡ children_of (map conjunct_as (conjuncts_of f))
  pub some : 0 < length (children (conjuncts_of f))
  pub whole : operands f ≡ children (conjuncts_of f)

-- the state is one of an OR of the cores f and g
pub record IsOr (f g : CoreForm) (s : OrOf) : Type 0 where
  pub columns : s.left ≡ fv (meaning (Or f g))
  pub right : s.right ≡ fv (meaning g)

-- the node is one for the core
abbrev pub IsNodeFor : CoreForm → Node → Type 0
IsNodeFor True (node.Constant table) = IsConstant True table
IsNodeFor False (node.Constant table) = IsConstant False table
IsNodeFor (Compare c) (node.Constant table) = IsConstant (Compare c) table
IsNodeFor (Not f) (node.Constant table) = IsConstant (Not f) table
IsNodeFor (And f g) (node.Constant table) = IsConstant (And f g) table
IsNodeFor (Atom atom) (node.Atom a) = a ≡ atom
IsNodeFor (Not f) (node.Join s) = IsConjunction (Not f) s
IsNodeFor (And f g) (node.Join s) = IsConjunction (And f g) s
IsNodeFor (And f g) (node.Filter s) = IsFilter f g s
IsNodeFor (Or f g) (node.Or s) = IsOr f g s
IsNodeFor (Exists x f) (node.Exists y) = y ≡ x.number
IsNodeFor (Previous i f) (node.Previous s) = IsPrevious i f s
IsNodeFor (Next i f) (node.Next s) = IsNext i f s
IsNodeFor (Since i f g) (node.Since s order) = IsSince i f g s order
IsNodeFor (Until i f g) (node.Until s order) = IsUntil i f g s order
IsNodeFor f other = ⊥

-- A child's tables: those not yet used are kept, up to the last one of a settled position, and are exact.
pub record ChildStands (view : View) (pulled : ℕ) (f : CoreForm) (c : ChildOf) : Type 0 where
  pub pushed : pulled + length c.tables ≡ reached view f
  pub exact : AllExact view (meaning f) pulled c.tables

-- child by child
abbrev pub ChildrenStand : View → ℕ → List CoreForm → List ChildOf → Type 0
ChildrenStand view pulled [] [] = Unit {0}
ChildrenStand view pulled (f ∷ fs) (c ∷ cs) = ChildStands view pulled f c × ChildrenStand view pulled fs cs
ChildrenStand view pulled fs cs = ⊥

-- The state of a conjunction stands for the log: it gave the tables of the settled positions, and its
-- children's tables stand.
pub record JoinStands (view : View) (f : CoreForm) (s : JoinOf) : Type 0 where
  pub pulled : s.pulled ≡ reached view f
  pub children : ChildrenStand view s.pulled (operands f) s.children

-- The state of an OR stands for the log: it gave the tables of the settled positions, and keeps the
-- operands' tables that were not used; these are exact.
pub record OrStands (view : View) (f g : CoreForm) (s : OrOf) : Type 0 where
  pub pulled : s.pulled ≡ reached view (Or f g)
  pub left_pushed : s.pulled + length s.lefts ≡ reached view f
  pub right_pushed : s.pulled + length s.rights ≡ reached view g
  pub lefts : AllExact view (meaning f) s.pulled s.lefts
  pub rights : AllExact view (meaning g) s.pulled s.rights

-- The state of a PREVIOUS stands for the log: it gave the tables of the settled positions, knows the log's
-- timestamps from the position pulled last on, and keeps the operand's tables that were not used; these are exact,
-- and it is right for each near row.
pub record PreviousStands (view : View) (i : Interval) (f : CoreForm) (s : PrevOf) : Type 0 where
  pub pulled : s.pulled ≡ reached view (Previous i f)
  pub timed : s.pulled + length s.times ≡ length view.log
  pub known : stamps s.pulled s.last s.times ≡ drop (s.pulled - 1) (times view.log)
  pub pushed : s.pulled - 1 + length s.tables ≡ reached view f
  pub tables : AllExact view (meaning f) (s.pulled - 1) s.tables
  pub follows : (dom : List Value) (v : Valuation) → Covers view dom → view.near (fv (meaning f)) v ≡ true
      → (t : List ℕ) (a : List Bool) → Dates view t → Tells view dom v f a → FollowsPrevious s t a v

-- The state of a NEXT stands for the log: it gave the tables of the settled positions, and keeps the times
-- and the operand's tables that were not used, but for the first position's, which no NEXT asks for; these
-- are exact, and it is right for each near row.
pub record NextStands (view : View) (i : Interval) (f : CoreForm) (s : NextOf) : Type 0 where
  pub pulled : s.pulled ≡ reached view (Next i f)
  pub timed : s.pulled + length s.times ≡ length view.log
  pub kept : s.times ≡ drop s.pulled (times view.log)
  pub pushed : tables_pushed s ≡ reached view f
  pub bare : s.started ≡ false → (s.pulled ≡ 0) × (length s.tables ≡ 0)
  pub tables : AllExact view (meaning f) (s.pulled + 1) s.tables
  pub follows : (dom : List Value) (v : Valuation) → Covers view dom → view.near (fv (meaning f)) v ≡ true
      → (t : List ℕ) (a : List Bool) → Dates view t → length view.log ≤ length t → Tells view dom v f a
      → FollowsNext s t a v

-- a node stands for the log
abbrev pub NodeStands : View → CoreForm → Node → Type 0
NodeStands view (Not f) (node.Join s) = JoinStands view (Not f) s
NodeStands view (And f g) (node.Join s) = JoinStands view (And f g) s
NodeStands view (And f g) (node.Filter s) = FilterStands view f g s
NodeStands view (Or f g) (node.Or s) = OrStands view f g s
NodeStands view (Previous i f) (node.Previous s) = PreviousStands view i f s
NodeStands view (Next i f) (node.Next s) = NextStands view i f s
NodeStands view (Since i f g) (node.Since s order) = SinceStands view i f g s
NodeStands view (Until i f g) (node.Until s order) = UntilStands view i f g s
NodeStands view f other = Unit {0}
