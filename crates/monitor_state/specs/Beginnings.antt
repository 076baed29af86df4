-- The nodes with which a monitor begins.
use Rattle.std.specs.Prelude.{◌≡◌, ℕ, Bool, true, false, None, [], List, ◌++◌, ◌<◌, length, map, ◌⊎◌, cond, ◌∷◌}
use Rattle.mfotl_model.specs.Exact.{View}
use Rattle.mfotl_model.specs.FreeVariables.{fv}
use Rattle.mfotl_model.specs.Satisfaction.{Valuation}
use Rattle.mfotl_model.specs.Tables.{all_among}
use Rattle.mfotl_model.specs.declared.interval.Interval.{Interval}
use Rattle.eval_bool.specs.JoinView.{JoinOf, join_begun}
use Rattle.eval_bool.specs.OrView.{OrOf, or_begun}
use Rattle.eval_since.specs.PreviousView.{FollowsPrevious, PrevOf}
use Rattle.eval_since.specs.SinceView.{Follows, SinceOf}
use Rattle.eval_until.specs.NextView.{FollowsNext, NextOf}
use Rattle.eval_until.specs.UntilView.{Follows as FollowsUntil, FollowsLeft, UntilOf}
use Rattle.monitorable.specs.CoreForms.{CoreForm, meaning, And, Not, Since, Until}
use Rattle.monitorable.specs.Conjuncts.{PartForm, conjuncts_of}
use Rattle.monitorable.specs.Conjuncts.PartForm.{Child, Test}
use Rattle.monitorable.specs.Fragment.{Names, fault_in, guards}
use Rattle.monitorable.specs.declared.role.Role.{Role}
use Rattle.monitor_nodes.specs.Operands.{children, is_negated, operands}
use Rattle.monitor_nodes.specs.Stands.{IsNodeFor, NodeStands, conjunct_as}
use Rattle.monitor_state.specs.Stands.{NodesStand, Stands, StateOf}
use Rattle.monitor_nodes.specs.declared.node.Node.{Node}
use Rattle.monitor_nodes.specs.declared.window.Window.{Window}
use Rattle.monitor_nodes.specs.declared.window.Window.TheVariants as window

-- the fragment accepts the core in its role, with some names of its variables
abbrev pub Accepted : Role → CoreForm → Type 0
Accepted role f = (names : Names) × (fault_in names role f ≡ None)

-- the variables of the conjunction are guarded, where it is judged
abbrev pub GuardedIf : Bool → CoreForm → Type 0
GuardedIf own f = own ≡ true → (names : Names) × (guards names f ≡ None)

-- whether a conjunct is a child
abbrev pub is_child : PartForm → Bool
is_child (Child f negated) = true
is_child (Test c wanted) = false

-- the node is one for the core, and stands for the empty log in each region
abbrev pub BeginsNode : CoreForm → Node → Type 0
BeginsNode f node = IsNodeFor f node × ((view : View) → view.log ≡ [] → NodeStands view f node)

-- nodes for these cores were added, which stand for the empty log in each region
abbrev pub Adds : List CoreForm → List Node → List Node → Type 0
Adds fs old new =
    (view : View) → view.log ≡ []
    → (added : List Node) × (new ≡ old ++ added) × NodesStand view fs added

-- the core is a conjunction: an AND or a NOT
abbrev pub IsJoined : CoreForm → Type 0
IsJoined h = ((f : CoreForm) × (g : CoreForm) × (h ≡ And f g)) ⊎ ((f : CoreForm) × (h ≡ Not f))

-- none of its conjuncts is only asked, where it is its own
abbrev pub WholeIf : Bool → CoreForm → Type 0
WholeIf own h = own ≡ true → operands h ≡ children (conjuncts_of h)

-- the node of the core was added, where it is its own
abbrev pub AddsIf : Bool → CoreForm → List Node → List Node → Type 0
AddsIf own f old new = Adds (cond own (f ∷ []) []) old new

-- a SINCE's state before the first position, which is right for every valuation, whatever columns its rows are
-- grouped by
pub record SinceBegun (i : Interval) (f g : CoreForm) (s : SinceOf) : Type 0 where
  pub keys : List ℕ
  pub begun : s ≡ record {
    window = record {
      interval = i;
      left = fv (meaning f);
      right = fv (meaning g);
      keys = keys;
      last = 0;
      groups = [];
    };
    negated = is_negated f;
    pulled = 0;
    newest = 0;
    times = [];
    lefts = [];
    rights = [];
  }
  pub follows : (t : List ℕ) (a b : List Bool) (v : Valuation) → Follows s t a b v

-- a conjunction's state before the first position
pub record BeginsJoin (f : CoreForm) (s : JoinOf) : Type 0 where
  pub begun : s ≡ join_begun (map conjunct_as (conjuncts_of f))
  pub some : 0 < length (children (conjuncts_of f))

-- an OR's state before the first position, of operands with the same variables
pub record OrBegun (f g : CoreForm) (s : OrOf) : Type 0 where
  pub begun : s ≡ or_begun (fv (meaning f)) (fv (meaning g))
  pub within : all_among (fv (meaning g)) (fv (meaning f)) ≡ true

-- a PREVIOUS's state before the first position, which is right for every valuation
pub record PreviousBegun (i : Interval) (f : CoreForm) (s : PrevOf) : Type 0 where
  pub begun : s ≡ record { interval = i; columns = fv (meaning f); pulled = 0; last = 0; times = []; tables = [] }
  pub follows : (t : List ℕ) (a : List Bool) (v : Valuation) → FollowsPrevious s t a v

-- a NEXT's state before the first position, which is right for every valuation
pub record NextBegun (i : Interval) (f : CoreForm) (s : NextOf) : Type 0 where
  pub begun : s ≡ record {
    interval = i;
    columns = fv (meaning f);
    pulled = 0;
    times = [];
    started = false;
    tables =
        [];
  }
  pub follows : (t : List ℕ) (a : List Bool) (v : Valuation) → FollowsNext s t a v

-- an UNTIL's state before the first position, which is right for every valuation
pub record UntilBegun (i : Interval) (f g : CoreForm) (s : UntilOf) : Type 0 where
  pub begun : s ≡ record {
    ahead = record {
      interval = i;
      left = fv (meaning f);
      right = fv (meaning g);
      negated = is_negated f;
      pulled = 0;
      taken = 0;
      starts = [];
      rows = [];
    };
    times = [];
    lefts = [];
    rights = [];
  }
  pub left : (a : List Bool) (v : Valuation) → FollowsLeft s a v
  pub follows : (t : List ℕ) (a b : List Bool) (v : Valuation) → FollowsUntil s t a b v

-- a state stands for the empty log, in each region
abbrev pub Begins : CoreForm → StateOf → Type 0
Begins core state = (view : View) → view.log ≡ [] → Stands view core state

-- a window's state before the first position
abbrev pub WindowBegun : CoreForm → Window → Type 0
WindowBegun (Since i f g) (window.Since s) = SinceBegun i f g s
WindowBegun (Until i f g) (window.Until s) = UntilBegun i f g s
WindowBegun f other = ⊥
