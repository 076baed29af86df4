-- The node of a conjunction whose right side is asked for the left one's rows, with which a monitor begins.
use Rattle.std.proofs.Common.{◌≡◌, Bool, true, false, ◌&&◌, ◌++◌, List, [], ◌∷◌, length, refl, sym, ap, ◌∙◌, arith}
use Rattle.std.proofs.Common.{append-nil, ℕ}
use Rattle.std.proofs.{lemmas.Bool.and_parts, lemmas.Bool.or_right, Math.Bool.or-false}
use Rattle.mfotl_model.specs.{Exact.View, FreeVariables.among}
use Rattle.monitorable.specs.CoreForms.{CoreForm, And, Since, Until}
use Rattle.monitorable.specs.Fragment.{bound_by, fault_in, is_conjunction}
use Rattle.monitorable.specs.declared.role.Role.{Role}
use Rattle.monitorable.specs.declared.role.Role.TheVariants as role
use Rattle.core_arranging.specs.Windows.{is_window, left_operand}
use Rattle.monitor_state.proofs.BeginLemmas.{adds_one, none_reached, since_begins_at, since_state_is}
use Rattle.monitor_state.proofs.{GuardLemmas.and_left, GuardLemmas.and_own, WholeLemmas.asker_guarded}
use Rattle.monitor_state.proofs.{WholeLemmas.part_whole, NarrowedBegins.among_both, UntilBegins.until_begins_at}
use Rattle.monitor_state.proofs.{UntilBegins.until_state_is}
use Rattle.monitor_state.specs.Beginnings.{Accepted, Adds, WindowBegun}
use Rattle.monitor_nodes.specs.{FilterNode.GivenAs, Views.reached}
use Rattle.monitor_nodes.specs.Operands.{adds_none, filters, is_negated}
use Rattle.monitor_state.specs.Nodes.{nodes_in, without_last}
use Rattle.monitor_nodes.specs.WindowNode.{IsWindow, WindowStands, window_took_all}
use Rattle.monitor_nodes.specs.declared.{filter.FilterState.FilterState, node.Node.Node, window.Window.Window}
use Rattle.monitor_nodes.specs.declared.node.Node.TheVariants as node
use Rattle.monitor_nodes.specs.declared.window.Window.TheVariants as window

pub is_filter_window : (own : Bool) (f g : CoreForm) → (own && filters f g) ≡ true → is_window (left_operand g) ≡ true
is_filter_window own f g only = (and_parts _ _ (and_parts _ _ only).1).0

pub is_filtered_window : (f g : CoreForm) → filters f g ≡ true → is_window (left_operand g) ≡ true
is_filtered_window f g only = is_filter_window true f g only

-- what is filtered is accepted by itself
pub filtered_whole : (r : Role) (f g : CoreForm) (own : Bool) → own ≡ is_conjunction r → (own && filters f g) ≡ true
    → Accepted r (And f g) → Accepted role.Whole f
filtered_whole r f g own is only accepted =
    let both = and_parts _ _ only in
    let guard = and_own r f g accepted (sym is ∙ both.0) in
    part_whole f guard.0 (asker_guarded f g guard.0 both.1 guard.1) (and_left r f g accepted)

-- a side that has more variables is no NOT
pub keyed_plain : (f g : CoreForm) → filters f g ≡ true → adds_none f g ≡ false → is_negated g ≡ false
keyed_plain f g only more = grind arith

-- so is the window without its NOT, as a conjunct
pub operand_accepted : (g : CoreForm) → is_window (left_operand g) ≡ true → Accepted role.Part g
    → Accepted role.Part (left_operand g)
unfolding fault_in
operand_accepted g is accepted = grind arith

-- and has the same nodes below it
pub operand_nodes : (g : CoreForm) → is_window (left_operand g) ≡ true
    → without_last (nodes_in role.Part (left_operand g)) ≡ without_last (nodes_in role.Part g)
unfolding nodes_in
operand_nodes g is = grind (arith, append-nil)

window_is : (w : CoreForm) (s : Window) → WindowBegun w s → IsWindow w s
window_is (Since i f g) (window.Since s) begun = since_state_is i f g s begun
window_is (Until i f g) (window.Until s) begun = until_state_is i f g s begun
window_is w s begun = absurd begun

window_begins : (w : CoreForm) (s : Window) → WindowBegun w s → (view : View) → view.log ≡ []
    → WindowStands view 0 w s × (window_took_all s ≡ true)
window_begins (Since i f g) (window.Since s) begun view empty = (since_begins_at i f g s begun view empty, refl)
window_begins (Until i f g) (window.Until s) begun view empty = search (until_begins_at)
window_begins w s begun view empty = absurd begun

pub filter_added : (f g : CoreForm) (s : FilterState) (old new : List Node) → filters f g ≡ true
    → s.negated ≡ is_negated g → GivenAs f g s.order → s.tables ≡ [] → WindowBegun (left_operand g) s.window
    → new ≡ old ++ node.Filter s ∷ [] → Adds (And f g ∷ []) old new
filter_added f g s old new only turns gives none begun is =
    adds_one (And f g) (node.Filter s) old new is
    (record { only = only; turns = turns; asks = window_is (left_operand g) s.window begun; gives = gives })
    (λ view empty.
    let begins = window_begins (left_operand g) s.window begun view empty in
    let here : 0 ≡ reached view (And f g) = none_reached view empty (And f g) in
    record {
      pushed = omega (arith, none_reached view empty f, ap length none);
      exact = rw none tt;
      behind = rw (← here) begins.0;
      all = begins.1;
    })

-- ---- what a conjunction binds

pub bound_by_right : (y : ℕ) (f g : CoreForm) → among y (bound_by g) ≡ true → among y (bound_by (And f g)) ≡ true
unfolding bound_by
bound_by_right y f g m = among_both y (bound_by f) (bound_by g) ∙ or_right _ _ m

pub bound_by_left : (y : ℕ) (f g : CoreForm) → among y (bound_by g) ≡ false
    → among y (bound_by (And f g)) ≡ among y (bound_by f)
unfolding bound_by
bound_by_left y f g m = cc (among_both y (bound_by f) (bound_by g), or-false (among y (bound_by f)))
