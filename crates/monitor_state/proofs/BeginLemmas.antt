-- The nodes with which a monitor begins stand for the empty log.
use Rattle.std.proofs.Common.{subst, ◌≡◌, Bool, true, false, ◌&&◌, cond, List, [], ◌∷◌, ◌++◌, length, map, refl, sym}
use Rattle.std.proofs.Common.{ap, ◌∙◌, ◌⊎◌, arith, append_assoc, inl, inr}
use Rattle.relations.proofs.InsideLemmas.{joined_within}
use Rattle.mfotl_model.specs.{Exact.View, FreeVariables.fv, Satisfaction.Valuation, Satisfaction.sat}
use Rattle.mfotl_model.specs.{Tables.TableOf, Tables.has}
use Rattle.mfotl_model.specs.declared.interval.Interval.{Interval}
use Rattle.eval_bool.specs.{OrView.OrOf, JoinView.JoinOf, JoinView.children_of}
use Rattle.eval_since.specs.{PreviousView.PrevOf, SinceView.SinceOf}
use Rattle.eval_until.specs.NextView.{NextOf}
use Rattle.monitorable.specs.CoreForms.{CoreForm, meaning, True, False, Not, And, Or, Previous, Next, Since}
use Rattle.monitorable.specs.{Conjuncts.PartForm, Conjuncts.conjuncts_of, Conjuncts.PartForm.Child as ChildPart}
use Rattle.monitorable.specs.{Conjuncts.PartForm.Test as TestPart}
use Rattle.monitorable.specs.Fragment.{is_conjunction, judges_not, under_not}
use Rattle.monitorable.specs.declared.role.Role.{Role}
use Rattle.monitorable.specs.declared.role.Role.TheVariants as role
use Rattle.monitor_nodes.proofs.{ExactLemmas.reached_within, SinceSteps.free_operand}
use Rattle.monitor_state.proofs.{MonitorSteps.nodes_append}
use Rattle.monitor_state.specs.Beginnings.{Adds, AddsIf, Begins, BeginsJoin, BeginsNode, IsJoined, NextBegun, OrBegun}
use Rattle.monitor_state.specs.Beginnings.{PreviousBegun, SinceBegun}
use Rattle.monitor_nodes.specs.Operands.{children, filters, operands}
use Rattle.monitor_state.specs.Nodes.{nodes_in, nodes_of, true_in, without_last}
use Rattle.monitor_nodes.specs.Stands.{ChildrenStand, IsConstant, IsNodeFor, IsConjunction, IsOr, JoinStands}
use Rattle.monitor_nodes.specs.Stands.{NextStands, OrStands, PreviousStands, bare, conjunct_as, NodeStands}
use Rattle.monitor_state.specs.Stands.{StateOf}
use Rattle.monitor_nodes.specs.SinceNode.{IsSince, IsSinceState, SinceStands, SinceStandsAt}
use Rattle.monitor_nodes.specs.Views.{reached}
use Rattle.monitor_nodes.specs.declared.node.Node.{Node}
use Rattle.monitor_nodes.specs.declared.node.Node.TheVariants as node

pub adds_then : (fs gs : List CoreForm) (old mid new : List Node) → Adds fs old mid → Adds gs mid new
    → Adds (fs ++ gs) old new
adds_then fs gs old mid new first second view empty =
    let one = first view empty in
    let two = second view empty in (
      one.0 ++ two.0,
      two.1 ∙ ap (λ ns. ns ++ two.0) one.1 ∙ append_assoc old one.0 two.0,
      nodes_append view fs gs one.0 two.0 one.2 two.2,
    )

pub adds_one : (f : CoreForm) (n : Node) (old new : List Node) → new ≡ old ++ n ∷ [] → IsNodeFor f n
    → ((view : View) → view.log ≡ [] → NodeStands view f n) → Adds (f ∷ []) old new
adds_one f n old new is for stands view empty = (n ∷ [], is, (for, stands view empty, tt))

-- nothing of an empty log is settled
pub none_reached : (view : View) → view.log ≡ [] → (f : CoreForm) → 0 ≡ reached view f
none_reached view empty f = grind (arith, reached_within)

pub true_adds : (table : TableOf) (old new : List Node) → table.columns ≡ [] → ((v : Valuation) → has table v ≡ true)
    → new ≡ old ++ node.Constant table ∷ [] → Adds (True ∷ []) old new
unfolding fv sat
true_adds table old new columns rows is = search (adds_one)

pub false_adds : (table : TableOf) (old new : List Node) → table.columns ≡ [] → ((v : Valuation) → has table v ≡ false)
    → new ≡ old ++ node.Constant table ∷ [] → Adds (False ∷ []) old new
unfolding fv sat
false_adds table old new columns rows is = search (adds_one)

pub true_elsewhere : (r : Role) (old new : List Node) → (r ≡ role.Whole) ⊎ ((r ≡ role.Part) ⊎ (r ≡ role.Negated))
    → Adds (True ∷ []) old new → Adds (true_in r ∷ []) old new
true_elsewhere r old new (inl is) adds = rw is adds
true_elsewhere r old new (inr (inl is)) adds = rw is adds
true_elsewhere r old new (inr (inr is)) adds = rw is adds

pub since_state_is : (i : Interval) (f g : CoreForm) (s : SinceOf) → SinceBegun i f g s → IsSinceState i f g s
since_state_is i f g s begun = grind (arith, free_operand)

since_is : (i : Interval) (f g : CoreForm) (s : SinceOf) (order : TableOf) → SinceBegun i f g s
    → order.columns ≡ fv (meaning (Since i f g)) → IsSince i f g s order
unfolding fv
since_is i f g s order begun columns = search (since_state_is)

pub since_begins_at : (i : Interval) (f g : CoreForm) (s : SinceOf) → SinceBegun i f g s → (view : View) → view.log ≡ []
    → SinceStandsAt view 0 i f g s
since_begins_at i f g s begun view empty =
    let left : 0 ≡ reached view f = none_reached view empty f in
    let right : 0 ≡ reached view g = none_reached view empty g in
    record {
      pulled = rw begun.begun;
      timed = rw begun.begun (omega (arith, ap length empty));
      known = rw (begun.begun, empty);
      left_pushed = rw begun.begun (omega (arith, ap length empty));
      right_pushed = rw begun.begun (omega (arith, ap length empty));
      lefts = rw begun.begun tt;
      rights = rw begun.begun tt;
      follows = λ dom v covers near t a b dates tells tells_right. begun.follows t a b v;
    }

since_begins : (i : Interval) (f g : CoreForm) (s : SinceOf) → SinceBegun i f g s → (view : View) → view.log ≡ []
    → SinceStands view i f g s
since_begins i f g s begun view empty =
    grind (arith, none_reached view empty (Since i f g), since_begins_at i f g s begun view empty)

pub since_added : (h : CoreForm) (i : Interval) (f g : CoreForm) (s : SinceOf) (order : TableOf) (old new : List Node)
    → SinceBegun i f g s → order.columns ≡ fv (meaning h) → new ≡ old ++ node.Since s order ∷ []
    → h ≡ Since i f g → Adds (h ∷ []) old new
since_added h i f g s order old new begun columns is same =
    subst (λ k. Adds (k ∷ []) old new) (sym same)
    (adds_one (Since i f g) (node.Since s order) old new is
    (since_is i f g s order begun (columns ∙ ap (λ k. fv (meaning k)) same))
    (λ view empty. since_begins i f g s begun view empty))

-- a state of these nodes stands for the empty log
pub begins : (core : CoreForm) (state : StateOf) → state.taken ≡ 0 → state.given ≡ 0 → state.first ≡ 0
    → state.times ≡ [] → Adds (nodes_of core) [] state.nodes → Begins core state
begins core state taken given first times_are adds view empty =
    let added = adds view empty in
    grind (arith, none_reached)

begun_children : (view : View) → view.log ≡ [] → (ps : List PartForm)
    → ChildrenStand view 0 (children ps) (children_of (map conjunct_as ps))
begun_children view empty [] = tt
begun_children view empty (ChildPart f n ∷ ps) = search (none_reached, begun_children view empty ps)
begun_children view empty (TestPart c w ∷ ps) = begun_children view empty ps

bare_begun : (ps : List PartForm) → map bare (children_of (map conjunct_as ps)) ≡ children_of (map conjunct_as ps)
bare_begun [] = refl
bare_begun (ChildPart f n ∷ ps) = cc (bare_begun ps)
bare_begun (TestPart c w ∷ ps) = bare_begun ps

join_is : (f : CoreForm) (s : JoinOf) → operands f ≡ children (conjuncts_of f) → BeginsJoin f s → IsConjunction f s
join_is f s same begins = grind (arith, bare_begun)

join_begins : (f : CoreForm) (s : JoinOf) → operands f ≡ children (conjuncts_of f) → BeginsJoin f s → (view : View)
    → view.log ≡ [] → JoinStands view f s
join_begins f s same begins view empty = grind (arith, none_reached, begun_children)

-- the node of a conjunction that has a child
pub join_node : (h : CoreForm) (s : JoinOf) → IsJoined h → operands h ≡ children (conjuncts_of h) → BeginsJoin h s
    → BeginsNode h (node.Join s)
join_node h s k whole begins = grind (arith, begins, join_is, join_begins)

-- the node of one that has none
pub tests_node : (h : CoreForm) (table : TableOf) → IsJoined h → IsConstant h table → BeginsNode h (node.Constant table)
tests_node h table k is = grind arith

pub and_adds : (r : Role) (h f g : CoreForm) (own : Bool) (old mid new : List Node) → h ≡ And f g
    → own ≡ is_conjunction r → (is_conjunction r && filters f g) ≡ false
    → Adds (nodes_in role.Part f ++ nodes_in role.Part g) old mid → AddsIf own h mid new → Adds (nodes_in r h) old new
unfolding nodes_in
and_adds r h f g own old mid new same is joins first last =
    rw (same, joins)
    (adds_then (nodes_in role.Part f ++ nodes_in role.Part g) (cond (is_conjunction r) (And f g ∷ []) []) old mid new
    first (rw (← is, ← same) last))

pub filter_adds : (r : Role) (h f g : CoreForm) (old mid more new : List Node) → h ≡ And f g
    → (is_conjunction r && filters f g) ≡ true
    → Adds (nodes_in role.Whole f) old mid → Adds (without_last (nodes_in role.Part g)) mid more
    → Adds (And f g ∷ []) more new → Adds (nodes_in r h) old new
unfolding nodes_in
filter_adds r h f g old mid more new same only first second own =
    rw (same, only) (adds_then _ _ old more new (adds_then _ _ old mid more first second) own)

pub not_adds : (r s : Role) (h f : CoreForm) (own : Bool) (old mid new : List Node) → h ≡ Not f → own ≡ judges_not r
    → s ≡ under_not r → Adds (nodes_in s f) old mid → AddsIf own h mid new → Adds (nodes_in r h) old new
unfolding nodes_in
not_adds r s h f own old mid new same is under first last =
    rw same
    (adds_then (nodes_in (under_not r) f) (cond (judges_not r) (Not f ∷ []) []) old mid new (rw (← under) first)
    (rw (← is, ← same) last))

pub judged_adds : (own : Bool) (h : CoreForm) (n : Node) (old new : List Node) → own ≡ true → BeginsNode h n
    → new ≡ old ++ n ∷ [] → AddsIf own h old new
judged_adds own h n old new is begins made = rw is (adds_one h n old new made begins.0 begins.1)

or_begins : (f g : CoreForm) (s : OrOf) → OrBegun f g s → (view : View) → view.log ≡ [] → OrStands view f g s
or_begins f g s begun view empty =
    grind (arith, none_reached view empty f, none_reached view empty g, none_reached view empty (Or f g))

or_is : (f g : CoreForm) (s : OrOf) → OrBegun f g s → IsOr f g s
unfolding fv
or_is f g s begun = grind (arith, joined_within)

pub or_added : (f g : CoreForm) (s : OrOf) (old new : List Node) → OrBegun f g s → new ≡ old ++ node.Or s ∷ []
    → Adds (Or f g ∷ []) old new
or_added f g s old new begun is = search (adds_one, or_is, or_begins)

previous_begins : (i : Interval) (f : CoreForm) (s : PrevOf) → PreviousBegun i f s → (view : View) → view.log ≡ []
    → PreviousStands view i f s
previous_begins i f s begun view empty =
    grind (arith, none_reached view empty f, none_reached view empty (Previous i f))

pub previous_added : (i : Interval) (f : CoreForm) (s : PrevOf) (old new : List Node) → PreviousBegun i f s
    → new ≡ old ++ node.Previous s ∷ [] → Adds (Previous i f ∷ []) old new
previous_added i f s old new begun is =
    adds_one (Previous i f) (node.Previous s) old new is (rw begun.begun (record { interval = refl; columns = refl }))
    (λ view empty. previous_begins i f s begun view empty)

next_begins : (i : Interval) (f : CoreForm) (s : NextOf) → NextBegun i f s → (view : View) → view.log ≡ []
    → NextStands view i f s
next_begins i f s begun view empty = grind (arith, none_reached view empty (Next i f), none_reached view empty f)

pub next_added : (i : Interval) (f : CoreForm) (s : NextOf) (old new : List Node) → NextBegun i f s
    → new ≡ old ++ node.Next s ∷ [] → Adds (Next i f ∷ []) old new
next_added i f s old new begun is =
    adds_one (Next i f) (node.Next s) old new is (rw begun.begun (record { interval = refl; columns = refl }))
    (λ view empty. next_begins i f s begun view empty)
