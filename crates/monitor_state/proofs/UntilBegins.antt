-- The node of an UNTIL with which a monitor begins.
use Rattle.std.proofs.Common.{subst, ◌≡◌, List, [], ◌∷◌, ◌++◌, sym, ap, ◌∙◌, arith}
use Rattle.mfotl_model.specs.{Exact.View, FreeVariables.fv, Tables.TableOf}
use Rattle.mfotl_model.specs.declared.interval.Interval.{Interval}
use Rattle.eval_until.specs.UntilView.{UntilOf}
use Rattle.monitorable.specs.CoreForms.{CoreForm, meaning, Until}
use Rattle.monitor_nodes.proofs.{SinceSteps.free_operand}
use Rattle.monitor_state.proofs.{BeginLemmas.adds_one, BeginLemmas.none_reached}
use Rattle.monitor_nodes.specs.{Views.reached}
use Rattle.monitor_state.specs.{Beginnings.Adds, Beginnings.UntilBegun}
use Rattle.monitor_nodes.specs.UntilNode.{IsUntil, IsUntilState, UntilStands, UntilStandsAt}
use Rattle.monitor_nodes.specs.declared.node.Node.{Node}
use Rattle.monitor_nodes.specs.declared.node.Node.TheVariants as node

pub until_state_is : (i : Interval) (f g : CoreForm) (s : UntilOf) → UntilBegun i f g s → IsUntilState i f g s
until_state_is i f g s begun = grind (arith, free_operand)

until_is : (i : Interval) (f g : CoreForm) (s : UntilOf) (order : TableOf) → UntilBegun i f g s
    → order.columns ≡ fv (meaning (Until i f g)) → IsUntil i f g s order
unfolding fv
until_is i f g s order begun columns = search (until_state_is)

pub until_begins_at : (i : Interval) (f g : CoreForm) (s : UntilOf) → UntilBegun i f g s → (view : View) → view.log ≡ []
    → UntilStandsAt view 0 i f g s
until_begins_at i f g s begun view empty =
    let left : 0 ≡ reached view f = none_reached view empty f in
    record {
      pulled = rw begun.begun;
      kept = rw (begun.begun, empty);
      left_pushed = rw begun.begun (omega (arith, none_reached view empty g));
      right_pushed = rw begun.begun (omega (arith, none_reached view empty g));
      lefts = rw begun.begun tt;
      rights = rw begun.begun tt;
      left = λ dom v covers near a tells. begun.left a v;
      follows = λ dom v covers near t a b dates long tells tells_right. begun.follows t a b v;
    }

until_begins : (i : Interval) (f g : CoreForm) (s : UntilOf) → UntilBegun i f g s → (view : View) → view.log ≡ []
    → UntilStands view i f g s
until_begins i f g s begun view empty =
    record {
      at = rw (← none_reached view empty (Until i f g)) (until_begins_at i f g s begun view empty);
      taken = rw begun.begun (omega (arith, none_reached view empty f, none_reached view empty g));
    }

pub until_added : (h : CoreForm) (i : Interval) (f g : CoreForm) (s : UntilOf) (order : TableOf) (old new : List Node)
    → UntilBegun i f g s → order.columns ≡ fv (meaning h) → new ≡ old ++ node.Until s order ∷ []
    → h ≡ Until i f g → Adds (h ∷ []) old new
until_added h i f g s order old new begun columns is same =
    subst (λ k. Adds (k ∷ []) old new) (sym same)
    (adds_one (Until i f g) (node.Until s order) old new is
    (until_is i f g s order begun (columns ∙ ap (λ k. fv (meaning k)) same))
    (λ view empty. until_begins i f g s begun view empty))
