-- A state stands for each part of its region.
use Rattle.std.proofs.Common.{ℕ, ◌+◌, List, [], ◌∷◌}
use Rattle.mfotl_model.specs.Exact.{AllExact, Exact, View}
use Rattle.mfotl_model.specs.{Formulas.Form, FreeVariables.fv, Regions.Region, Tables.TableOf}
use Rattle.mfotl_model.specs.declared.interval.Interval.{Interval}
use Rattle.core_arranging.specs.Windows.{left_operand}
use Rattle.eval_since.specs.declared.recalled.SinceData.{SinceData}
use Rattle.eval_until.specs.declared.recalled.UntilData.{UntilData}
use Rattle.monitorable.specs.CoreForms.{CoreForm, meaning, Not, And, Or, Previous, Next, Since, Until}
use Rattle.monitor_state.specs.StateLaws.{IsSubregion, PartStands, seen_in}
use Rattle.monitor_state.specs.StateStands.{NodeDataStands, NodesDataStand, SinceDataStands, TablesStand}
use Rattle.monitor_state.specs.StateStands.{UntilDataStands, WindowDataStands}
use Rattle.monitor_state.specs.declared.{state.NodeData.NodeData, state.WindowData.WindowData}
use Rattle.monitor_state.specs.declared.state.NodeData.TheVariants as kept
use Rattle.monitor_state.specs.declared.state.WindowData.TheVariants as window

module _ (view : View) (small : Region) (part : IsSubregion small view.near) where
  exact_part : (f : Form) (i : ℕ) (t : TableOf) → Exact view f i t → Exact (seen_in view small) f i t
  exact_part f i t e = record { columns = e.columns; rows = λ dom v covers n. e.rows dom v covers (part (fv f) v n) }

  all_part : (f : Form) (i : ℕ) (ts : List TableOf) → AllExact view f i ts → AllExact (seen_in view small) f i ts
  all_part f i [] all = tt
  all_part f i (t ∷ ts) all = (exact_part f i t all.0, all_part f (i + 1) ts all.1)

  lists_part : (p : ℕ) (fs : List CoreForm) (tss : List (List TableOf)) → TablesStand view p fs tss
      → TablesStand (seen_in view small) p fs tss
  lists_part p [] [] all = tt
  lists_part p (f ∷ fs) (ts ∷ tss) all = (all.0, all_part (meaning f) p ts all.1, lists_part p fs tss all.2)
  lists_part p fs tss all = absurd assumption

  since_part : (p : ℕ) (i : Interval) (f g : CoreForm) (s : SinceData) → SinceDataStands view p i f g s
      → SinceDataStands (seen_in view small) p i f g s
  since_part p i f g s stands =
      record {
        pulled = stands.pulled;
        left_pushed = stands.left_pushed;
        right_pushed = stands.right_pushed;
        lefts = all_part (meaning (left_operand f)) s.pulled s.lefts.items stands.lefts;
        rights = all_part (meaning g) s.pulled s.rights.items stands.rights;
        window = λ dom v covers n t a b dates ta tb x late.
            stands.window dom v covers (part (fv (meaning g)) v n) t a b dates ta tb x late;
      }

  until_part : (p : ℕ) (i : Interval) (f g : CoreForm) (s : UntilData) → UntilDataStands view p i f g s
      → UntilDataStands (seen_in view small) p i f g s
  until_part p i f g s stands =
      record {
        pulled = stands.pulled;
        taken = stands.taken;
        left_pushed = stands.left_pushed;
        right_pushed = stands.right_pushed;
        lefts = all_part (meaning (left_operand f)) s.taken s.lefts.items stands.lefts;
        rights = all_part (meaning g) s.taken s.rights.items stands.rights;
        runs = λ dom v covers n a ta j low.
            stands.runs dom v covers (part (fv (meaning (left_operand f))) v n) a ta j low;
        window = λ dom v covers n t a b dates long ta tb j low.
            stands.window dom v covers (part (fv (meaning g)) v n) t a b dates long ta tb j low;
      }

  window_part : (p : ℕ) (f : CoreForm) (w : WindowData) → WindowDataStands view p f w
      → WindowDataStands (seen_in view small) p f w
  window_part p (Since i f g) (window.Since s) stands = since_part p i f g s.kept stands
  window_part p (Until i f g) (window.Until s) stands = until_part p i f g s.kept stands
  window_part p f w stands = absurd stands

  node_part : (f : CoreForm) (n : NodeData) → NodeDataStands view f n → NodeDataStands (seen_in view small) f n
  node_part f kept.Bare stands = tt
  node_part (Not f) (kept.Join s) stands = search (lists_part)
  node_part (And f g) (kept.Join s) stands = search (lists_part)
  node_part (And f g) (kept.Filter tables w) stands = search (all_part, window_part)
  node_part (Or f g) (kept.Or s) stands = search (all_part)
  node_part (Previous i f) (kept.Previous s) stands = search (all_part)
  node_part (Next i f) (kept.Next s) stands = search (all_part)
  node_part (Since i f g) (kept.Window w) stands = window_part _ (Since i f g) w stands
  node_part (Until i f g) (kept.Window w) stands = window_part _ (Until i f g) w stands
  node_part f n stands = absurd stands

  nodes_part : (fs : List CoreForm) (ns : List NodeData) → NodesDataStand view fs ns
      → NodesDataStand (seen_in view small) fs ns
  nodes_part [] [] all = tt
  nodes_part (f ∷ fs) (n ∷ ns) all = (node_part f n all.0, nodes_part fs ns all.1)
  nodes_part fs ns all = absurd assumption

pub part_stands : PartStands
part_stands view core small s part stands = search (nodes_part)
