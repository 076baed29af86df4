-- United states stand for both regions together.
use Rattle.std.proofs.Common.{◌≡◌, ℕ, List, [], ◌∷◌, refl, sym, ◌∙◌, arith}
use Rattle.std.specs.Prelude.{min}
use Rattle.mfotl_model.specs.{Exact.View, Regions.Region}
use Rattle.monitorable.specs.CoreForms.{CoreForm}
use Rattle.monitor_state.specs.{Nodes.nodes_of, StateLaws.UnionStands, StateLaws.seen_in, StateStands.NodeDataStands}
use Rattle.monitor_state.specs.{StateStands.NodesDataStand, StateUnions.NodeUnion, StateUnions.NodesUnion}
use Rattle.monitor_state.specs.StateTimes.{earliest, node_asks, times_of}
use Rattle.monitor_state.specs.declared.state.NodeData.{NodeData}
use Rattle.monitor_state.specs.declared.state.NodeData.TheVariants as kept
use Rattle.monitor_state.specs.declared.state.WindowData.TheVariants as window
use Rattle.state_merge.proofs.NodesUnited.{earliest_same, nodes_union}

-- ---- states of one log ask for the same timestamps

module _ (view : View) (r q : Region) where
  node_alike : (given : ℕ) (f : CoreForm) (a b c : NodeData) → NodeDataStands (seen_in view r) f a
      → NodeDataStands (seen_in view q) f b → NodeUnion a b c → node_asks given b ≡ node_asks given a
  node_alike given f a b c sa sb u = grind arith

  earliest_alike : (given : ℕ) (fs : List CoreForm) (xs ys zs : List NodeData) → NodesDataStand (seen_in view r) fs xs
      → NodesDataStand (seen_in view q) fs ys → NodesUnion xs ys zs → earliest given ys ≡ earliest given xs
  earliest_alike given [] [] [] [] sx sy u = refl
  earliest_alike given (f ∷ fs) (x ∷ xs) (y ∷ ys) (z ∷ zs) sx sy u =
      grind (arith, node_alike, earliest_alike (min given (node_asks given x)) fs xs ys zs sx.1 sy.1 u.1)
  earliest_alike given fs xs ys zs sx sy u = absurd assumption

pub union_stands : UnionStands
union_stands view core r q all a b c union ha hb u =
    let taken : b.taken ≡ a.taken = hb.stands.taken ∙ sym ha.stands.taken in
    let given : b.given ≡ a.given = hb.stands.given ∙ sym ha.stands.given in
    let asked = earliest_alike view r q a.given (nodes_of core) a.nodes.items b.nodes.items c.nodes.items
    ha.stands.nodes hb.stands.nodes u.nodes in
    let stamps : b.times.items ≡ a.times.items = (rw (given, asked) at hb.stands.times) ∙ sym ha.stands.times in
    let both = nodes_union view r q all union (times_of a) (nodes_of core) a.nodes.items b.nodes.items c.nodes.items
    ha.rule ha.stands.nodes ha.inside (rw (taken, stamps) at hb.rule) hb.stands.nodes hb.inside u.nodes in
    record {
      rule = rw (u.taken, u.times) both.0;
      stands = record {
        taken = u.taken ∙ ha.stands.taken;
        given = u.given ∙ ha.stands.given;
        times = rw (u.given, earliest_same a.given a.nodes.items b.nodes.items c.nodes.items u.nodes)
            (u.times ∙ ha.stands.times);
        nodes = both.1;
      };
      inside = both.2;
    }
