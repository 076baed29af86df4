-- A state cut to a part of its region stands for that part, and has nothing outside it.
use Rattle.std.proofs.Common.{◌≡◌, ℕ, ◌+◌, min, List, [], ◌∷◌, refl, ◌∙◌, arith}
use Rattle.std.proofs.lemmas.Bool.{and_parts}
use Rattle.mfotl_model.proofs.RegionLemmas.{both_pass}
use Rattle.mfotl_model.specs.{Exact.View, FreeVariables.fv, Strategies.Strategy, Strategies.workers_of}
use Rattle.mfotl_model.specs.Regions.{Passes, Region, in_both, near_of}
use Rattle.mfotl_model.specs.declared.event.TimePoint.{TimePoint}
use Rattle.monitorable.specs.CoreForms.{CoreForm, meaning}
use Rattle.relations.specs.Pushed.{StandFrom}
use Rattle.monitor_state.specs.{Nodes.nodes_of, StateInside.StandsInside, StateRules.StateRule, StateStands.StateStands}
use Rattle.monitor_state.specs.Pieces.{AreCuts, PieceStands, view_of}
use Rattle.monitor_state.specs.StateCuts.{NodeCut, NodesCut, StateCut, WindowCut}
use Rattle.monitor_state.specs.StateLaws.{CutIsPiece, CutStands, seen_in}
use Rattle.monitor_state.specs.StateTimes.{earliest, node_asks, times_of, window_asks}
use Rattle.monitor_state.specs.declared.{state.NodeData.NodeData, state.Piece.Piece, state.State.State}
use Rattle.monitor_state.specs.declared.{state.WindowData.WindowData}
use Rattle.monitor_state.specs.declared.state.NodeData.TheVariants as kept
use Rattle.monitor_state.specs.declared.state.WindowData.TheVariants as window
use Rattle.state_split.proofs.NodeCuts.{nodes_cut}
use Rattle.monitor_state.proofs.PartLaw.{part_stands}
use Rattle.state_split.specs.Splits.{IsNumbered, SplitsStand, StrategiesCut}

-- ---- nodes ask for the same timestamps

window_same : (near : Region) (w c : WindowData) → WindowCut near w c → window_asks c ≡ window_asks w
window_same near w c cut = grind arith

asks_same : (near : Region) (given : ℕ) (n c : NodeData) → NodeCut near n c → node_asks given c ≡ node_asks given n
asks_same near given n c cut = grind arith

earliest_same : (near : Region) (given : ℕ) (ns cs : List NodeData) → NodesCut near ns cs
    → earliest given cs ≡ earliest given ns
earliest_same near given [] [] cut = refl
earliest_same near given (n ∷ ns) (c ∷ cs) cut =
    cc (asks_same near given n c cut.0, earliest_same near (min given (node_asks given n)) ns cs cut.1)
earliest_same near given ns cs cut = absurd cut

-- ---- states

pub cut_stands : CutStands
cut_stands view core small old new whole passes part rule stands cut =
    let seen : View = seen_in view small in
    let narrow : StateStands seen core old = part_stands view core small old part stands in
    let nodes = nodes_cut seen (fv view.whole) passes (times_of old) (nodes_of core) old.nodes.items new.nodes.items
    cut.nodes rule narrow.nodes in
    record {
      rule = rw (cut.taken, cut.times) nodes.0;
      stands = record {
        taken = cut.taken ∙ narrow.taken;
        given = cut.given ∙ narrow.given;
        times = rw (cut.given, earliest_same small old.given old.nodes.items new.nodes.items cut.nodes)
            (cut.times ∙ narrow.times);
        nodes = nodes.1;
      };
      inside = nodes.2;
    }

-- what a region holds, cut to another one as well
pub cut_to_both : (core : CoreForm) (near other : Region) (log : List TimePoint) (old new : State)
    → Passes (fv (meaning core)) near → Passes (fv (meaning core)) other → StateRule core old
    → StateStands (view_of core near log) core old → StateCut (in_both near other) old new
    → StandsInside (view_of core (in_both near other) log) core new
cut_to_both core near other log old new first second rule stands cut =
    cut_stands (view_of core near log) core (in_both near other) old new refl
    (both_pass (fv (meaning core)) near other first second)
    (λ vs v h. (and_parts (near vs v) (other vs v) h).0) rule stands cut

pub cut_is_piece : CutIsPiece
unfolding PieceStands
cut_is_piece core s k s2 k2 log state piece first second rule stands cut = search (cut_to_both)

-- ---- pieces

cuts_from : (core : CoreForm) (s : Strategy) (k : ℕ) (s2 : Strategy) (log : List TimePoint) (g to : ℕ)
    (pieces : List Piece) → StandFrom (IsNumbered g k (workers_of s)) to pieces
    → StandFrom (λ to piece. StandsInside (view_of core (in_both (near_of s k) (near_of s2 to)) log) core piece.state)
    to pieces → AreCuts core s k s2 log g to pieces
unfolding PieceStands
cuts_from core s k s2 log g to [] numbers stand = tt
cuts_from core s k s2 log g to (p ∷ ps) numbers stand =
    search (cuts_from core s k s2 log g (to + 1) ps numbers.1 stand.1)

pub strategies_cut : StrategiesCut
strategies_cut core s k s2 log g pieces numbers stand = cuts_from core s k s2 log g 0 pieces numbers stand

-- each of the cuts of a state
pub stand_each : (core : CoreForm) (near : Region) (next : ℕ → Region) (log : List TimePoint) (state : State) (to : ℕ)
    (pieces : List Piece) → Passes (fv (meaning core)) near → ((k : ℕ) → Passes (fv (meaning core)) (next k))
    → StateRule core state → StateStands (view_of core near log) core state
    → StandFrom (λ to piece. StateCut (in_both near (next to)) state piece.state) to pieces
    → StandFrom (λ to piece. StandsInside (view_of core (in_both near (next to)) log) core piece.state) to pieces
stand_each core near next log state to [] first second rule stands cuts = tt
stand_each core near next log state to (p ∷ ps) first second rule stands cuts =
    search (cut_to_both, stand_each core near next log state (to + 1) ps first second rule stands cuts.1)

pub splits_stand : SplitsStand
splits_stand monitor near next log pieces first second is stands = grind (arith, stand_each)
