-- A monitor that is resumed with data that stands for a log does.
use Rattle.std.proofs.Common.{◌≡◌, ℕ, zero, suc, ◌-◌, ◌<◌, ◌≤◌, List, [], ◌∷◌, ◌++◌, length, drop, refl, ap, ap₂, ◌∙◌}
use Rattle.std.proofs.Common.{arith, append_assoc, append-nil}
use Rattle.std.proofs.lemmas.List.{length-drop}
use Rattle.std.specs.List.{AllByRecursion}
use Rattle.mfotl_model.specs.{Exact.View, Log.times, Regions.everywhere, Times.NeverFalls}
use Rattle.mfotl_model.specs.declared.event.TimePoint.{TimePoint}
use Rattle.monitorable.specs.CoreForms.{CoreForm, meaning}
use Rattle.monitorable.specs.declared.role.Role.TheVariants as role
use Rattle.core_arranging.specs.{Arranging.posed}
use Rattle.monitor_nodes.proofs.{ExactLemmas.reached_within}
use Rattle.monitor_state.proofs.{BeginLemmas.begins, LawProofs.itself, MonitorSteps.premises_all}
use Rattle.monitor_state.proofs.{PosedSteps.premises_posed, RecordKeeps.earliest_least, RecordKeeps.earliest_reaches}
use Rattle.monitor_state.proofs.{ResumeTimes.log_size}
use Rattle.monitor_nodes.specs.{Views.reached, Steps.longer}
use Rattle.monitor_state.specs.{Beginnings.Adds, Going.AllPremises, Nodes.nodes_of, StateRules.NodesKeep}
use Rattle.monitor_state.specs.{StateRules.StateRule, StateStands.NodesDataStand, StateStands.StateStands}
use Rattle.monitor_state.specs.Resuming.{AllMatch, NodeResumed, NodesResumed, SuitsEvaluation, SuitsWhole}
use Rattle.monitor_state.specs.Stands.{NodesStand, StateOf, Stands}
use Rattle.monitor_state.specs.StateTimes.{KeptTimes, earliest, node_asks, times_of}
use Rattle.monitor_nodes.specs.declared.{node.Node.Node}
use Rattle.monitor_state.specs.declared.{state.NodeData.NodeData, state.State.State}

-- nodes of the core and data of the core match
pub all_match : (view : View) (k : KeptTimes) (fs : List CoreForm) (ns : List Node) (ds : List NodeData)
    → NodesStand view fs ns → NodesKeep k fs ds → AllMatch k ns ds
all_match view k [] [] [] stand keep = tt
all_match view k (f ∷ fs) (n ∷ ns) (d ∷ ds) stand keep = grind (arith, all_match view k fs ns ds stand.2 keep.1)
all_match view k fs ns ds stand keep = absurd assumption

-- what is taken for granted of each of the cores
abbrev pub AllSuit : View → CoreForm → List CoreForm → Type 0
AllSuit view whole fs = AllByRecursion (SuitsEvaluation view whole) fs

premises_suit : (view : View) (point given : TimePoint) (whole : CoreForm) (fs : List CoreForm)
    → (seen : View) → seen.near ≡ view.near → seen.whole ≡ view.whole
    → AllPremises seen point given whole fs → AllSuit view whole fs
premises_suit view point given whole [] seen near same all = tt
premises_suit view point given whole (f ∷ fs) seen near same all =
    grind (arith, premises_suit view point given whole fs seen near same all.1)

-- of each of a core's nodes
all_suit : (view : View) (core : CoreForm) → SuitsWhole view core → AllSuit view core (nodes_of core)
all_suit view core suits =
    premises_suit view start start core (nodes_of core) empty refl refl
    (premises_all empty start start core role.Whole (posed core)
    (premises_posed empty start start core
    (record {
      rising = one_never_falls;
      passes = suits.suits.passes;
      whole_is = suits.whole;
      sound = suits.suits.sound;
      ts = refl;
      same = itself empty core start.db;
    })))
  where
    start : TimePoint
    start = record { ts = 0; db = [] }

    empty : View
    empty = record view { log = [] }

    one_never_falls : NeverFalls (times (longer empty start).log)
    one_never_falls zero zero low below = omega arith
    one_never_falls zero (suc j) low below = absurd (let one : suc j < 1 = below in omega arith)
    one_never_falls (suc i) j low below = absurd (let one : j < 1 = below in omega arith)

nodes_stand : (view : View) (k : KeptTimes) (whole : CoreForm) (fs : List CoreForm) (old new : List Node)
    (ds : List NodeData)
    → k.stamps ≡ drop k.first (times view.log) → AllByRecursion (λ d. k.first ≤ node_asks k.first d) ds
    → AllSuit view whole fs → (seen : View) → NodesStand seen fs old → NodesKeep k fs ds → NodesResumed k old ds new
    → NodesDataStand view fs ds → NodesStand view fs new
nodes_stand view k whole [] [] [] [] are low suit seen stand keep res data_stand = tt
nodes_stand view k whole (f ∷ fs) (o ∷ os) (n ∷ ns) (d ∷ ds) are low suit seen stand keep res data_stand =
    grind (arith, nodes_stand view k whole fs os ns ds are low.1 suit.1 seen stand.2 keep.1 res.1 data_stand.1)
nodes_stand view k whole [] [] (n ∷ ns) [] are low suit seen stand keep res data_stand = absurd res
nodes_stand view k whole (f ∷ fs) (o ∷ os) [] (d ∷ ds) are low suit seen stand keep res data_stand = absurd res
nodes_stand view k whole fs old new ds are low suit seen stand keep res data_stand = absurd assumption

-- the view of the empty log
abbrev pub empty_view : CoreForm → View
empty_view core = record { near = everywhere; log = []; whole = meaning core }

-- nodes that were just made stand for the empty log
pub fresh_stand : (core : CoreForm) (fresh : List Node) → Adds (nodes_of core) [] fresh
    → NodesStand (empty_view core) (nodes_of core) fresh
fresh_stand core fresh adds =
    (begins core (record { taken = 0; given = 0; first = 0; times = []; nodes = fresh }) refl refl refl refl adds
    (empty_view core) refl).nodes

-- the timestamps of a state, from a first place on
pub times_are : (kept : State) (first : ℕ) (stamps : List ℕ) → first ≡ kept.taken - length kept.times.items
    → stamps ≡ kept.times.items → times_of kept ≡ record { first = first; stamps = stamps }
times_are kept first stamps first_is stamps_are = search (ap₂)

-- the monitor stands for the log
pub state_resumed : (core : CoreForm) (kept : State) (fresh : List Node) (new : StateOf)
    → NodesStand (empty_view core) (nodes_of core) fresh → StateRule core kept
    → NodesResumed (times_of kept) fresh kept.nodes.items new.nodes
    → new.taken ≡ kept.taken → new.given ≡ kept.given → new.first ≡ (times_of kept).first → new.times ≡ kept.times.items
    → (view : View) → SuitsWhole view core → StateStands view core kept → Stands view core new
state_resumed core kept fresh new begun rule res taken given first stamps view suits stands =
    let least : earliest kept.given kept.nodes.items ≤ kept.given = earliest_least kept.given kept.nodes.items in
    let most : reached view core ≤ length view.log = reached_within view core in
    let all : length (times view.log) ≡ length view.log = log_size view in
    let rest : length kept.times.items ≡ length (times view.log) - earliest kept.given kept.nodes.items =
    ap length stands.times ∙ length-drop (earliest kept.given kept.nodes.items) (times view.log) in
    let first_is : (times_of kept).first ≡ earliest kept.given kept.nodes.items = omega arith in
    let kept_from : kept.times.items ≡ drop (times_of kept).first (times view.log) = cc in
    let low : new.first ≤ new.given = omega arith in
    search (nodes_stand, earliest_reaches, all_suit)

-- ---- node by node

-- what is made of the nodes that are left goes behind what was made
abbrev pub GoesBehind : KeptTimes → List Node → List NodeData → List Node → List NodeData → List Node → Type 0
GoesBehind k nodes ds rest left made =
    (more : List Node) → NodesResumed k rest left more → NodesResumed k nodes ds (made ++ more)

pub nodes_on : (k : KeptTimes) (nodes : List Node) (ds : List NodeData) (rest : List Node) (left : List NodeData)
    (made : List Node) (n : Node) (d : NodeData) (new : Node)
    → NodeResumed k n d new → GoesBehind k nodes ds (n ∷ rest) (d ∷ left) made
    → GoesBehind k nodes ds rest left (made ++ new ∷ [])
nodes_on k nodes ds rest left made n d new one behind more all = search (append_assoc)

pub nodes_done : (k : KeptTimes) (nodes : List Node) (ds : List NodeData) (rest : List Node) (left : List NodeData)
    (made : List Node)
    → rest ≡ [] → AllMatch k rest left → GoesBehind k nodes ds rest left made → NodesResumed k nodes ds made
nodes_done k nodes ds [] [] made none match behind = grind (arith, append-nil made)
nodes_done k nodes ds [] (d ∷ left) made none match behind = absurd match
nodes_done k nodes ds (n ∷ rest) left made none match behind = absurd (cc)
