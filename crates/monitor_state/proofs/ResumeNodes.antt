-- Nodes that are resumed with data that stands for a log do.
use Rattle.std.proofs.Common.{◌≡◌, ℕ, ◌+◌, ◌-◌, ◌≤◌, Bool, true, false, cond, List, [], ◌∷◌, length, map, refl, sym}
use Rattle.std.proofs.Common.{subst, ap, ◌∙◌, arith}
use Rattle.std.specs.Global.{Vec}
use Rattle.mfotl_model.specs.Exact.{AllExact, Covers, View}
use Rattle.mfotl_model.specs.{FreeVariables.fv, Satisfaction.Valuation, Satisfaction.truth_at, Tables.TableOf}
use Rattle.mfotl_model.specs.{Tables.has}
use Rattle.mfotl_model.specs.declared.{interval.Interval.Interval, value.Value.Value}
use Rattle.core_arranging.specs.{Windows.left_operand}
use Rattle.eval_bool.proofs.{ChildLemmas.Alike, RefillLemmas.rule_alike}
use Rattle.eval_bool.specs.BoolData.{JoinRule, TablesOver, join_of, with_tables}
use Rattle.eval_bool.specs.JoinView.{ChildOf, JoinOf}
use Rattle.eval_bool.specs.declared.recalled.JoinData.{JoinData}
use Rattle.eval_since.specs.{PreviousData.previous_of, PreviousView.PrevOf, SinceView.SinceOf}
use Rattle.eval_since.specs.declared.recalled.PrevData.{PrevData}
use Rattle.eval_until.specs.{NextData.next_of, NextView.NextOf, UntilView.UntilOf}
use Rattle.eval_until.specs.UntilData.{UntilRule, setting_of as until_setting_of, until_of}
use Rattle.eval_until.specs.declared.recalled.NextData.{NextData}
use Rattle.monitorable.specs.CoreForms.{CoreForm, meaning, Not, And, Previous, Next, Since, Until}
use Rattle.relations.specs.Pushed.{StandFrom}
use Rattle.monitor_nodes.proofs.{ExactLemmas.exact_tell, ExactLemmas.reached_within}
use Rattle.monitor_state.proofs.{RecordKeeps.alike_parts}
use Rattle.monitor_state.proofs.ResumeTimes.{known_from, last_dates, rest_dates, rest_is, rest_size}
use Rattle.monitor_state.proofs.ResumeWindows.{since_resumed_is, since_resumed_stands, until_resumed_all}
use Rattle.monitor_state.proofs.ResumeWindows.{until_resumed_is, until_resumed_stands, until_resumed_taken}
use Rattle.monitor_nodes.specs.{Views.Tells, Views.reached, WindowNode.IsWindow}
use Rattle.monitor_state.specs.{StateRules.NodeKeeps, StateRules.WindowKeeps}
use Rattle.monitor_state.specs.Resuming.{NodeResumed, Reach, SinceResumed, UntilResumed, WindowResumed}
use Rattle.monitor_nodes.specs.Stands.{ChildrenStand, IsNodeFor, IsConjunction, IsPrevious, JoinStands, NextStands}
use Rattle.monitor_nodes.specs.Stands.{PreviousStands, bare}
use Rattle.monitor_state.specs.StateStands.{JoinDataStands, NextDataStands, PreviousDataStands, TablesStand}
use Rattle.monitor_state.specs.StateTimes.{KeptTimes, time_before, times_from}
use Rattle.monitor_nodes.specs.declared.{filter.FilterState.FilterState}
use Rattle.monitor_state.specs.declared.{state.SinceKept.SinceKept, state.UntilKept.UntilKept}
use Rattle.monitor_state.specs.declared.{state.WindowData.WindowData}
use Rattle.monitor_nodes.specs.declared.node.Node.TheVariants as node
use Rattle.monitor_state.specs.declared.state.NodeData.TheVariants as kept
use Rattle.monitor_state.specs.declared.state.WindowData.TheVariants as data_of
use Rattle.monitor_nodes.specs.declared.window.Window.TheVariants as window
use Rattle.std.proofs.lemmas.Grind.{common_steps}

-- ---- conjunctions

children_stand : (view : View) (p : ℕ) (fs : List CoreForm) (cs : List ChildOf) (tss : List (List TableOf))
    → TablesOver cs tss → TablesStand view p fs tss → ChildrenStand view p fs (with_tables cs tss)
children_stand view p [] [] [] over stand = tt
children_stand view p (f ∷ fs) (c ∷ cs) (ts ∷ tss) over stand = search (children_stand view p fs cs tss over.1 stand.2)
children_stand view p (f ∷ fs) [] [] over stand = absurd stand
children_stand view p [] (c ∷ cs) (ts ∷ tss) over stand = absurd stand
children_stand view p fs [] (ts ∷ tss) over stand = absurd over
children_stand view p fs (c ∷ cs) [] over stand = absurd over

bare_with : (cs : List ChildOf) (tss : List (List TableOf)) → map bare (with_tables cs tss) ≡ map bare cs
bare_with [] tss = refl
bare_with (c ∷ cs) [] = refl
bare_with (c ∷ cs) (ts ∷ tss) = ap (λ xs. bare c ∷ xs) (bare_with cs tss)

alike_back : (xs ys : List ChildOf) → Alike xs ys → Alike ys xs
alike_back [] [] same = tt
alike_back (x ∷ xs) (y ∷ ys) same = (sym same.0, sym same.1, alike_back xs ys same.2)
alike_back xs ys same = absurd assumption

join_is : (f : CoreForm) (s new : JoinOf) (d : JoinData) → IsConjunction f s → new ≡ join_of s d → IsConjunction f new
join_is f s new d is made = grind (arith, bare_with)

join_stands : (view : View) (f : CoreForm) (s new : JoinOf) (d : JoinData) → JoinRule s.children d → new ≡ join_of s d
    → JoinDataStands view f d → JoinStands view f new
join_stands view f s new d rule made stands = grind (arith, children_stand)

pub join_resumed : (k : KeptTimes) (s new : JoinOf) (d : JoinData) → new ≡ join_of s d
    → NodeResumed k (node.Join s) (kept.Join d) (node.Join new)
join_resumed k s new d made (Not f) is keeps = search (join_is, join_stands, rule_alike, alike_back, alike_parts)
join_resumed k s new d made (And f g) is keeps = search (join_is, join_stands, rule_alike, alike_back, alike_parts)
join_resumed k s new d made f is keeps = absurd is

pub join_fits : (k : KeptTimes) (s : JoinOf) (d : JoinData) (f : CoreForm) → IsNodeFor f (node.Join s)
    → NodeKeeps k f (kept.Join d) → JoinRule s.children d
join_fits k s d (Not f) is keeps = search (rule_alike, alike_back, alike_parts)
join_fits k s d (And f g) is keeps = search (rule_alike, alike_back, alike_parts)
join_fits k s d f is keeps = absurd is

-- ---- OR

-- ---- PREVIOUS and NEXT

previous_stands : (k : KeptTimes) (i : Interval) (f : CoreForm) (s new : PrevOf) (d : PrevData) → IsPrevious i f s
    → new ≡ previous_of s.interval s.columns (time_before k d.pulled) (times_from k d.pulled) d
    → (view : View) → Reach view k (d.pulled - 1) → PreviousDataStands view i f d → PreviousStands view i f new
previous_stands k i f s new d is made view reach stands =
    subst (PreviousStands view i f) (sym made)
    (let at : d.pulled ≡ reached view (Previous i f) = stands.pulled in
    let inside : reached view (Previous i f) ≤ length view.log = reached_within view (Previous i f) in
    let rest : length (times_from k d.pulled) ≡ length view.log - d.pulled = grind (arith, rest_size) in
    let pushed : d.pulled - 1 + length d.tables.items ≡ reached view f = stands.pushed in
    record {
      pulled = stands.pulled;
      timed = omega arith;
      known =
          known_from view k d.pulled reach.stamps (time_before k d.pulled) (times_from k d.pulled) reach.first
          (omega arith) refl refl;
      pushed = stands.pushed;
      tables = stands.tables;
      follows = λ dom v covers near t a dates tells. record {
        last = λ some. last_dates view k d.pulled reach.stamps reach.first (omega arith) t dates some;
        times = rest_dates view k d.pulled reach.stamps (omega arith) t dates;
        tables = exact_tell view f dom v a (d.pulled - 1) d.tables.items covers near tells (omega arith) stands.tables;
      };
    })

pub previous_resumed : (k : KeptTimes) (s new : PrevOf) (d : PrevData)
    → new ≡ previous_of s.interval s.columns (time_before k d.pulled) (times_from k d.pulled) d
    → NodeResumed k (node.Previous s) (kept.Previous d) (node.Previous new)
previous_resumed k s new d made (Previous i f) is keeps = (
  rw made (record { interval = is.interval; columns = is.columns }),
  λ view whole suits reach stands. previous_stands k i f s new d is made view reach stands,
)
previous_resumed k s new d made f is keeps = absurd is

next_tells : (view : View) (f : CoreForm) (d : NextData) (dom : List Value) (v : Valuation) (a : List Bool)
    → Covers view dom → view.near (fv (meaning f)) v ≡ true → Tells view dom v f a
    → (b : Bool) → cond b (d.pulled + 1 + length d.tables.items) 0 ≡ reached view f
    → (b ≡ false → (d.pulled ≡ 0) × (length d.tables.items ≡ 0))
    → AllExact view (meaning f) (d.pulled + 1) d.tables.items
    → StandFrom (λ i table. has table v ≡ truth_at a i) (d.pulled + 1) d.tables.items
next_tells view f d dom v a covers near tells true pushed bare exact =
    exact_tell view f dom v a (d.pulled + 1) d.tables.items covers near tells (omega arith) exact
next_tells view f d dom v a covers near tells false pushed bare exact = grind (arith, common_steps)

next_stands : (k : KeptTimes) (i : Interval) (f : CoreForm) (s new : NextOf) (d : NextData)
    → new ≡ next_of s.interval s.columns (times_from k d.pulled) d
    → (view : View) → Reach view k d.pulled → NextDataStands view i f d → NextStands view i f new
next_stands k i f s new d made view reach stands =
    subst (NextStands view i f) (sym made)
    (let at : d.pulled ≡ reached view (Next i f) = stands.pulled in
    record {
      pulled = stands.pulled;
      timed = omega (arith, reached_within view (Next i f), rest_size view k d.pulled reach.stamps reach.first);
      kept = rest_is view k d.pulled reach.stamps reach.first;
      pushed = stands.pushed;
      bare = stands.bare;
      tables = stands.tables;
      follows = λ dom v covers near t a dates long tells. record {
        long = omega (arith, reached_within view (Next i f), rest_size view k d.pulled reach.stamps reach.first);
        times = rest_dates view k d.pulled reach.stamps reach.first t dates;
        tables = next_tells view f d dom v a covers near tells d.started stands.pushed stands.bare stands.tables;
      };
    })

pub next_resumed : (k : KeptTimes) (s new : NextOf) (d : NextData)
    → new ≡ next_of s.interval s.columns (times_from k d.pulled) d
    → NodeResumed k (node.Next s) (kept.Next d) (node.Next new)
next_resumed k s new d made (Next i f) is keeps = search (next_stands)
next_resumed k s new d made f is keeps = absurd is

-- ---- windows

pub since_in_window : (k : KeptTimes) (s new : SinceOf) (d : SinceKept) → SinceResumed k s d.kept new
    → WindowResumed k (window.Since s) (data_of.Since d) (window.Since new)
since_in_window k s new d res (Since i f g) is keeps = search (since_resumed_is, since_resumed_stands)
since_in_window k s new d res w is keeps = absurd is

pub until_in_window : (k : KeptTimes) (s new : UntilOf) (d : UntilKept) → UntilResumed k s d.kept new
    → WindowResumed k (window.Until s) (data_of.Until d) (window.Until new)
until_in_window k s new d res (Until i f g) is keeps =
    search (until_resumed_is, until_resumed_stands, until_resumed_all)
until_in_window k s new d res w is keeps = absurd is

pub since_resumed_node : (k : KeptTimes) (s new : SinceOf) (order : TableOf) (d : SinceKept)
    → SinceResumed k s d.kept new
    → NodeResumed k (node.Since s order) (kept.Window (data_of.Since d)) (node.Since new order)
since_resumed_node k s new order d res (Since i f g) is keeps = search (since_resumed_is, since_resumed_stands)
since_resumed_node k s new order d res f is keeps = absurd is

pub until_resumed_node : (k : KeptTimes) (s new : UntilOf) (order : TableOf) (d : UntilKept)
    → UntilResumed k s d.kept new
    → NodeResumed k (node.Until s order) (kept.Window (data_of.Until d)) (node.Until new order)
until_resumed_node k s new order d res (Until i f g) is keeps =
    search (until_resumed_is, until_resumed_stands, until_resumed_taken)
until_resumed_node k s new order d res f is keeps = absurd is

-- the data of an UNTIL's node can be gone on from
pub until_node_fits : (k : KeptTimes) (s : UntilOf) (order : TableOf) (d : UntilKept) (f : CoreForm)
    → IsNodeFor f (node.Until s order) → NodeKeeps k f (kept.Window (data_of.Until d))
    → UntilRule (until_of (until_setting_of s) (times_from k d.kept.pulled) d.kept)
until_node_fits k s order d f is keeps = grind arith

-- ---- conjunctions whose right side is asked for the left one's rows

pub filter_fits : (k : KeptTimes) (s : FilterState) (tables : Vec TableOf) (w : WindowData) (f : CoreForm)
    → IsNodeFor f (node.Filter s) → NodeKeeps k f (kept.Filter tables w)
    → (g : CoreForm) × IsWindow g s.window × WindowKeeps k g w
filter_fits k s tables w f is keeps = grind arith

pub filter_resumed : (k : KeptTimes) (s new : FilterState) (tables : Vec TableOf) (w : WindowData)
    → new.tables ≡ tables.items → new.negated ≡ s.negated → new.order ≡ s.order → WindowResumed k s.window w new.window
    → NodeResumed k (node.Filter s) (kept.Filter tables w) (node.Filter new)
filter_resumed k s new tables w tables_are turns orders res (And f g) is keeps =
    let resumed = res (left_operand g) is.asks keeps.2 in (
      record {
        only = is.only;
        turns = turns ∙ is.turns;
        asks = resumed.0;
        gives = rw orders is.gives;
      },
      λ view whole suits reach stands.
          let behind = resumed.1 view whole (reached view (And f g)) (grind arith) reach
          stands.behind in
          record {
            pushed = rw tables_are stands.pushed;
            exact = rw tables_are stands.exact;
            behind = behind.0;
            all = behind.1;
          },
    )
filter_resumed k s new tables w tables_are turns orders res f is keeps = absurd is
