-- What one worker alone writes are the lines of the verdicts.
use Rattle.std.proofs.Common.{◌≡◌, ◌∙◌, ap, ap₂, subst, sym, refl, arith, ℕ, ◌+◌, ◌-◌, ◌<◌, ◌≤◌, List, [], ◌∷◌, ◌++◌}
use Rattle.std.proofs.Common.{Option, length, drop, slice_index, length-append}
use Rattle.std.proofs.{KnownBytes.Appends-nil, KnownBytes.Appends-trans, lemmas.List.FromFn.map-range_with_len_more}
use Rattle.std.proofs.lemmas.List.{get_or-drop, get_or_append_left, length-drop, length-map}
use Rattle.mon_outside.specs.Sink.{Appends, AppendsFront}
use Rattle.mfotl_model.specs.{Counts.settled_count, Exact.AllExact, Exact.Exact, Log.times, Satisfaction.time_at}
use Rattle.mfotl_model.specs.{Tables.TableOf, VerdictText.VerdictOf, VerdictText.line_of}
use Rattle.mfotl_model.specs.declared.{event.TimePoint.TimePoint, value.Value.Value}
use Rattle.monitorable.proofs.TableLaw.{tables_satisfy}
use Rattle.monitorable.specs.{CoreForms.CoreForm, CoreForms.meaning, Fragment.IsMonitorable, Laws.whole_view}
use Rattle.monitor_state.proofs.LawProofs.{lone_worker_steps}
use Rattle.monitor_nodes.specs.{Steps.News}
use Rattle.monitor_state.specs.{Beginnings.Begins, MonitorView.MonitorOf, MonitorView.monitor_of, Stands.StateOf}
use Rattle.monitor_state.specs.{Stands.Stands, Steps.Steps}
use Rattle.monitor_state.specs.declared.monitor.Monitor.{Monitor}
use Rattle.relations.specs.Tables.{IsTable}
use Rattle.monitor_state.proofs.LogLemmas.{settled_more, settled_within, times_more, viol_final}
use Rattle.monitor_state.specs.{Stands.IsKept, Verdicts.verdict_on}
use Rattle.monitor_state.specs.Verdicts.{IsEvaluable, MayFollow, settled_in, violations_at}
use Rattle.lone_worker.specs.{Courses.Settles, Texts.lines, Texts.tally_of}
use Rattle.lone_worker.specs.Alone.{Owes, WritesAlone, told_of}
use Rattle.lone_worker.specs.Verdicts.{Falls, all_verdicts, first_verdicts, seen}
use Rattle.lone_worker.specs.declared.tally.Tally.{Tally}
use Rattle.lone_worker.proofs.{SinkLemmas.front_behind, SinkLemmas.whole_front, VerdictLemmas.lines_more}
use Rattle.lone_worker.proofs.{VerdictLemmas.same_below}

-- ---- the verdicts on the first positions

verdicts_more : (core : CoreForm) (points : List TimePoint) (n : ℕ)
    → first_verdicts core points (n + 1) ≡ first_verdicts core points n ++ seen (verdict_on core points n) ∷ []
verdicts_more core points n = map-range_with_len_more (λ i. seen (verdict_on core points i)) 0 n n (omega arith)

module _ (core : CoreForm) (points : List TimePoint) (point : TimePoint) (fits : IsMonitorable core)
    (follows : MayFollow points point) where
  verdict_stays : (i : ℕ) → i < settled_in core points
      → seen (verdict_on core points i) ≡ seen (verdict_on core (points ++ point ∷ []) i)
  verdict_stays i below = grind (arith, settled_within, length-map, times_more, get_or_append_left, ap₂, viol_final)

  -- where one time-point more is read, the verdicts on the settled positions stay
  verdicts_stay : all_verdicts core points ≡ first_verdicts core (points ++ point ∷ []) (settled_in core points)
  verdicts_stay = grind (arith, same_below, verdict_stays)

-- ---- what tables tell

dated_by : (state : StateOf) (points : List TimePoint) (i : ℕ) → state.times ≡ drop state.first (times points)
    → state.first ≤ i → slice_index state.times (i - state.first) ≡ time_at (times points) i
dated_by state points i dated low = grind (arith, slice_index, get_or-drop)

-- what an exact table tells of a position is the verdict on it
told_verdict : (core : CoreForm) (points : List TimePoint) (state : StateOf) (i : ℕ) (table : TableOf)
    → IsMonitorable core → state.times ≡ drop state.first (times points) → state.first ≤ i
    → Exact (whole_view points core) (meaning core) i table → IsTable table.columns table.rows
    → told_of state i table ≡ seen (verdict_on core points i)
unfolding violations_at
told_verdict core points state i table fits dated low exact is =
    ap₂ (λ (t : ℕ) (rows : List (List Value)). record { point = i; ts = t; rows = rows })
    (dated_by state points i dated low)
    (tables_satisfy points (λ y. []) core i table (fits (λ y. [])) exact is.sized is.sorted)

-- one table less is to be told of
pub kept_on : (state : StateOf) (i : ℕ) (table : TableOf) (rest tables : List TableOf) → tables ≡ table ∷ rest
    → IsKept state i (length tables) → IsKept state (i + 1) (length rest)
kept_on state i table rest tables is kept = grind arith

module _ {core : CoreForm} {points : List TimePoint} {start now : Option (List ℕ)} {state : StateOf} {tally : Tally}
    {i : ℕ} {table : TableOf} {rest tables : List TableOf} (is : tables ≡ table ∷ rest)
    (debt : Owes core points start state now tally i tables) (low : state.first ≤ i)
    (tabled : IsTable table.columns table.rows) where
  owes : Owes core points start state now tally i (table ∷ rest)
  owes = subst (λ (ts : List TableOf). Owes core points start state now tally i ts) is debt

  one_more : first_verdicts core points (i + 1) ≡ first_verdicts core points i ++ told_of state i table ∷ []
  one_more = grind (arith, verdicts_more, told_verdict)

  lines_next : lines (first_verdicts core points (i + 1))
      ≡ lines (first_verdicts core points i) ++ line_of (told_of state i table)
  lines_next = ap lines one_more ∙ lines_more (first_verdicts core points i) (told_of state i table)

  -- the line of a table was written
  pub pays_one : {then : Option (List ℕ)} {more : Tally} → Appends now then (line_of (told_of state i table))
      → ((vs : List VerdictOf) → tally ≡ tally_of vs → more ≡ tally_of (vs ++ told_of state i table ∷ []))
      → Owes core points start state then more (i + 1) rest
  pays_one {then} line counts = record {
    fits = owes.fits;
    dated = owes.dated;
    count = (let count = owes.count in omega (arith, count));
    exact = owes.exact.1;
    text = subst (Appends start then) (sym lines_next) (Appends-trans start now then _ _ owes.text line);
    counts = counts (first_verdicts core points i) owes.counts ∙ ap tally_of (sym one_more);
  }

  -- it was written in part
  pub pays_part : {then : Option (List ℕ)} → AppendsFront now then (line_of (told_of state i table))
      → Falls core points start then
  pays_part {then} part = grind (arith, lines_next, front_behind)

-- ---- one time-point more

-- what was written is a front of what is due for one time-point more
pub falls_short : {core : CoreForm} {start now : Option (List ℕ)} {monitor : Monitor} {tally : Tally}
    {points : List TimePoint} {point : TimePoint} → MayFollow points point
    → WritesAlone core start monitor now tally points → Falls core (points ++ point ∷ []) start now
falls_short {core} {start} {now} {points = points} {point = point} follows w = record {
  count = settled_in core points;
  settled = settled_more core points point follows;
  front = subst (λ vs. AppendsFront start now (lines vs))
      (verdicts_stay core points point w.evaluable.fits follows) (whole_front start now _ w.settles.text);
}

-- and of what is due for these
pub falls_none : {core : CoreForm} {start now : Option (List ℕ)} {monitor : Monitor} {tally : Tally}
    {points : List TimePoint} → WritesAlone core start monitor now tally points → Falls core points start now
falls_none {core} {start} {now} {points = points} w = grind (arith, whole_front)

module _ {core : CoreForm} {start now : Option (List ℕ)} {old : Monitor} (new : Monitor) {tally : Tally}
    {points : List TimePoint} {point : TimePoint} {tables : List TableOf} (follows : MayFollow points point)
    (w : WritesAlone core start old now tally points)
    (steps : Steps (monitor_of old).core (monitor_of old).state point (monitor_of new).state tables) where
  stepped : Stands (whole_view (points ++ point ∷ []) core) core (monitor_of new).state
      × News (whole_view points core) point core tables
  stepped =
      subst (λ (c : CoreForm). Steps c (monitor_of old).state point (monitor_of new).state tables) w.core_is steps
      (whole_view points core) point
      (lone_worker_steps points point core w.evaluable.fits w.evaluable.apart follows.rising) w.stands

  -- the timestamps of the positions that are settled now are kept
  pub are_kept : (monitor_of new).state.first ≡ (monitor_of old).state.given
      → IsKept (monitor_of new).state (monitor_of old).state.given (length tables)
  are_kept first =
      let given : (monitor_of old).state.given ≡ settled_in core points = w.stands.given in
      let count : settled_in core points + length tables ≡ settled_in core (points ++ point ∷ []) =
      stepped.1.count in
      let within = settled_within core (points ++ point ∷ []) in
      let len : length (points ++ point ∷ []) ≡ length points + 1 = length-append points (point ∷ []) in
      let stamps : length (monitor_of new).state.times
      ≡ length (times (points ++ point ∷ [])) - (monitor_of new).state.first =
      ap length stepped.0.times ∙ length-drop (monitor_of new).state.first (times (points ++ point ∷ [])) in
      let all : length (times (points ++ point ∷ [])) ≡ length (points ++ point ∷ []) =
      length-map (points ++ point ∷ []) (λ (p : TimePoint). p.ts) in
      let room = follows.room in
      record { from = omega arith; upto = omega arith; few = omega arith }

  -- only their lines are owed
  pub owes_new : Owes core (points ++ point ∷ []) start (monitor_of new).state now tally
      (monitor_of old).state.given tables
  owes_new =
      let given : settled_in core points ≡ (monitor_of old).state.given = sym w.stands.given in
      let same : all_verdicts core points
      ≡ first_verdicts core (points ++ point ∷ []) (monitor_of old).state.given =
      verdicts_stay core points point w.evaluable.fits follows
      ∙ ap (first_verdicts core (points ++ point ∷ [])) given in
      record {
        fits = w.evaluable.fits;
        dated = stepped.0.times;
        count = ap (λ n. n + length tables) (sym given) ∙ stepped.1.count;
        exact = subst (λ i. AllExact (whole_view (points ++ point ∷ []) core) (meaning core) i tables) given
            stepped.1.exact;
        text = subst (λ vs. Appends start now (lines vs)) same w.settles.text;
        counts = w.settles.counts ∙ ap tally_of same;
      }

  -- once they are written, all are
  pub took_one : {last : Monitor} {then : Option (List ℕ)} {more : Tally} → monitor_of last ≡ monitor_of new
      → (monitor_of new).core ≡ (monitor_of old).core → Settles core (points ++ point ∷ []) start then more
      → WritesAlone core start last then more (points ++ point ∷ [])
  took_one same core_is settles = record {
    core_is = ap (λ (m : MonitorOf). m.core) same ∙ core_is ∙ w.core_is;
    evaluable = w.evaluable;
    stands = subst (λ (m : MonitorOf). Stands (whole_view (points ++ point ∷ []) core) core m.state) (sym same)
        stepped.0;
    settles = settles;
  }

-- ---- the beginning

-- no time-point was taken
pub takes_none : {core : CoreForm} {monitor : Monitor} {tally : Tally} → IsEvaluable core
    → (monitor_of monitor).core ≡ core → Begins core (monitor_of monitor).state → tally ≡ tally_of []
    → (start : Option (List ℕ)) → WritesAlone core start monitor start tally []
unfolding settled_count
takes_none {core} evaluable core_is begins none start = record {
  core_is = core_is;
  evaluable = evaluable;
  stands = begins (whole_view [] core) refl;
  settles = record { text = Appends-nil start; counts = none };
}
