-- An UNTIL's state over one step.
use Rattle.std.proofs.Common.{◌≡◌, ℕ, zero, suc, ◌+◌, ◌-◌, ◌<◌, ◌≤◌, min, Bool, true, List, [], ◌∷◌, ◌++◌, length, drop}
use Rattle.std.proofs.Common.{refl, sym, ap, ap₂, ◌∙◌, inl, inr, arith, length-append}
use Rattle.std.proofs.{lemmas.Bool.cases_lt, lemmas.Bool.eqb-true, lemmas.Grind.common_steps}
use Rattle.std.proofs.lemmas.List.{drop-drop, length-drop, length-map}
use Rattle.mfotl_model.proofs.CountLemmas.{counted_settled}
use Rattle.mfotl_model.specs.Exact.{View, Covers, AllExact}
use Rattle.mfotl_model.specs.{FreeVariables.fv, Log.times, Regions.Passes, Settled.settled, Tables.TableOf}
use Rattle.mfotl_model.specs.{Tables.all_among, Times.NeverFalls}
use Rattle.mfotl_model.specs.Satisfaction.{Valuation, sat, time_at, truth_at}
use Rattle.mfotl_model.specs.declared.{event.TimePoint.TimePoint, interval.Interval.Interval, value.Value.Value}
use Rattle.core_arranging.specs.{Windows.left_operand}
use Rattle.eval_until.proofs.DueLemmas.{until_due_settled}
use Rattle.eval_until.specs.UntilView.{Follows, FollowsLeft, UntilOf, due, took_all}
use Rattle.monitorable.specs.CoreForms.{CoreForm, meaning, Until}
use Rattle.monitorable.specs.Soundness.{HasVariablesOf}
use Rattle.relations.specs.Pushed.{StandFrom, left_holds}
use Rattle.monitor_nodes.proofs.{CountLemmas.count_is, CountLemmas.until_counted, GrowthLemmas.exact_more}
use Rattle.monitor_nodes.proofs.{GrowthLemmas.told, SinceSteps.left_news, SinceSteps.reached_operand}
use Rattle.monitor_nodes.proofs.{StampLemmas.from_more, UntilLemmas.due_on}
use Rattle.monitor_nodes.proofs.ExactLemmas.{covers_before, dates_before, dates_new, exact_drop, exact_tell, log_more}
use Rattle.monitor_nodes.proofs.ExactLemmas.{reached_grows, reached_within, stand_exact, tells_before, truths_tell}
use Rattle.monitor_nodes.proofs.RegionLemmas.{joined_inside, near_part, near_right, right_inside}
use Rattle.monitor_nodes.specs.{Steps.News, Steps.longer}
use Rattle.monitor_nodes.specs.UntilNode.{IsUntil, IsUntilState, UntilStands, UntilStandsAt}
use Rattle.monitor_nodes.specs.UntilFeeding.{UntilFeeds, UntilPulled, UntilTakes, until_past}
use Rattle.monitor_nodes.specs.Views.{Dates, Tells, reached}

-- times that are those of a list from a place on stand for its positions
stand_each : (t : List ℕ) (p : ℕ) (xs : List ℕ) → ((k : ℕ) → k < length xs → time_at xs k ≡ time_at t (p + k))
    → StandFrom (λ i x. x ≡ time_at t i) p xs
stand_each t p [] each = tt
stand_each t p (x ∷ xs) each =
    let here : p + 0 ≡ p = omega arith in (
      each 0 (omega arith) ∙ ap (time_at t) here,
      stand_each t (p + 1) xs
          (λ k low. let at : p + suc k ≡ p + 1 + k = omega arith in each (suc k) (omega arith) ∙ ap (time_at t) at),
    )

times_stand : (t : List ℕ) (p : ℕ) → StandFrom (λ i x. x ≡ time_at t i) p (drop p t)
times_stand t p = stand_each t p (drop p t) (λ k low. (grind (arith, common_steps, zero)))

-- as many times were pushed as there are time-points
until_timed : {view : View} {p : ℕ} {i : Interval} {f g : CoreForm} {s : UntilOf} → UntilStandsAt view p i f g s
    → p ≤ length view.log → s.ahead.pulled + length s.times ≡ length view.log
until_timed {view} {p} {i} {f} {g} {s} stands inside = grind (arith, length-drop, length-map)

module _ {view : View} {point : TimePoint} {i : Interval} {f g : CoreForm} {p ts : ℕ} {old fed : UntilOf}
    {ls rs : List TableOf} (is : IsUntilState i f g old) (stands : UntilStandsAt view p i f g old)
    (inside : p ≤ length view.log) (left : News view point (left_operand f) ls) (right : News view point g rs)
    (feeds : UntilFeeds old ts ls rs fed) (ts_is : ts ≡ point.ts) (rising : NeverFalls (times (longer view point).log))
    (passes : Passes (fv view.whole) view.near) (variables : HasVariablesOf g f) where
  fed_is : fed ≡ record old { times = old.times ++ ts ∷ []; lefts = old.lefts ++ ls; rights = old.rights ++ rs }
  fed_is = rw (feeds.rights.pushed, feeds.lefts.pushed, feeds.time)

  left_stand : (dom : List Value) (v : Valuation) → Covers (longer view point) dom
      → view.near (fv (meaning f)) v ≡ true → (a : List Bool) → Tells (longer view point) dom v f a
      → StandFrom (λ k table. left_holds feeds.timed.ahead.negated table v ≡ truth_at a k)
      (feeds.timed.ahead.taken + length feeds.timed.lefts) ls
  left_stand dom v covers near a tells =
      rw (feeds.time, is.negated, stands.left_pushed) (left_news f left dom v a covers near tells)

  fed_left_follows : (dom : List Value) (v : Valuation) → Covers (longer view point) dom
      → view.near (fv (meaning f)) v ≡ true → (a : List Bool) → Tells (longer view point) dom v f a
      → FollowsLeft fed a v
  fed_left_follows dom v covers near a tells =
      feeds.rights.left a v
      (feeds.lefts.left a v
      (feeds.time_left a v
      (stands.left dom v (covers_before view point rising dom covers) near a
      (tells_before view point rising dom v f a tells)))
      (left_stand dom v covers near a tells))

  fed_follows : (dom : List Value) (v : Valuation) → Covers (longer view point) dom
      → view.near (fv (meaning g)) v ≡ true → (t : List ℕ) (a b : List Bool) → Dates (longer view point) t
      → length (longer view point).log ≤ length t → Tells (longer view point) dom v f a
      → Tells (longer view point) dom v g b → Follows fed t a b v
  fed_follows dom v covers near t a b dates long tells tells_right =
      let timed = until_timed stands inside in
      feeds.rights.follows t a b v
      (feeds.lefts.follows t a b v
      (feeds.time_follows t a b v
      (stands.follows dom v (covers_before view point rising dom covers) near t a b
      (dates_before view point rising t dates) (omega (arith, log_more view point rising))
      (tells_before view point rising dom v f a tells) (tells_before view point rising dom v g b tells_right))
      (rw (ts_is, timed) (dates_new view point rising t dates)) (omega (arith, log_more view point rising)))
      (left_stand dom v covers
      (near_part (fv view.whole) view.near passes (fv (meaning f)) (fv (meaning g)) variables v near) a tells))
      (rw (feeds.lefts.pushed, feeds.time, stands.right_pushed)
      (exact_tell (longer view point) g dom v b (reached view g) rs covers near tells_right (omega arith)
      right.exact))

  -- what was pushed stands where it did, for the longer log
  pub until_fed : IsUntilState i f g fed × UntilStandsAt (longer view point) p i f g fed
  until_fed =
      rw fed_is (
        record { interval = is.interval; negated = is.negated; left = is.left; right = is.right },
        record {
          pulled = stands.pulled;
          kept = from_more view point rising old.ahead.pulled ts old.times ts_is (omega arith) stands.kept;
          left_pushed = omega (
            arith,
            length-append old.lefts ls,
            reached_operand view f,
            reached_operand (longer view point) f,
          );
          right_pushed = omega (arith, length-append old.rights rs);
          lefts = search (exact_more, reached_operand);
          rights = exact_more right rising old.ahead.taken old.rights stands.right_pushed stands.rights;
          left = λ dom v covers near a tells. rw fed_is at (fed_left_follows dom v covers near a tells);
          follows = λ dom v covers near t a b dates long tells tells_right.
              rw fed_is at (fed_follows dom v covers near t a b dates long tells tells_right);
        },
      )

-- the tables of some positions were taken, as many of both operands, n positions were pulled, and each side is right
-- where it was
pub record UntilMoves (n seen : ℕ) (old new : UntilOf) : Type 0 where
  pub pulled : new.ahead.pulled ≡ old.ahead.pulled + n
  pub taken : new.ahead.taken ≡ old.ahead.taken + seen
  pub interval : new.ahead.interval ≡ old.ahead.interval
  pub left_columns : new.ahead.left ≡ old.ahead.left
  pub right_columns : new.ahead.right ≡ old.ahead.right
  pub negated : new.ahead.negated ≡ old.ahead.negated
  pub times : new.times ≡ drop n old.times
  pub lefts : new.lefts ≡ drop seen old.lefts
  pub rights : new.rights ≡ drop seen old.rights
  pub in_lefts : seen ≤ length old.lefts
  pub in_rights : seen ≤ length old.rights
  pub left : (a : List Bool) (v : Valuation) → FollowsLeft old a v → FollowsLeft new a v
  pub follows : (t : List ℕ) (a b : List Bool) (v : Valuation) → Follows old t a b v → Follows new t a b v

pulled_moves : {columns : List ℕ} {old new : UntilOf} {tables : List TableOf}
    (pulls : UntilPulled columns old new tables) → UntilMoves (length tables) pulls.seen old new
pulled_moves pulls = assumption

-- the rest stands as many positions further
pub until_moved : {view : View} {i : Interval} {f g : CoreForm} {n seen p : ℕ} {old new : UntilOf}
    → UntilMoves n seen old new → IsUntilState i f g old × UntilStandsAt view p i f g old
    → IsUntilState i f g new × UntilStandsAt view (p + n) i f g new
until_moved {view} {i} {f} {g} {n} {seen} {p} {old} {new} moves before =
    let is = before.0 in
    let stands = before.1 in (
      record {
        interval = moves.interval ∙ is.interval;
        negated = moves.negated ∙ is.negated;
        left = moves.left_columns ∙ is.left;
        right = moves.right_columns ∙ is.right;
      },
      record {
        pulled = moves.pulled ∙ ap (λ q. q + n) stands.pulled;
        kept = rw (moves.times, moves.pulled, stands.kept, drop-drop);
        left_pushed = rw moves.lefts (omega (arith, length-drop seen old.lefts));
        right_pushed = rw moves.rights (omega (arith, length-drop seen old.rights));
        lefts = rw (moves.lefts, moves.taken)
            (exact_drop view (meaning (left_operand f)) old.ahead.taken seen old.lefts stands.lefts);
        rights = rw (moves.rights, moves.taken)
            (exact_drop view (meaning g) old.ahead.taken seen old.rights stands.rights);
        left = λ dom v covers near a tells. moves.left a v (stands.left dom v covers near a tells);
        follows = λ dom v covers near t a b dates long tells tells_right.
            moves.follows t a b v (stands.follows dom v covers near t a b dates long tells tells_right);
      },
    )

module _ (view : View) (rising : NeverFalls (times view.log)) (i : Interval) (f g : CoreForm) where
  -- a position is due where it is settled
  due_settled : (s : UntilOf) → s.ahead.interval ≡ i → s.ahead.pulled ≤ length view.log
      → s.times ≡ drop s.ahead.pulled (times view.log)
      → s.ahead.taken + length s.lefts ≡ reached view f → s.ahead.taken + length s.rights ≡ reached view g
      → due s ≡ settled (times view.log) (meaning (Until i f g)) s.ahead.pulled
  due_settled s is inside kept left right =
      let t : List ℕ = times view.log in
      until_due_settled s t
      (rw kept (omega (arith, length-drop s.ahead.pulled (times view.log), length-map view.log (λ p. p.ts))))
      (rw kept (times_stand t s.ahead.pulled)) rising
      ∙ rw (left, right, is) (sym (until_counted t rising i (meaning f) (meaning g) s.ahead.pulled))

  -- the next position of a state that stands is due where it is settled
  pub until_due_at : (p : ℕ) (s : UntilOf) → IsUntilState i f g s → UntilStandsAt view p i f g s → p ≤ length view.log
      → due s ≡ settled (times view.log) (meaning (Until i f g)) p
  until_due_at p s is stands inside = grind (arith, due_settled)

-- a state that took all that it can took the positions at which both operands are settled
pub until_all_taken : (view : View) (p : ℕ) (i : Interval) (f g : CoreForm) (s : UntilOf) → UntilStandsAt view p i f g s
    → took_all s ≡ true → p ≤ length view.log → s.ahead.taken ≡ min (reached view f) (reached view g)
until_all_taken view p i f g s stands all inside = grind (arith, common_steps, eqb-true, until_timed, reached_within)

-- what a state that stands tells of a near row
pub until_right : {view : View} {i : Interval} {f g : CoreForm} {p : ℕ} {s : UntilOf} → UntilStandsAt view p i f g s
    → (dom : List Value) (v : Valuation) → Covers view dom → view.near (fv (meaning g)) v ≡ true
    → Follows s (times view.log) (told view dom v f) (told view dom v g) v
until_right {view} {i} {f} {g} stands dom v covers near =
    stands.follows dom v covers near (times view.log) (told view dom v f) (told view dom v g) (λ j low. refl)
    (omega (arith, length-map view.log (λ p. p.ts))) (truths_tell view dom v f) (truths_tell view dom v g)

module _ {view : View} {point : TimePoint} {i : Interval} {f g : CoreForm} {ts : ℕ} {old new : UntilOf}
    {order : TableOf} {ls rs tables : List TableOf} (is : IsUntil i f g old order) (stands : UntilStands view i f g old)
    (left : News view point (left_operand f) ls) (right : News view point g rs)
    (takes : UntilTakes order.columns old ts ls rs new tables)
    (ts_is : ts ≡ point.ts) (rising : NeverFalls (times (longer view point).log))
    (passes : Passes (fv view.whole) view.near) (variables : HasVariablesOf g f) where
  begun : IsUntilState i f g takes.fed × UntilStandsAt (longer view point) (reached view (Until i f g)) i f g takes.fed
  begun =
      until_fed is.state stands.at (reached_within view (Until i f g)) left right takes.feeds ts_is rising passes
      variables

  moved : IsUntilState i f g new
      × UntilStandsAt (longer view point) (reached view (Until i f g) + length tables) i f g new
  moved = until_moved (pulled_moves takes.pulls) begun

  fed_inside : reached view (Until i f g) + length tables ≤ length (longer view point).log
  fed_inside =
      let before = reached_within view (Until i f g) in
      let more = log_more view point rising in
      omega (arith, until_timed begun.1 (omega arith), begun.1.pulled, takes.pulls.in_times)

  -- a position further on is due where it is settled
  due_further : (n : ℕ) → n ≤ length tables → due (until_past n takes.fed)
      ≡ settled (times (longer view point).log) (meaning (Until i f g)) (takes.fed.ahead.pulled + n)
  due_further n low =
      due_settled (longer view point) rising i f g (until_past n takes.fed) begun.0.interval
      (omega (arith, begun.1.pulled, fed_inside)) (rw (begun.1.kept, drop-drop)) begun.1.left_pushed
      begun.1.right_pushed

  settled_now : (j : ℕ) → j < reached view (Until i f g) + length tables
      → settled (times (longer view point).log) (meaning (Until i f g)) j ≡ true
  settled_now j low =
      elim (cases_lt j (reached view (Until i f g))) [
        | inl before ↦
            counted_settled (times (longer view point).log) (meaning (Until i f g)) j
            (omega (arith, reached_grows view point rising (Until i f g)))
        | inr after ↦
            let here : takes.fed.ahead.pulled + (j - reached view (Until i f g)) ≡ j =
            omega (arith, begun.1.pulled) in
            rw here at (sym (due_further (j - reached view (Until i f g)) (omega arith))
            ∙ takes.pulls.were_due (j - reached view (Until i f g)) (omega arith))
      ]

  count : reached view (Until i f g) + length tables ≡ reached (longer view point) (Until i f g)
  count = grind (arith, count_is, settled_now, due_further, due_on takes.pulls)

  tables_exact : AllExact (longer view point) (meaning (Until i f g)) takes.fed.ahead.pulled tables
  unfolding fv sat
  tables_exact =
      stand_exact (longer view point) (meaning (Until i f g)) order.columns takes.fed.ahead.pulled tables is.ordered
      takes.pulls.over
      (λ dom v covers near.
      rw begun.0.interval at (takes.pulls.rows (times (longer view point).log) (told (longer view point) dom v f)
      (told (longer view point) dom v g) v
      (until_right begun.1 dom v covers
      (near_right (fv view.whole) view.near passes (fv (meaning f)) (fv (meaning g)) v near)) rising
      (ap₂ all_among is.ordered begun.0.right ∙ joined_inside (fv (meaning f)) (fv (meaning g)) variables)
      (ap₂ all_among begun.0.right is.ordered ∙ right_inside (fv (meaning f)) (fv (meaning g)))))

  pub until_steps : IsUntil i f g new order × UntilStands (longer view point) i f g new
      × News view point (Until i f g) tables
  until_steps = (
    record { state = moved.0; ordered = is.ordered },
    record {
      at = rw count at moved.1;
      taken =
          until_all_taken (longer view point) (reached view (Until i f g) + length tables) i f g new moved.1 takes.all
          fed_inside;
    },
    record { count = count; exact = rw begun.1.pulled at tables_exact },
  )
