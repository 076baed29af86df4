-- A SINCE's state over one step.
use Rattle.std.proofs.Common.{◌≡◌, ℕ, ◌+◌, ◌<◌, ◌≤◌, Bool, true, false, ◌&&◌, nat_lt, List, [], ◌∷◌, ◌++◌, length, drop}
use Rattle.std.proofs.Common.{refl, sym, ap, ap₂, ◌∙◌, arith, length-append}
use Rattle.std.proofs.{lemmas.Bool.Decides.nat_tests, lemmas.List.length-drop}
use Rattle.mfotl_model.specs.{Counts.settled_count, FreeVariables.fv, Log.times, Regions.Passes, Settled.settled}
use Rattle.mfotl_model.specs.{Tables.TableOf, Tables.all_among, Times.NeverFalls}
use Rattle.mfotl_model.specs.Exact.{View, Covers, AllExact}
use Rattle.mfotl_model.specs.Satisfaction.{Valuation, sat, truth_at}
use Rattle.mfotl_model.specs.declared.{event.TimePoint.TimePoint, interval.Interval.Interval, value.Value.Value}
use Rattle.core_arranging.specs.{Windows.left_operand}
use Rattle.eval_since.specs.SinceView.{Follows, SinceOf}
use Rattle.monitorable.specs.CoreForms.{CoreForm, meaning, Since}
use Rattle.monitorable.specs.Soundness.{HasVariablesOf}
use Rattle.relations.specs.Pushed.{StandFrom, left_holds, turned}
use Rattle.monitor_nodes.proofs.{CountLemmas.count_since, GrowthLemmas.exact_more, GrowthLemmas.told}
use Rattle.monitor_nodes.proofs.ExactLemmas.{covers_before, dates_before, dates_new, exact_drop, exact_tell, log_more}
use Rattle.monitor_nodes.proofs.ExactLemmas.{reached_within, stand_exact, tells_before, truths_tell}
use Rattle.monitor_nodes.proofs.StampLemmas.{known_more, stamps_moved, stamps_pushed}
use Rattle.monitor_nodes.proofs.RegionLemmas.{joined_inside, near_part, near_right, right_inside}
use Rattle.monitor_nodes.specs.Feeding.{SinceFeeds, SincePulled, SinceTakes}
use Rattle.monitor_nodes.specs.{Operands.is_negated, PreviousFeeding.tables_used, Stamps.stamps}
use Rattle.monitor_nodes.specs.{Steps.News, Steps.longer}
use Rattle.monitor_nodes.specs.SinceNode.{IsSince, IsSinceState, SinceStands, SinceStandsAt}
use Rattle.monitor_nodes.specs.Views.{Dates, Tells, reached}

-- a NOT is settled as what it denies, and has its variables
pub reached_operand : (view : View) (f : CoreForm) → reached view (left_operand f) ≡ reached view f
unfolding settled_count settled
reached_operand view f = grind arith

pub free_operand : (f : CoreForm) → fv (meaning (left_operand f)) ≡ fv (meaning f)
unfolding fv
free_operand f = grind arith

-- a core is its left operand, turned round where that is negated
pub turned_sat : (view : View) (dom : List Value) (v : Valuation) (p : ℕ) (g : CoreForm)
    → turned (is_negated g) (sat view.log dom v p (meaning (left_operand g))) ≡ sat view.log dom v p (meaning g)
unfolding sat
turned_sat view dom v p g = grind arith

-- the left operand's tables hold what a list tells, turned round where it is negated
pub left_tell : (view : View) (f : CoreForm) (dom : List Value) (v : Valuation) (a : List Bool) (i : ℕ)
    (tables : List TableOf)
    → Covers view dom → view.near (fv (meaning f)) v ≡ true → Tells view dom v f a → i + length tables ≤ reached view f
    → AllExact view (meaning (left_operand f)) i tables
    → StandFrom (λ k table. left_holds (is_negated f) table v ≡ truth_at a k) i tables
left_tell view f dom v a i [] covers near tells most all = tt
left_tell view f dom v a i (table ∷ tables) covers near tells most all = (
  ap (turned (is_negated f)) (all.0.rows dom v covers (rw (free_operand f) near)) ∙ turned_sat view dom v i f
      ∙ sym (tells i (omega arith)),
  left_tell view f dom v a (i + 1) tables covers near tells (omega arith) all.1,
)

-- so do its new tables
pub left_news : {view : View} {point : TimePoint} {ls : List TableOf} (f : CoreForm)
    → News view point (left_operand f) ls → (dom : List Value) (v : Valuation) (a : List Bool)
    → Covers (longer view point) dom → view.near (fv (meaning f)) v ≡ true → Tells (longer view point) dom v f a
    → StandFrom (λ k table. left_holds (is_negated f) table v ≡ truth_at a k) (reached view f) ls
left_news {view} {point} {ls} f left dom v a covers near tells =
    left_tell (longer view point) f dom v a (reached view f) ls covers near tells
    (omega (arith, left.count, reached_operand view f, reached_operand (longer view point) f))
    (rw (reached_operand view f) at left.exact)

module _ {view : View} {point : TimePoint} {i : Interval} {f g : CoreForm} {p ts : ℕ} {old fed : SinceOf}
    {ls rs : List TableOf} (is : IsSinceState i f g old) (stands : SinceStandsAt view p i f g old)
    (left : News view point (left_operand f) ls) (right : News view point g rs) (feeds : SinceFeeds old ts ls rs fed)
    (ts_is : ts ≡ point.ts) (rising : NeverFalls (times (longer view point).log))
    (passes : Passes (fv view.whole) view.near) (variables : HasVariablesOf g f) where
  fed_is : fed
      ≡ record old { newest = ts; times = old.times ++ ts ∷ []; lefts = old.lefts ++ ls; rights = old.rights ++ rs }
  fed_is = rw (feeds.rights.pushed, feeds.lefts.pushed, feeds.time)

  fed_follows : (dom : List Value) (v : Valuation) → Covers (longer view point) dom
      → view.near (fv (meaning g)) v ≡ true → (t : List ℕ) (a b : List Bool) → Dates (longer view point) t
      → Tells (longer view point) dom v f a → Tells (longer view point) dom v g b → Follows fed t a b v
  fed_follows dom v covers near t a b dates tells tells_right =
      feeds.rights.follows t a b v
      (feeds.lefts.follows t a b v
      (feeds.time_follows t a b v
      (stands.follows dom v (covers_before view point rising dom covers) near t a b
      (dates_before view point rising t dates)
      (tells_before view point rising dom v f a tells) (tells_before view point rising dom v g b tells_right))
      (rw (ts_is, stands.timed) (dates_new view point rising t dates)))
      (rw (feeds.time, is.negated, stands.left_pushed)
      (left_news f left dom v a covers
      (near_part (fv view.whole) view.near passes (fv (meaning f)) (fv (meaning g)) variables v near) tells)))
      (rw (feeds.lefts.pushed, feeds.time, stands.right_pushed)
      (exact_tell (longer view point) g dom v b (reached view g) rs covers near tells_right (omega arith)
      right.exact))

  -- what was pushed stands where it did, for the longer log
  pub since_fed : IsSinceState i f g fed × SinceStandsAt (longer view point) p i f g fed
  since_fed =
      rw fed_is (
        record { interval = is.interval; negated = is.negated; left = is.left; right = is.right },
        record {
          pulled = stands.pulled;
          timed = omega (arith, length-append old.times (ts ∷ []), log_more view point rising);
          known = grind (arith, stamps_pushed, known_more);
          left_pushed = omega (
            arith,
            length-append old.lefts ls,
            reached_operand view f,
            reached_operand (longer view point) f,
          );
          right_pushed = omega (arith, length-append old.rights rs);
          lefts = search (exact_more, reached_operand);
          rights = exact_more right rising old.pulled old.rights stands.right_pushed stands.rights;
          follows = λ dom v covers near t a b dates tells tells_right.
              rw fed_is at (fed_follows dom v covers near t a b dates tells tells_right);
        },
      )

-- n positions were pulled, and the state is right where it was
pub record SinceMoves (n : ℕ) (old new : SinceOf) : Type 0 where
  pub pulled : new.pulled ≡ old.pulled + n
  pub negated : new.negated ≡ old.negated
  pub interval : new.window.interval ≡ old.window.interval
  pub left : new.window.left ≡ old.window.left
  pub right : new.window.right ≡ old.window.right
  pub times : new.times ≡ drop n old.times
  pub known : stamps new.pulled new.window.last new.times
      ≡ drop (tables_used old.pulled n) (stamps old.pulled old.window.last old.times)
  pub lefts : new.lefts ≡ drop n old.lefts
  pub rights : new.rights ≡ drop n old.rights
  pub in_times : n ≤ length old.times
  pub in_lefts : n ≤ length old.lefts
  pub in_rights : n ≤ length old.rights
  pub follows : (t : List ℕ) (a b : List Bool) (v : Valuation) → Follows old t a b v → Follows new t a b v

pulled_moves : {columns : List ℕ} {old new : SinceOf} {tables : List TableOf} → SincePulled columns old new tables
    → SinceMoves (length tables) old new
pulled_moves pulls = assumption

-- the rest stands as many positions further
pub since_moved : {view : View} {i : Interval} {f g : CoreForm} {n p : ℕ} {old new : SinceOf} → SinceMoves n old new
    → IsSinceState i f g old × SinceStandsAt view p i f g old
    → IsSinceState i f g new × SinceStandsAt view (p + n) i f g new
since_moved {view} {i} {f} {g} {n} {p} {old} {new} moves before =
    let is = before.0 in
    let stands = before.1 in (
      record {
        interval = moves.interval ∙ is.interval;
        negated = moves.negated ∙ is.negated;
        left = moves.left ∙ is.left;
        right = moves.right ∙ is.right;
      },
      record {
        pulled = moves.pulled ∙ ap (λ q. q + n) stands.pulled;
        timed = rw moves.times (omega (arith, length-drop n old.times));
        known =
            stamps_moved old.pulled n new.pulled (times view.log) (stamps old.pulled old.window.last old.times)
            (stamps new.pulled new.window.last new.times) moves.pulled stands.known moves.known;
        left_pushed = rw moves.lefts (omega (arith, length-drop n old.lefts));
        right_pushed = rw moves.rights (omega (arith, length-drop n old.rights));
        lefts = rw (moves.lefts, moves.pulled)
            (exact_drop view (meaning (left_operand f)) old.pulled n old.lefts stands.lefts);
        rights = rw (moves.rights, moves.pulled) (exact_drop view (meaning g) old.pulled n old.rights stands.rights);
        follows = λ dom v covers near t a b dates tells tells_right.
            moves.follows t a b v (stands.follows dom v covers near t a b dates tells tells_right);
      },
    )

-- what a state that stands tells of a near row
pub since_right : {view : View} {i : Interval} {f g : CoreForm} {p : ℕ} {s : SinceOf} → SinceStandsAt view p i f g s
    → (dom : List Value) (v : Valuation) → Covers view dom → view.near (fv (meaning g)) v ≡ true
    → Follows s (times view.log) (told view dom v f) (told view dom v g) v
since_right {view} {i} {f} {g} stands dom v covers near =
    stands.follows dom v covers near (times view.log) (told view dom v f) (told view dom v g) (λ j low. refl)
    (truths_tell view dom v f) (truths_tell view dom v g)

-- where none is due, a time or an operand's table is missing
none_due : (n m k : ℕ) → (nat_lt 0 n && nat_lt 0 m && nat_lt 0 k) ≡ false → 0 < n → 0 < m → 0 < k → ⊥
none_due n m k ends times lefts rights = grind (arith, nat_tests)

module _ {view : View} {point : TimePoint} {i : Interval} {f g : CoreForm} {ts : ℕ} {old new : SinceOf}
    {order : TableOf} {ls rs tables : List TableOf} (is : IsSince i f g old order) (stands : SinceStands view i f g old)
    (left : News view point (left_operand f) ls) (right : News view point g rs)
    (takes : SinceTakes order.columns old ts ls rs new tables)
    (ts_is : ts ≡ point.ts) (rising : NeverFalls (times (longer view point).log))
    (passes : Passes (fv view.whole) view.near) (variables : HasVariablesOf g f) where
  begun : IsSinceState i f g takes.fed × SinceStandsAt (longer view point) (reached view (Since i f g)) i f g takes.fed
  begun = since_fed is.state stands left right takes.feeds ts_is rising passes variables

  moved : IsSinceState i f g new
      × SinceStandsAt (longer view point) (reached view (Since i f g) + length tables) i f g new
  moved = since_moved (pulled_moves takes.pulls) begun

  count : reached view (Since i f g) + length tables ≡ reached (longer view point) (Since i f g)
  count =
      let at = moved.1 in
      count_since (times (longer view point).log) rising i (meaning f) (meaning g)
      (reached view (Since i f g) + length tables) (omega arith) (omega arith)
      (λ low high.
      none_due (length new.times) (length new.lefts) (length new.rights) takes.ends
      (omega (arith, reached_within (longer view point) f)) (omega arith) (omega arith))

  tables_exact : AllExact (longer view point) (meaning (Since i f g)) takes.fed.pulled tables
  unfolding fv sat
  tables_exact =
      stand_exact (longer view point) (meaning (Since i f g)) order.columns takes.fed.pulled tables is.ordered
      takes.pulls.over
      (λ dom v covers near.
      rw begun.0.interval at (takes.pulls.rows (times (longer view point).log) (told (longer view point) dom v f)
      (told (longer view point) dom v g) v
      (since_right begun.1 dom v covers
      (near_right (fv view.whole) view.near passes (fv (meaning f)) (fv (meaning g)) v near))
      (ap₂ all_among is.ordered begun.0.right ∙ joined_inside (fv (meaning f)) (fv (meaning g)) variables)
      (ap₂ all_among begun.0.right is.ordered ∙ right_inside (fv (meaning f)) (fv (meaning g)))))

  pub since_steps : IsSince i f g new order × SinceStands (longer view point) i f g new
      × News view point (Since i f g) tables
  since_steps = (
    record { state = moved.0; ordered = is.ordered },
    rw count at moved.1,
    record { count = count; exact = rw begun.1.pulled at tables_exact },
  )
