-- A NEXT's state over one step.
use Rattle.std.proofs.Common.{◌≡◌, ℕ, ◌+◌, ◌<◌, ◌≤◌, Bool, true, false, ◌&&◌, cond, nat_lt, List, [], ◌∷◌, ◌++◌, length}
use Rattle.std.proofs.Common.{drop, refl, ◌∙◌, arith, length-append, append-nil}
use Rattle.std.proofs.lemmas.List.{drop-drop, length-drop, length-map}
use Rattle.mfotl_model.specs.Exact.{View, Covers, AllExact}
use Rattle.mfotl_model.specs.{FreeVariables.fv, Log.times, Satisfaction.Valuation, Satisfaction.sat, Tables.TableOf}
use Rattle.mfotl_model.specs.{Times.NeverFalls}
use Rattle.mfotl_model.specs.declared.{event.TimePoint.TimePoint, interval.Interval.Interval, value.Value.Value}
use Rattle.eval_until.specs.NextView.{FollowsNext, NextOf, tables_pushed}
use Rattle.monitorable.specs.CoreForms.{CoreForm, meaning, Next}
use Rattle.monitor_nodes.proofs.{CountLemmas.count_next, GrowthLemmas.exact_more, GrowthLemmas.told}
use Rattle.monitor_nodes.proofs.{NextLemmas.pushed_count, StampLemmas.from_more}
use Rattle.monitor_nodes.proofs.ExactLemmas.{covers_before, dates_before, dates_new, exact_drop, exact_tell, log_more}
use Rattle.monitor_nodes.proofs.ExactLemmas.{stand_exact, tells_before, truths_tell}
use Rattle.monitor_nodes.specs.NextFeeding.{BeginsBare, NextTakes, next_fed, next_kept, next_started}
use Rattle.monitor_nodes.specs.{Stands.IsNext, Stands.NextStands, Steps.News, Steps.longer}
use Rattle.monitor_nodes.specs.Views.{Dates, Tells, reached}
use Rattle.std.proofs.lemmas.Grind.{common_steps}

-- the tables that are kept are exact from the position after the pulled ones on
kept_exact : {view : View} {point : TimePoint} {f : CoreForm} (tables : List TableOf) → News view point f tables
    → NeverFalls (times (longer view point).log) → (b : Bool) (p : ℕ) (xs : List TableOf)
    → (b ≡ false → (p ≡ 0) × (length xs ≡ 0)) → cond b (p + 1 + length xs) 0 ≡ reached view f
    → AllExact view (meaning f) (p + 1) xs → AllExact (longer view point) (meaning f) (p + 1) (xs ++ next_kept b tables)
kept_exact tables news rising b p xs bare pushed exact = grind (arith, common_steps, exact_more)

-- before the first table nothing is kept
bare_more : (b : Bool) (p : ℕ) (xs tables : List TableOf) → (b ≡ false → (p ≡ 0) × (length xs ≡ 0))
    → next_started b tables ≡ false → (p ≡ 0) × (length (xs ++ next_kept b tables) ≡ 0)
bare_more b p xs tables bare h = grind (arith, append-nil)

-- the operand's tables go further than the positions pulled
pulled_within : (b : Bool) (p n m : ℕ) → cond b (p + 1 + n) 0 ≡ m → (b ≡ false → (p ≡ 0) × (n ≡ 0)) → 0 < p → p + 1 ≤ m
pulled_within b p n m is bare some = grind arith

-- where none is due, too few times are kept, or the table of the next position is missing
none_due : (b : Bool) (p n m k : ℕ) → cond b (p + 1 + n) 0 ≡ m → (nat_lt 1 k && (b && nat_lt 0 n)) ≡ false → 1 < k
    → p + 1 < m → ⊥
none_due b p n m k is ends more low = grind arith

module _ {view : View} {point : TimePoint} {i : Interval} {f : CoreForm} {old new : NextOf} {ts : ℕ}
    {operand tables : List TableOf} (news : News view point f operand) (is : IsNext i f old)
    (stands : NextStands view i f old) (takes : NextTakes old ts operand new tables) (ts_is : ts ≡ point.ts)
    (rising : NeverFalls (times (longer view point).log)) where
  fed_is : takes.fed ≡ next_fed (record old { times = old.times ++ ts ∷ [] }) operand
  fed_is = rw (takes.pushes.pushed, takes.time)

  fed_interval : takes.fed.interval ≡ i
  fed_interval = rw fed_is is.interval

  timed_bare : BeginsBare takes.timed
  timed_bare = rw takes.time stands.bare

  fed_follows : (dom : List Value) (v : Valuation) → Covers (longer view point) dom
      → view.near (fv (meaning f)) v ≡ true → (t : List ℕ) (a : List Bool) → Dates (longer view point) t
      → length (longer view point).log ≤ length t → Tells (longer view point) dom v f a → FollowsNext takes.fed t a v
  fed_follows dom v covers near t a dates long tells =
      takes.pushes.follows timed_bare t a v
      (takes.time_follows t a v
      (stands.follows dom v (covers_before view point rising dom covers) near t a
      (dates_before view point rising t dates) (omega (arith, log_more view point rising))
      (tells_before view point rising dom v f a tells))
      (rw (ts_is, stands.timed) (dates_new view point rising t dates)) (omega (arith, log_more view point rising)))
      (rw (takes.time, stands.pushed)
      (exact_tell (longer view point) f dom v a (reached view f) operand covers near tells (omega arith) news.exact))

  -- what was pushed
  fed_timed : takes.fed.pulled + length takes.fed.times ≡ length (longer view point).log
  fed_timed = rw fed_is (omega (arith, length-append old.times (ts ∷ []), log_more view point rising))

  fed_times : takes.fed.times ≡ drop takes.fed.pulled (times (longer view point).log)
  fed_times = rw fed_is (from_more view point rising old.pulled ts old.times ts_is (omega arith) stands.kept)

  fed_pushed : tables_pushed takes.fed ≡ reached (longer view point) f
  fed_pushed = cc (fed_is, pushed_count old.started old.pulled old.tables operand stands.bare)

  fed_bare : BeginsBare takes.fed
  fed_bare = rw fed_is (bare_more old.started old.pulled old.tables operand stands.bare)

  fed_exact : AllExact (longer view point) (meaning f) (takes.fed.pulled + 1) takes.fed.tables
  fed_exact = search (fed_is, kept_exact)

  -- what was pushed and not pulled
  new_timed : new.pulled + length new.times ≡ length (longer view point).log
  new_timed = rw takes.pulls.times (omega (arith, length-drop (length tables) takes.fed.times, fed_timed))

  new_pushed : tables_pushed new ≡ reached (longer view point) f
  new_pushed = grind (arith, length-drop, fed_pushed)

  new_bare : BeginsBare new
  new_bare h = grind (arith, fed_bare, length-drop)

  all_pulled : new.pulled ≡ reached (longer view point) (Next i f)
  all_pulled =
      count_next (times (longer view point).log) rising i (meaning f) new.pulled
      (pulled_within new.started new.pulled (length new.tables) (reached (longer view point) f) new_pushed new_bare)
      (λ low high.
      none_due new.started new.pulled (length new.tables) (reached (longer view point) f) (length new.times) new_pushed
      takes.ends (omega (arith, new_timed, length-map (longer view point).log (λ p. p.ts))) high)

  tables_exact : AllExact (longer view point) (meaning (Next i f)) takes.fed.pulled tables
  unfolding fv sat
  tables_exact =
      stand_exact (longer view point) (meaning (Next i f)) takes.fed.columns takes.fed.pulled tables
      (rw fed_is is.columns) takes.pulls.over
      (λ dom v covers near.
      rw fed_interval at (takes.pulls.rows (times (longer view point).log) (told (longer view point) dom v f) v
      (fed_follows dom v covers near (times (longer view point).log) (told (longer view point) dom v f)
      (λ j low. refl) (omega (arith, length-map (longer view point).log (λ p. p.ts)))
      (truths_tell (longer view point) dom v f))))

  pub next_steps : IsNext i f new × NextStands (longer view point) i f new × News view point (Next i f) tables
  next_steps =
      let at : new.pulled + 1 ≡ takes.fed.pulled + 1 + length tables = omega arith in
      let begun : takes.fed.pulled ≡ reached view (Next i f) = rw fed_is stands.pulled in (
        record { interval = takes.pulls.interval ∙ fed_interval; columns = cc },
        record {
          pulled = all_pulled;
          timed = new_timed;
          kept = rw (takes.pulls.times, takes.pulls.pulled, fed_times, drop-drop);
          pushed = new_pushed;
          bare = new_bare;
          tables =
              rw (takes.pulls.kept, at)
              (exact_drop (longer view point) (meaning f) (takes.fed.pulled + 1) (length tables) takes.fed.tables
              fed_exact);
          follows = λ dom v covers near t a dates long tells.
              takes.pulls.follows t a v (fed_follows dom v covers near t a dates long tells);
        },
        record { count = omega (arith, all_pulled); exact = rw begun at tables_exact },
      )
