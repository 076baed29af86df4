-- A PREVIOUS's state over one step.
use Rattle.std.proofs.Common.{◌≡◌, ℕ, ◌+◌, ◌-◌, ◌<◌, Bool, true, false, ◌&&◌, ◌||◌, nat_eq, nat_lt, List, [], ◌∷◌, ◌++◌}
use Rattle.std.proofs.Common.{length, drop, refl, ◌∙◌, arith, length-append}
use Rattle.std.proofs.{lemmas.Bool.Decides.nat_tests, lemmas.List.length-drop, lemmas.List.length-map}
use Rattle.mfotl_model.specs.Exact.{View, Covers, AllExact}
use Rattle.mfotl_model.specs.{FreeVariables.fv, Log.times, Satisfaction.Valuation, Satisfaction.sat, Tables.TableOf}
use Rattle.mfotl_model.specs.{Times.NeverFalls}
use Rattle.mfotl_model.specs.declared.{event.TimePoint.TimePoint, interval.Interval.Interval, value.Value.Value}
use Rattle.eval_since.specs.PreviousView.{FollowsPrevious, PrevOf}
use Rattle.monitorable.specs.CoreForms.{CoreForm, meaning, Previous}
use Rattle.monitor_nodes.proofs.{CountLemmas.count_previous, GrowthLemmas.exact_more, GrowthLemmas.told}
use Rattle.monitor_nodes.proofs.ExactLemmas.{covers_before, dates_before, dates_new, exact_drop, exact_tell, log_more}
use Rattle.monitor_nodes.proofs.ExactLemmas.{stand_exact, tells_before, truths_tell}
use Rattle.monitor_nodes.proofs.StampLemmas.{known_more, stamps_moved, stamps_pushed}
use Rattle.monitor_nodes.specs.{PreviousFeeding.PreviousTakes, PreviousFeeding.tables_used, Stands.IsPrevious}
use Rattle.monitor_nodes.specs.{Stands.PreviousStands, Stamps.stamps, Steps.News, Steps.longer}
use Rattle.monitor_nodes.specs.Views.{Dates, Tells, reached}

-- where none is due, no time is kept, or a table is missing
none_due : (p n m : ℕ) → (nat_lt 0 n && (nat_eq p 0 || nat_lt 0 m)) ≡ false → 0 < n → (0 < p → 0 < m) → ⊥
none_due p n m ends some more = grind (arith, nat_tests)

module _ {view : View} {point : TimePoint} {i : Interval} {f : CoreForm} {old new : PrevOf} {ts : ℕ}
    {operand tables : List TableOf} (news : News view point f operand) (is : IsPrevious i f old)
    (stands : PreviousStands view i f old) (takes : PreviousTakes old ts operand new tables) (ts_is : ts ≡ point.ts)
    (rising : NeverFalls (times (longer view point).log)) where
  fed_is : takes.fed ≡ record old { times = old.times ++ ts ∷ []; tables = old.tables ++ operand }
  fed_is = rw (takes.pushes.pushed, takes.time)

  fed_interval : takes.fed.interval ≡ i
  fed_interval = rw fed_is is.interval

  fed_follows : (dom : List Value) (v : Valuation) → Covers (longer view point) dom
      → view.near (fv (meaning f)) v ≡ true → (t : List ℕ) (a : List Bool) → Dates (longer view point) t
      → Tells (longer view point) dom v f a → FollowsPrevious takes.fed t a v
  fed_follows dom v covers near t a dates tells =
      takes.pushes.follows t a v
      (takes.time_follows t a v
      (stands.follows dom v (covers_before view point rising dom covers) near t a
      (dates_before view point rising t dates) (tells_before view point rising dom v f a tells))
      (rw (ts_is, stands.timed) (dates_new view point rising t dates)))
      (rw (takes.time, stands.pushed)
      (exact_tell (longer view point) f dom v a (reached view f) operand covers near tells (omega arith) news.exact))

  fed_known : stamps takes.fed.pulled takes.fed.last takes.fed.times
      ≡ drop (takes.fed.pulled - 1) (times (longer view point).log)
  fed_known = grind (arith, fed_is, stamps_pushed, known_more)

  -- what was pushed
  fed_timed : takes.fed.pulled + length takes.fed.times ≡ length (longer view point).log
  fed_timed = rw fed_is (omega (arith, length-append old.times (ts ∷ []), log_more view point rising))

  fed_count : takes.fed.pulled - 1 + length takes.fed.tables ≡ reached (longer view point) f
  fed_count = rw fed_is (omega (arith, length-append old.tables operand))

  fed_exact : AllExact (longer view point) (meaning f) (takes.fed.pulled - 1) takes.fed.tables
  fed_exact = rw fed_is (exact_more news rising (old.pulled - 1) old.tables stands.pushed stands.tables)

  -- what was pushed and not pulled
  new_timed : new.pulled + length new.times ≡ length (longer view point).log
  new_timed = rw takes.pulls.times (omega (arith, length-drop (length tables) takes.fed.times, fed_timed))

  new_count : new.pulled - 1 + length new.tables ≡ reached (longer view point) f
  new_count = grind (arith, length-drop, fed_count)

  all_pulled : new.pulled ≡ reached (longer view point) (Previous i f)
  all_pulled =
      let size = length-map (longer view point).log (λ p. p.ts) in
      count_previous (times (longer view point).log) rising i (meaning f) new.pulled (omega (arith, new_timed, size))
      (omega (arith, new_count))
      (λ low high.
      none_due new.pulled (length new.times) (length new.tables) takes.ends (omega (arith, new_timed, size))
      (λ some. omega (arith, new_count, high some)))

  tables_exact : AllExact (longer view point) (meaning (Previous i f)) takes.fed.pulled tables
  unfolding fv sat
  tables_exact =
      stand_exact (longer view point) (meaning (Previous i f)) takes.fed.columns takes.fed.pulled tables
      (rw fed_is is.columns) takes.pulls.over
      (λ dom v covers near.
      rw fed_interval at (takes.pulls.rows (times (longer view point).log) (told (longer view point) dom v f) v
      (fed_follows dom v covers near (times (longer view point).log) (told (longer view point) dom v f)
      (λ j low. refl) (truths_tell (longer view point) dom v f))))

  pub previous_steps : IsPrevious i f new × PreviousStands (longer view point) i f new
      × News view point (Previous i f) tables
  previous_steps =
      let at : new.pulled - 1 ≡ takes.fed.pulled - 1 + tables_used takes.fed.pulled (length tables) = omega arith in
      let begun : takes.fed.pulled ≡ reached view (Previous i f) = rw fed_is stands.pulled in (
        record { interval = takes.pulls.interval ∙ fed_interval; columns = cc },
        record {
          pulled = all_pulled;
          timed = new_timed;
          known =
              stamps_moved takes.fed.pulled (length tables) new.pulled (times (longer view point).log)
              (stamps takes.fed.pulled takes.fed.last takes.fed.times) (stamps new.pulled new.last new.times)
              takes.pulls.pulled fed_known takes.pulls.known;
          pushed = new_count;
          tables =
              rw (takes.pulls.kept, at)
              (exact_drop (longer view point) (meaning f) (takes.fed.pulled - 1)
              (tables_used takes.fed.pulled (length tables)) takes.fed.tables fed_exact);
          follows = λ dom v covers near t a dates tells.
              takes.pulls.follows t a v (fed_follows dom v covers near t a dates tells);
        },
        record { count = omega (arith, all_pulled); exact = rw begun at tables_exact },
      )
