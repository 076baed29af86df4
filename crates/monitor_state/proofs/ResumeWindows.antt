-- A SINCE or an UNTIL that is resumed with data that stands for a log does.
use Rattle.std.proofs.Common.{◌≡◌, ℕ, ◌+◌, ◌-◌, ◌<◌, ◌≤◌, Bool, true, min, nat_le, List, length, map, drop, sym, subst}
use Rattle.std.proofs.Common.{ap, ap₂, ◌∙◌, arith, slice_index}
use Rattle.std.proofs.lemmas.List.{get_or-drop}
use Rattle.mfotl_model.specs.{Exact.Covers, Exact.View, FreeVariables.fv, Log.times}
use Rattle.mfotl_model.specs.Satisfaction.{Valuation, time_at, truth_at}
use Rattle.mfotl_model.specs.declared.{interval.Interval.Interval, value.Value.Value}
use Rattle.eval_since.proofs.RecalledLemmas.{recalls_is}
use Rattle.eval_since.specs.{Recalled.recalls, SinceBefore.since_before, SinceData.FollowsData}
use Rattle.row_times.specs.{KeptTimes.times_for}
use Rattle.eval_since.specs.{SinceData.setting_of, SinceView.SinceOf}
use Rattle.row_times.specs.{Times.reaches}
use Rattle.until_rows.specs.{Entries.met_by, Recalled.entries_kept, Recalled.starts_kept, Starts.start_of}
use Rattle.eval_until.specs.{UntilBefore.until_before, UntilData.setting_of as until_setting_of, UntilData.until_of}
use Rattle.eval_until.specs.UntilView.{Follows as FollowsUntil, FollowsLeft, UntilOf, took_all}
use Rattle.monitorable.specs.CoreForms.{CoreForm, meaning, Since, Until}
use Rattle.relations.specs.{KeptRows.list_for, Pushed.StandFrom, Pushed.left_holds}
use Rattle.monitor_nodes.proofs.{ExactLemmas.exact_tell, ExactLemmas.reached_within, RegionLemmas.near_part}
use Rattle.monitor_nodes.proofs.{SinceSteps.free_operand, SinceSteps.left_tell}
use Rattle.monitor_state.proofs.{MarkLemmas.met_is}
use Rattle.monitor_state.proofs.ResumeTimes.{known_from, last_dates, rest_dates, rest_is, rest_size}
use Rattle.monitor_state.specs.Resuming.{Reach, SinceResumed, SuitsEvaluation, UntilResumed}
use Rattle.monitor_nodes.specs.{SinceNode.IsSinceState, SinceNode.SinceStandsAt, Stamps.stamps, UntilNode.IsUntilState}
use Rattle.monitor_nodes.specs.{UntilNode.UntilStandsAt}
use Rattle.monitor_state.specs.{StateRules.SinceKeeps, StateRules.UntilKeeps, StateStands.SinceDataStands}
use Rattle.monitor_state.specs.{StateStands.UntilDataStands}
use Rattle.monitor_state.specs.StateTimes.{KeptTimes, time_before, times_from}
use Rattle.monitor_nodes.specs.Views.{Dates, Tells, reached}
use Rattle.monitor_state.specs.declared.{state.SinceKept.SinceKept, state.UntilKept.UntilKept}

module _ (k : KeptTimes) (i : Interval) (f g : CoreForm) (old new : SinceOf) (d : SinceKept)
    (is : IsSinceState i f g old)
    (keeps : SinceKeeps k i f g d) (res : SinceResumed k old d.kept new) where
  pub since_resumed_is : IsSinceState i f g new
  since_resumed_is = grind arith

  module _ (view : View) (whole : CoreForm) (p : ℕ) (suits : SuitsEvaluation view whole (Since i f g))
      (reach : Reach view k (d.kept.pulled - 1)) (stands : SinceDataStands view p i f g d.kept) where
    in_log : d.kept.pulled ≤ length view.log
    in_log = omega (arith, reached_within view f)

    from_first : k.first ≤ d.kept.pulled
    from_first = let low : k.first ≤ d.kept.pulled - 1 = reach.first in omega arith

    module _ (dom : List Value) (v : Valuation) (covers : Covers view dom)
        (near : view.near (fv (meaning g)) v ≡ true) (t : List ℕ) (a b : List Bool) (dates : Dates view t)
        (tells : Tells view dom v f a) (tells_right : Tells view dom v g b) where
      recalled : (x : ℕ) → (0 < d.kept.pulled → time_before k d.kept.pulled ≤ x)
          → recalls old.window.interval d.kept.rows.items x (map v old.window.right)
          ≡ since_before old.window.interval t a b d.kept.pulled x
      recalled x low =
          recalls_is old.window.interval d.kept.rows.items x (map v old.window.right) keeps.rule.rows
          ∙ ap₂ (λ c cols. reaches c (times_for d.kept.rows.items (map v cols)) x) is.interval is.right
          ∙ stands.window dom v covers near t a b dates tells tells_right x (λ some.
          subst (λ y. y ≤ x) (last_dates view k d.kept.pulled reach.stamps reach.first in_log t dates some) (low some))
          ∙ ap (λ c. since_before c t a b d.kept.pulled x) (sym is.interval)

      data_follows : FollowsData (setting_of old) (time_before k d.kept.pulled) (times_from k d.kept.pulled) d.kept t a
          b v
      data_follows =
          let lefts : d.kept.pulled + length d.kept.lefts.items ≡ reached view f = stands.left_pushed in
          let rights : d.kept.pulled + length d.kept.rights.items ≡ reached view g = stands.right_pushed in
          record {
            last = λ some. last_dates view k d.kept.pulled reach.stamps reach.first in_log t dates some;
            times = rest_dates view k d.kept.pulled reach.stamps from_first t dates;
            lefts =
                subst (λ n. StandFrom (λ j table. left_holds n table v ≡ truth_at a j) d.kept.pulled d.kept.lefts.items)
                (sym is.negated)
                (left_tell view f dom v a d.kept.pulled d.kept.lefts.items covers
                (near_part (fv view.whole) view.near suits.passes (fv (meaning f)) (fv (meaning g)) suits.sound.0 v
                near)
                tells (omega arith) stands.lefts);
            rights =
                exact_tell view g dom v b d.kept.pulled d.kept.rights.items covers near tells_right (omega arith)
                stands.rights;
            window = recalled;
          }

    pub since_resumed_stands : SinceStandsAt view p i f g new
    since_resumed_stands =
        let low : k.first ≤ d.kept.pulled = from_first in
        let pulled : new.pulled ≡ d.kept.pulled = res.pulled in
        record {
          pulled = res.pulled ∙ stands.pulled;
          timed = omega (arith, in_log, ap length res.times ∙ rest_size view k d.kept.pulled reach.stamps low);
          known =
              ap (λ n. stamps n new.window.last new.times) res.pulled
              ∙ known_from view k d.kept.pulled reach.stamps new.window.last new.times reach.first in_log res.last
              res.times
              ∙ ap (λ n. drop (n - 1) (times view.log)) (sym res.pulled);
          left_pushed = ap₂ (λ n ts. n + length ts) res.pulled res.lefts ∙ stands.left_pushed;
          right_pushed = ap₂ (λ n ts. n + length ts) res.pulled res.rights ∙ stands.right_pushed;
          lefts = rw (res.pulled, res.lefts) stands.lefts;
          rights = rw (res.pulled, res.rights) stands.rights;
          follows = λ dom v covers near t a b dates tells tells_right.
              res.follows t a b v (data_follows dom v covers near t a b dates tells tells_right);
        }

module _ (k : KeptTimes) (i : Interval) (f g : CoreForm) (old new : UntilOf) (d : UntilKept)
    (is : IsUntilState i f g old)
    (keeps : UntilKeeps k i f g d) (res : UntilResumed k old d.kept new) where
  pub until_resumed_is : IsUntilState i f g new
  until_resumed_is = grind arith

  module _ (view : View) (whole : CoreForm) (p : ℕ) (suits : SuitsEvaluation view whole (Until i f g))
      (reach : Reach view k d.kept.pulled) (stands : UntilDataStands view p i f g d.kept) where
    abbrev described : UntilOf
    described = until_of (until_setting_of old) (times_from k d.kept.pulled) d.kept

    taken_in_log : d.kept.taken ≤ length view.log
    taken_in_log = omega (arith, reached_within view f)

    left_follows : (dom : List Value) (v : Valuation) → Covers view dom → view.near (fv (meaning f)) v ≡ true
        → (a : List Bool) → Tells view dom v f a → FollowsLeft described a v
    left_follows dom v covers near a tells =
        let lefts : d.kept.taken + length d.kept.lefts.items ≡ reached view f = stands.left_pushed in
        record {
          lefts =
              subst (λ n. StandFrom (λ j table. left_holds n table v ≡ truth_at a j) d.kept.taken d.kept.lefts.items)
              (sym is.negated)
              (left_tell view f dom v a d.kept.taken d.kept.lefts.items covers near tells (omega arith) stands.lefts);
          runs = λ j low.
              ap₂ (λ n cols. nat_le (start_of n d.kept.taken (starts_kept d.kept.starts.items) (map v cols)) j)
              is.negated is.left
              ∙ stands.runs dom v covers (ap (λ cols. view.near cols v) (free_operand f) ∙ near) a tells j low;
        }

    known : (t : List ℕ) → Dates view t → (q : ℕ) → d.kept.pulled ≤ q → q < d.kept.taken
        → slice_index (times_from k d.kept.pulled) (q - d.kept.pulled) ≡ time_at t q
    known t dates q behind below = grind (arith, taken_in_log, slice_index, rest_is, get_or-drop)

    data_follows_until : (dom : List Value) (v : Valuation) → Covers view dom → view.near (fv (meaning g)) v ≡ true
        → (t : List ℕ) (a b : List Bool) → Dates view t → length view.log ≤ length t → Tells view dom v f a
        → Tells view dom v g b → FollowsUntil described t a b v
    data_follows_until dom v covers near t a b dates long tells tells_right =
        let rights : d.kept.taken + length d.kept.rights.items ≡ reached view g = stands.right_pushed in
        let inside : d.kept.pulled ≤ length view.log = (omega (arith, taken_in_log)) in
        let rest : length (times_from k d.kept.pulled) ≡ length view.log - d.kept.pulled = search (rest_size) in
        record {
          left =
              left_follows dom v covers
              (near_part (fv view.whole) view.near suits.passes (fv (meaning f)) (fv (meaning g)) suits.sound.0 v near)
              a tells;
          long = omega arith;
          times = rest_dates view k d.kept.pulled reach.stamps reach.first t dates;
          rights =
              exact_tell view g dom v b d.kept.taken d.kept.rights.items covers near tells_right (omega arith)
              stands.rights;
          window = λ j low.
              ap₂ (λ c cols. met_by c j (time_at t j)
              (list_for (entries_kept d.kept.pulled (times_from k d.kept.pulled) d.kept.rows.items) (map v cols)))
              is.interval is.right
              ∙ met_is i j d.kept.pulled d.kept.taken t (times_from k d.kept.pulled) d.kept.rows.items
              (map v (fv (meaning g))) (λ q behind below. known t dates q behind below) keeps.rule.waiting
              ∙ stands.window dom v covers near t a b dates long tells tells_right j low
              ∙ ap (λ c. until_before c t a b d.kept.taken j) (sym is.interval);
        }

    pub until_resumed_stands : UntilStandsAt view p i f g new
    until_resumed_stands =
        record {
          pulled = res.pulled ∙ stands.pulled;
          kept = cc (rest_is view k d.kept.pulled reach.stamps reach.first);
          left_pushed = ap₂ (λ n ts. n + length ts) res.taken res.lefts ∙ stands.left_pushed;
          right_pushed = ap₂ (λ n ts. n + length ts) res.taken res.rights ∙ stands.right_pushed;
          lefts = rw (res.taken, res.lefts) stands.lefts;
          rights = rw (res.taken, res.rights) stands.rights;
          left = λ dom v covers near a tells. res.left a v (left_follows dom v covers near a tells);
          follows = λ dom v covers near t a b dates long tells tells_right.
              res.follows t a b v (data_follows_until dom v covers near t a b dates long tells tells_right);
        }

    pub until_resumed_taken : new.ahead.taken ≡ min (reached view f) (reached view g)
    until_resumed_taken = res.taken ∙ stands.taken

    pub until_resumed_all : took_all new ≡ true
    until_resumed_all = grind arith
