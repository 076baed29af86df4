-- The data of a state that stands for a log does.
use Rattle.std.proofs.Common.{◌≡◌, ℕ, ◌+◌, ◌-◌, ◌<◌, ◌≤◌, Bool, min, nat_le, List, [], length, map, sym, subst, ap, ap₂}
use Rattle.std.proofs.Common.{◌∙◌, arith, slice_index}
use Rattle.std.specs.Option.{unwrap_or}
use Rattle.mfotl_model.specs.{Exact.AllExact, Exact.View, FreeVariables.fv, Satisfaction.Valuation}
use Rattle.mfotl_model.specs.{Satisfaction.time_at}
use Rattle.mfotl_model.specs.declared.{interval.Interval.Interval, value.Value.Value}
use Rattle.row_times.specs.{KeptTimes.times_kept}
use Rattle.eval_since.specs.{SinceBefore.since_before, SinceView.Follows, SinceView.SinceOf}
use Rattle.row_times.specs.{Times.reaches}
use Rattle.eval_since.specs.{WindowView.kept_times}
use Rattle.until_rows.specs.{Entries.met_by, Recalled.entries_kept, Recalled.starts_kept, Starts.start_of}
use Rattle.eval_until.specs.{UntilBefore.until_before, UntilData.setting_of, UntilData.until_of}
use Rattle.eval_until.specs.UntilView.{Follows as FollowsUntil, FollowsLeft, UntilOf}
use Rattle.monitorable.specs.CoreForms.{CoreForm, meaning}
use Rattle.relations.proofs.KeptLemmas.{filled_back}
use Rattle.relations.specs.KeptRows.{kept_for, list_for}
use Rattle.monitor_nodes.proofs.{ExactLemmas.reached_within, SinceSteps.free_operand}
use Rattle.monitor_state.proofs.{MarkLemmas.found_behind, MarkLemmas.met_is}
use Rattle.monitor_nodes.specs.{SinceNode.IsSinceState, SinceNode.SinceStandsAt, UntilNode.IsUntilState}
use Rattle.monitor_nodes.specs.{UntilNode.UntilStandsAt, Views.Dates, Views.reached}
use Rattle.monitor_state.specs.{Recording.SinceRecorded, Recording.UntilRecorded, StateStands.SinceDataStands}
use Rattle.monitor_state.specs.{StateStands.UntilDataStands}
use Rattle.monitor_state.specs.declared.{state.SinceKept.SinceKept, state.UntilKept.UntilKept}

pub since_recorded : (view : View) (p : ℕ) (i : Interval) (f g : CoreForm) (s : SinceOf) (k : SinceKept)
    → IsSinceState i f g s → SinceStandsAt view p i f g s → SinceRecorded s k → SinceDataStands view p i f g k.kept
since_recorded view p i f g s k is stands rec =
    record {
      pulled = rec.pulled ∙ stands.pulled;
      left_pushed = ap₂ (λ n ts. n + length ts) rec.pulled rec.lefts ∙ stands.left_pushed;
      right_pushed = ap₂ (λ n ts. n + length ts) rec.pulled rec.rights ∙ stands.right_pushed;
      lefts = rw (rec.pulled, rec.lefts) stands.lefts;
      rights = rw (rec.pulled, rec.rights) stands.rights;
      window = λ dom v covers near t a b dates tells tells_right x low.
          right dom v t a b x (stands.follows dom v covers near t a b dates tells tells_right) low;
    }
  where
    right : (dom : List Value) (v : Valuation) (t : List ℕ) (a b : List Bool) (x : ℕ) → Follows s t a b v
        → (0 < k.kept.pulled → time_at t (k.kept.pulled - 1) ≤ x)
        → reaches i (unwrap_or (kept_for (times_kept k.kept.rows.items) (map v (fv (meaning g)))) []) x
        ≡ since_before i t a b k.kept.pulled x
    right dom v t a b x follows low =
        ap (λ o. reaches i (unwrap_or o []) x) (rec.rows (map v (fv (meaning g))))
        ∙ ap (λ ts. reaches i ts x) (filled_back (kept_times s.window (map v (fv (meaning g)))))
        ∙ ap₂ (λ c cols. reaches c (kept_times s.window (map v cols)) x) (sym is.interval) (sym is.right)
        ∙ follows.window x (λ some.
        let same : k.kept.pulled ≡ s.pulled = rec.pulled in
        omega (arith, follows.last some, ap (λ n. time_at t (n - 1)) same, low (omega arith)))
        ∙ ap₂ (λ c n. since_before c t a b n x) is.interval (sym rec.pulled)

pub until_recorded : (view : View) (p : ℕ) (i : Interval) (f g : CoreForm) (s : UntilOf) (k : UntilKept)
    → IsUntilState i f g s → UntilStandsAt view p i f g s → s.ahead.taken ≡ min (reached view f) (reached view g)
    → UntilRecorded s k → UntilDataStands view p i f g k.kept
until_recorded view p i f g s k is stands taken rec =
    record {
      pulled = pulled_is ∙ stands.pulled;
      taken = taken_is ∙ taken;
      left_pushed = ap (λ (x : UntilOf). x.ahead.taken + length x.lefts) rec.same ∙ stands.left_pushed;
      right_pushed = ap (λ (x : UntilOf). x.ahead.taken + length x.rights) rec.same ∙ stands.right_pushed;
      lefts = grind arith;
      rights = subst (λ (x : UntilOf). AllExact view (meaning g) x.ahead.taken x.rights) (sym rec.same) stands.rights;
      runs = λ dom v covers near a tells j low.
          let follows : FollowsLeft described a v = subst (λ x. FollowsLeft x a v) (sym rec.same)
          (stands.left dom v covers (sym (ap (λ cols. view.near cols v) (free_operand f)) ∙ near) a tells) in
          ap₂ (λ n cols. nat_le (start_of n k.kept.taken (starts_kept k.kept.starts.items) (map v cols)) j)
          (sym is.negated) (sym is.left)
          ∙ follows.runs j low;
      window = λ dom v covers near t a b dates long tells tells_right j low.
          let follows : FollowsUntil described t a b v = subst (λ x. FollowsUntil x t a b v) (sym rec.same)
          (stands.follows dom v covers near t a b dates long tells tells_right) in
          sym (met_is i j k.kept.pulled k.kept.taken t s.times k.kept.rows.items (map v (fv (meaning g)))
          (λ q behind below. known t dates q behind below) rec.rule.waiting)
          ∙ ap₂ (λ c cols. met_in c t j cols v) (sym is.interval) (sym is.right)
          ∙ follows.window j low
          ∙ ap (λ c. until_before c t a b k.kept.taken j) is.interval;
    }
  where
    described : UntilOf
    described = until_of (setting_of s) s.times k.kept

    pulled_is : k.kept.pulled ≡ s.ahead.pulled
    pulled_is = ap (λ (x : UntilOf). x.ahead.pulled) rec.same

    taken_is : k.kept.taken ≡ s.ahead.taken
    taken_is = ap (λ (x : UntilOf). x.ahead.taken) rec.same

    met_in : Interval → List ℕ → ℕ → List ℕ → Valuation → Bool
    met_in c t j cols v =
        met_by c j (time_at t j) (list_for (entries_kept k.kept.pulled s.times k.kept.rows.items) (map v cols))

    known : (t : List ℕ) → Dates view t → (q : ℕ) → k.kept.pulled ≤ q → q < k.kept.taken
        → slice_index s.times (q - k.kept.pulled) ≡ time_at t q
    known t dates q behind below =
        let was : k.kept.pulled ≡ s.ahead.pulled = pulled_is in
        let now : k.kept.taken ≡ s.ahead.taken = taken_is in
        let most : reached view f ≤ length view.log = reached_within view f in
        grind (arith, slice_index, found_behind)
