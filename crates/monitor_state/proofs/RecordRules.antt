-- The data of a state that stands for a log keeps the rule, with the log's timestamps.
use Rattle.std.proofs.Common.{◌≡◌, ℕ, zero, ◌-◌, ◌≤◌, List, [], ◌∷◌, drop, sym, subst, ◌∙◌, arith, slice_index}
use Rattle.std.proofs.{lemmas.List.get_or-drop, lemmas.Grind.common_steps}
use Rattle.mfotl_model.specs.{Exact.View, Log.times, Times.Climbs}
use Rattle.mfotl_model.specs.declared.interval.Interval.{Interval}
use Rattle.eval_since.specs.SinceData.{KeepsRule, SinceSetting, newest_of}
use Rattle.eval_since.specs.SinceView.{SinceOf}
use Rattle.eval_since.specs.declared.recalled.SinceData.{SinceData}
use Rattle.monitorable.specs.CoreForms.{CoreForm}
use Rattle.monitor_state.proofs.{MarkLemmas.dropped_behind, MarkLemmas.found_behind, StampLemmas.stamps_rest}
use Rattle.monitor_nodes.specs.{SinceNode.IsSinceState, SinceNode.SinceStandsAt, Stamps.stamps}
use Rattle.monitor_state.specs.{Recording.SinceRecorded, StateRules.SinceKeeps, StateRules.since_setting}
use Rattle.monitor_state.specs.StateTimes.{KeptTimes, time_before, times_from}
use Rattle.monitor_state.specs.declared.state.SinceKept.{SinceKept}

climbs_from : (past next : ℕ) (ts : List ℕ) → next ≤ past → Climbs past ts (newest_of past ts)
    → Climbs next ts (newest_of next ts)
climbs_from past next [] low climbs = omega arith
climbs_from past next (t ∷ ts) low climbs = grind arith

-- the last one of the timestamps that are known is found among a state's
known_last : (k : KeptTimes) (all : List ℕ) (p last : ℕ) (rest : List ℕ) → k.stamps ≡ drop k.first all
    → k.first ≤ p → last ∷ rest ≡ drop p all → last ≡ slice_index k.stamps (p - k.first)
known_last k all p last rest is low known = grind (arith, common_steps, slice_index, get_or-drop, found_behind)

-- the rule with timestamps of a state
rule_with : (setting : SinceSetting) (k : KeptTimes) (all : List ℕ) (p last : ℕ) (rest : List ℕ) (kept : SinceData)
    → kept.pulled ≡ p → k.stamps ≡ drop k.first all → k.first ≤ p - 1 → stamps p last rest ≡ drop (p - 1) all
    → KeepsRule setting last rest kept → KeepsRule setting (time_before k p) (times_from k p) kept
rule_with setting k all p last rest kept at is low known rule =
    grind (arith, common_steps, zero, dropped_behind, climbs_from, known_last, stamps_rest)

pub since_keeps : (view : View) (k : KeptTimes) (p : ℕ) (i : Interval) (f g : CoreForm) (s : SinceOf) (d : SinceKept)
    → k.stamps ≡ drop k.first (times view.log) → k.first ≤ d.kept.pulled - 1
    → IsSinceState i f g s → SinceStandsAt view p i f g s → SinceRecorded s d → SinceKeeps k i f g d
since_keeps view k p i f g s d are low is stands rec =
    record {
      interval = rec.interval ∙ is.interval;
      columns = rec.columns ∙ is.right;
      rule =
          subst (λ n. KeepsRule (since_setting i f g) (time_before k n) (times_from k n) d.kept) (sym rec.pulled)
          (rule_with (since_setting i f g) k (times view.log) s.pulled s.window.last s.times d.kept rec.pulled are
          (omega arith) stands.known
          (subst (λ c. KeepsRule c s.window.last s.times d.kept) (cc) rec.rule));
    }
