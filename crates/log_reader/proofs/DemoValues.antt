-- What the demo's log stands for by the rules of logs, and how long it is.
use Rattle.std.proofs.Common.{◌≡◌, ℕ, zero, suc, ◌*◌, ◌<◌, ◌≤◌, ◌^◌, List, [], ◌∷◌, length, map, codes, Some, refl}
use Rattle.std.proofs.Common.{arith, length-append}
use Rattle.std.proofs.lemmas.Bool.{le-ltb}
use Rattle.std.specs.{BTreeSet.insert_key, List.flat_map, List.AllByRecursion}
use Rattle.mfotl_model.specs.Events.{event_cmp}
use Rattle.mfotl_model.specs.declared.{event.Event.Event, event.TimePoint.TimePoint}
use Rattle.log_reader.specs.declared.{demo_event.DemoEvent.DemoEvent, limits.Limits.Limits}
use Rattle.log_reader.specs.DemoEvents.{Moment, written, line_of}
use Rattle.log_reader.specs.Grammar.{Mention}
use Rattle.log_reader.specs.Rules.{groups_value, mentions_value, values_of, group_count, point_value, log_value}
use Rattle.log_reader.specs.DemoPoints.{demo_preds, event_of_demo, events_of, point_of}
use Rattle.log_reader.proofs.DecimalWords.{decimal_read, decimal_short, decimal_timestamp}
use Rattle.log_reader.proofs.DemoLexing.{mention_of, point_text, length-name}
use Rattle.log_reader.proofs.DemoMoments.{IsSmall, IsSound, AreSound}

-- ---- events

event_value : (e : DemoEvent) (before : List Event) (mentions : List Mention) → IsSmall e
    → mentions_value demo_preds before (mention_of e ∷ mentions)
    ≡ mentions_value demo_preds (insert_key event_cmp before (event_of_demo e)) mentions
unfolding mentions_value groups_value values_of
event_value e before mentions small = grind (arith, decimal_read)

no_mention : (before : List Event) → mentions_value demo_preds before [] ≡ Some before
unfolding mentions_value
no_mention before = refl

events_value : (events : List DemoEvent) (before : List Event) → AllByRecursion IsSmall events
    → mentions_value demo_preds before (map mention_of events) ≡ Some (events_of before events)
events_value [] before small = no_mention before
events_value (e ∷ events) before small =
    search (event_value, mention_of, events_value events (insert_key event_cmp before (event_of_demo e)) small.1)

one_group : (e : DemoEvent) (mentions : List Mention)
    → group_count (mention_of e ∷ mentions) ≡ suc (group_count mentions)
one_group e mentions = grind arith

groups_counted : (events : List DemoEvent) → group_count (map mention_of events) ≡ length events
groups_counted [] = refl
groups_counted (e ∷ events) = grind (arith, one_group, mention_of, groups_counted events)

-- ---- time-points

module _ (limits : Limits) (enough : 5 ≤ limits.events) where
  moment_value : (earliest last : ℕ) (m : Moment) → last ≤ 2 ^ 62 → IsSound earliest last m
      → point_value demo_preds limits (point_text m) ≡ Some (point_of m)
  unfolding point_value
  moment_value earliest last m small sound =
      grind (arith, le-ltb, mention_of, groups_counted, decimal_timestamp, events_value)

  first_value : (earliest room : ℕ) (m : Moment) (ms : List Moment) (points : List TimePoint)
      → point_value demo_preds limits (point_text m) ≡ Some (point_of m) → earliest ≤ m.time
      → log_value demo_preds limits m.time room (map point_text ms) ≡ Some points
      → log_value demo_preds limits earliest (suc room) (map point_text (m ∷ ms)) ≡ Some (point_of m ∷ points)
  unfolding log_value
  first_value earliest room m ms points first later rest = cc (le-ltb m.time earliest later)

  no_value : (earliest room : ℕ) → log_value demo_preds limits earliest room [] ≡ Some []
  unfolding log_value
  no_value earliest room = cc

  pub moments_value : (ms : List Moment) (earliest last room : ℕ) → last ≤ 2 ^ 62 → AreSound earliest last ms
      → length ms ≤ room → log_value demo_preds limits earliest room (map point_text ms) ≡ Some (map point_of ms)
  moments_value [] earliest last room small sound fits = no_value earliest room
  moments_value (m ∷ ms) earliest last zero small sound fits = absurd (omega (arith, fits))
  moments_value (m ∷ ms) earliest last (suc room) small sound fits =
      first_value earliest room m ms (map point_of ms) (moment_value earliest last m small sound.0) sound.0.later
      (moments_value ms m.time last room small sound.1 (omega (arith, fits)))

-- ---- lengths

event_short : (e : DemoEvent) → IsSmall e → length (written e) ≤ 40
event_short e small = grind (arith, decimal_short, length-name, length-append, codes)

events_short : (events : List DemoEvent) → AllByRecursion IsSmall events
    → length (flat_map written events) ≤ 40 * length events
events_short [] small = omega arith
events_short (e ∷ events) small = grind (arith, event_short, length-append, events_short events small.1)

line_short : (earliest last : ℕ) (m : Moment) → last < 2 ^ 64 → IsSound earliest last m → length (line_of m) ≤ 300
line_short earliest last m small sound = grind (arith, decimal_short, events_short, length-append, codes)

pub moments_short : (ms : List Moment) (earliest last : ℕ) → last < 2 ^ 64 → AreSound earliest last ms
    → length (flat_map line_of ms) ≤ 300 * length ms
moments_short [] earliest last small sound = omega arith
moments_short (m ∷ ms) earliest last small sound =
    omega (
      arith,
      line_short earliest last m small sound.0,
      moments_short ms m.time last small sound.1,
      length-append (line_of m) (flat_map line_of ms),
    )
