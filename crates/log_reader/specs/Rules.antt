-- The rules beside the grammar: what a log that is written stands for, if it keeps them.
use Rattle.std.specs.Prelude.{◌≡◌, ◌≤◌, ◌+◌, ℕ, zero, suc, List, [], ◌∷◌, length, true, Option, Some, None}
use Rattle.std.specs.Prelude.{option_and_then, nat_lt, if◌then◌else◌}
use Rattle.std.specs.BTreeSet.{insert_key}
use Rattle.std.specs.Result.{result_ok}
use Rattle.mfotl_model.specs.Events.{event_cmp}
use Rattle.mfotl_model.specs.declared.event.Event.{Event}
use Rattle.mfotl_model.specs.declared.event.TimePoint.{TimePoint}
use Rattle.mfotl_model.specs.declared.policy.Sort.{Sort}
use Rattle.mfotl_model.specs.declared.value.Value.{Value}
use Rattle.mfotl_sig.specs.Preds.{PredOf, named}
use Rattle.log_reader.specs.declared.limits.Limits.{Limits}
use Rattle.log_reader.specs.Grammar.{Mention, PointText, Spells, symbols_of}
use Rattle.log_reader.specs.LogTexts.{tokens_of}
use Rattle.log_reader.specs.ValuesRead.{timestamp_of}
use Rattle.log_reader.specs.Symbols.{Written}
use Rattle.log_reader.specs.ValuesRead.{value_at}

infixl 10 ◌>>=◌
-- a value goes on, none stays none
abbrev pub ◌>>=◌ : {A B : Type 0} → Option A → (A → Option B) → Option B
o >>= f = option_and_then f o

-- the value of a place of this sort; where it stands doesn't matter
abbrev pub value_of : Sort → Written → Option Value
value_of sort written = result_ok (value_at sort 0 written)

-- one value for each sort
unfoldable pub values_of : List Sort → List Written → Option (List Value)
values_of [] [] = Some []
values_of [] (w ∷ ws) = None
values_of (sort ∷ sorts) [] = None
values_of (sort ∷ sorts) (w ∷ ws) = do
  value ← value_of sort w
  values ← values_of sorts ws
  Some (value ∷ values)

-- the events of a predicate's groups put with those before; equal events are one
unfoldable pub groups_value : PredOf → List Event → List (List Written) → Option (List Event)
groups_value pred events [] = Some events
groups_value pred events (group ∷ groups) = do
  args ← values_of pred.sorts group
  groups_value pred (insert_key event_cmp events (record { pred = pred.number; args = args })) groups

-- the events of predicates with their groups put with those before
unfoldable pub mentions_value : List PredOf → List Event → List Mention → Option (List Event)
mentions_value sig events [] = Some events
mentions_value sig events (m ∷ mentions) = do
  pred ← named m.name sig
  with_these ← groups_value pred events (m.first ∷ m.more)
  mentions_value sig with_these mentions

-- how many groups are written
abbrev pub group_count : List Mention → ℕ
group_count [] = 0
group_count (m ∷ mentions) = suc (length m.more) + group_count mentions

-- the time-point that is written, with at most so many groups
unfoldable pub point_value : List PredOf → Limits → PointText → Option TimePoint
point_value sig limits p = do
  time ← timestamp_of p.stamp
  events ← mentions_value sig [] p.mentions
  if nat_lt limits.events (group_count p.mentions) then None else Some (record { ts = time; db = events })

-- time-points none of which is before `earliest` or the one before it, and which are at most `room`
unfoldable pub log_value : List PredOf → Limits → ℕ → ℕ → List PointText → Option (List TimePoint)
log_value sig limits earliest room [] = Some []
log_value sig limits earliest zero (p ∷ points) = None
log_value sig limits earliest (suc room) (p ∷ points) = do
  point ← point_value sig limits p
  later ← (if nat_lt point.ts earliest then None else log_value sig limits point.ts room points)
  Some (point ∷ later)

-- the text is not too long, and whole tokens that spell a log which stands for these time-points
pub record IsValue (sig : List PredOf) (limits : Limits) (bytes : List ℕ) (points : List TimePoint) : Type 0 where
  pub log : List PointText
  pub short : length bytes ≤ limits.bytes
  pub whole : (tokens_of limits bytes true).fault ≡ None
  pub spells : Spells (symbols_of (tokens_of limits bytes true).list) log
  pub value : log_value sig limits 0 limits.points log ≡ Some points
