-- What main's steps do, one after the other.
use Rattle.std.proofs.Common.{◌≤◌, ℕ, List, Ok, Err, arith}
use Rattle.std.specs.Prelude.{Result}
use Rattle.lone_worker.specs.Verdicts.{IsOutputStop}
use Rattle.lone_worker.specs.declared.stop.Stop.{Stop}
use Rattle.lone_worker.specs.declared.stop.Stop.TheVariants.{Log, Read, Sink, Memory}
use Rattle.main_steps.specs.{Hands.WorkerHand, Hands.WorkerHub, Writing.Runs}
use Rattle.main_steps.specs.Steps.{MainState, MakesDue, MakesRoom}
use Rattle.main_steps.specs.declared.schedule.Schedule.{Schedule}
use Rattle.main_steps.proofs.{ChangeLemmas.adds_falls, ChangeLemmas.suits_drained, EntryLemmas.points_due}
use Rattle.main_steps.proofs.{WaitLemmas.roomy_narrow, WritingLemmas.adds_keeps, WritingLemmas.runs_with}

-- what stopped main since then did so since before
pub output_later : (before mid now : ℕ) (stop : Stop) → before ≤ mid → IsOutputStop mid now stop
    → IsOutputStop before now stop
output_later before mid now (Log fault) later stops = stops
output_later before mid now Read later stops = stops
output_later before mid now Sink later stops = omega arith
output_later before mid now Memory later stops = tt

-- the changes that were due were made, and then room, or main stopped at that
pub due_with_room : {hub : WorkerHub} {cells : ℕ} {own more : List WorkerHand} {before after : Schedule}
    {old mid new : MainState} {made : Unit} (result : Result Unit Stop) → Runs old.driver old.written old.tally
    → MakesDue hub cells own before after old mid (Ok made) → MakesRoom hub more mid new result
    → MakesDue hub cells more before after old new result
due_with_room {after = after} {mid = mid} {new = new} (Ok x) runs due room = record {
  hands = room.hands;
  main = room.main;
  suits = suits_drained {E = Stop} (Ok x) mid.driver new.driver mid.written new.written mid.tally new.tally after
      (runs_with due.ok runs) room.ok due.suits;
  seated = due.seated;
  all = due.all;
  left = due.left;
  narrow = λ was_due. roomy_narrow room.room;
  routed = due.routed;
  ok = adds_keeps due.ok room.ok;
  err = tt;
  stop = tt;
  later = omega (arith, due.later, room.later);
}
due_with_room {before = before} {old = old} {mid = mid} {new = new} (Err stop) runs due room = record {
  hands = room.hands;
  main = tt;
  suits = tt;
  seated = tt;
  all = tt;
  left = tt;
  narrow = tt;
  routed = due.routed;
  ok = tt;
  err = adds_falls (points_due before.routed before.changes.items) due.ok room.err;
  stop = output_later old.faults mid.faults new.faults stop due.later room.stop;
  later = omega (arith, due.later, room.later);
}
