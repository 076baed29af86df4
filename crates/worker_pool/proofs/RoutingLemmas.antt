-- Time-points that are routed one after the other, and how that ends.
use Rattle.std.proofs.Common.{◌≡◌, ◌∙◌, ap, subst, sym, refl, ℕ, ◌≤◌, List, Option, arith, length, take}
use Rattle.mon_outside.specs.Sink.{AppendsFront}
use Rattle.mfotl_model.specs.Formulas.{Form}
use Rattle.mfotl_model.specs.declared.event.TimePoint.{TimePoint}
use Rattle.log_reader.specs.Given.{Fails}
use Rattle.log_reader.specs.Progress.{Progress, next_answer, read}
use Rattle.log_reader.specs.Readers.{ForEach, Reader, progress}
use Rattle.log_reader.specs.Readings.{Reading}
use Rattle.log_reader.specs.declared.fault.LogFault.{LogFault}
use Rattle.log_reader.specs.declared.fault.LogFault.TheVariants as log
use Rattle.monitorable.specs.CoreForms.{CoreForm}
use Rattle.rescale_core.specs.declared.driver.Driver.{Driver}
use Rattle.slice_strategy.specs.declared.change.Change.{Change}
use Rattle.turn_hub.specs.Ends.{IsMainOf}
use Rattle.lone_worker.specs.{Policies.ForEachPolicy, Texts.text_on, Chunks.StopsLines, Chunks.stop_for}
use Rattle.lone_worker.specs.{Courses.HasDoneAll, Courses.Settles, Verdicts.IsOutputStop}
use Rattle.lone_worker.specs.declared.{stop.Stop.Stop, tally.Tally.Tally}
use Rattle.lone_worker.specs.declared.stop.Stop.TheVariants.{Log, Read, Sink, Memory}
use Rattle.lone_worker.proofs.GivenPoints.{IsAmid, front_amid, is_amid, still_amid, stops_at}
use Rattle.lone_worker.proofs.PointLemmas.{take_none_left}
use Rattle.main_steps.specs.{Changes.HaveCells, Changes.Suits, Hands.WorkerHub, Steps.MainState}
use Rattle.main_steps.specs.Writing.{AllEmitted, FallsShort, WritesOnly}
use Rattle.main_steps.specs.declared.schedule.Schedule.{Schedule}
use Rattle.worker_pool.specs.Chunks.{ForEachRun, IsUnderWay, Routes}
use Rattle.worker_pool.specs.Routing.{HasGivenAll, Routed, RoutesShort, StopsBehind}
use Rattle.worker_pool.proofs.RoutedPoints.{routed_falls, routed_keeps, routed_settles}

-- ---- one after the other

-- nothing was given
pub routed_none : {hub : WorkerHub} {cells : ℕ} {schedule : Schedule} {reader : Reader} {now : MainState}
    → IsMainOf hub now.driver.main → Suits now.driver schedule → HaveCells cells schedule
    → schedule.routed ≡ reader.given → Routed hub cells schedule schedule reader reader now now
routed_none main suits seated routed = record {
  main = main;
  suits = suits;
  seated = seated;
  routed = routed;
  reader_is = refl;
  reads = λ bytes reads. reads;
  so_far = λ core plan bytes start reads so_far. so_far;
}

-- the stop is looked at from before
stops_later : (policy : Form) (r : Reading) (old new : Option (List ℕ)) (before mid now : ℕ) (stop : Stop)
    → before ≤ mid → StopsLines policy r old new mid now stop → StopsLines policy r old new before now stop
stops_later policy r old new before mid now (Log fault) later h = h
stops_later policy r old new before mid now Read later h = h
stops_later policy r old new before mid now Sink later h = omega arith
stops_later policy r old new before mid now Memory later h = tt

module _ {hub : WorkerHub} {cells : ℕ} {before after : Schedule} {first next : Reader} {old new : MainState}
    (here : Routed hub cells before after first next old new) where
  -- the bytes show what they showed before
  same_reading : (bytes : List ℕ) → read (progress next bytes) ≡ read (progress first bytes)
  same_reading bytes = ap (λ (r : Reader). read (progress r bytes)) here.reader_is

  pub routed_on : {behind : Schedule} {last : Reader} {now : MainState}
      → Routed hub cells after behind next last new now → Routed hub cells before behind first last old now
  routed_on {last = last} more = record {
    main = more.main;
    suits = more.suits;
    seated = more.seated;
    routed = more.routed;
    reader_is = more.reader_is
        ∙ ap (λ (r : Reader). record r { given = last.given; kept = last.kept }) here.reader_is;
    reads = λ bytes reads. more.reads bytes (here.reads bytes reads);
    so_far = λ core plan bytes start reads so_far.
        more.so_far core plan bytes start (here.reads bytes reads) (here.so_far core plan bytes start reads so_far);
  }

  pub under_way_on : IsUnderWay first old.driver before.changes.items old.written old.tally
      → IsUnderWay next new.driver after.changes.items new.written new.tally
  under_way_on u = record {
    core = u.core;
    plan = u.plan;
    bytes = u.bytes;
    start = u.start;
    reads = here.reads u.bytes u.reads;
    so_far = here.so_far u.core u.plan u.bytes u.start u.reads u.so_far;
  }

  pub short_on : {now : MainState} {stop : Stop} → old.faults ≤ new.faults → RoutesShort after next new now stop
      → RoutesShort before first old now stop
  short_on {now} {stop} later short = record {
    stops = λ core plan bytes start reads so_far policy is.
        subst (λ (r : Reading). StopsLines policy r start now.written old.faults now.faults stop) (same_reading bytes)
        (stops_later policy _ start now.written old.faults new.faults now.faults stop later
        (short.stops core plan bytes start (here.reads bytes reads) (here.so_far core plan bytes start reads so_far)
        policy is));
    front = λ core plan bytes start reads so_far policy is.
        subst (λ (r : Reading). AppendsFront start now.written (text_on policy r)) (same_reading bytes)
        (short.front core plan bytes start (here.reads bytes reads) (here.so_far core plan bytes start reads so_far)
        policy is);
  }

-- ---- the output stops them

pub output_stops : (policy : Form) (r : Reading) (old new : Option (List ℕ)) (before now : ℕ) (stop : Stop)
    → IsOutputStop before now stop → StopsLines policy r old new before now stop
output_stops policy r old new before now (Log fault) h = absurd h
output_stops policy r old new before now Read h = h
output_stops policy r old new before now Sink h = h
output_stops policy r old new before now Memory h = h

pub output_short : {old new : MainState} {stop : Stop} (schedule : Schedule) (reader : Reader)
    → FallsShort old.driver old.written old.tally new.written → IsOutputStop old.faults new.faults stop
    → RoutesShort schedule reader old new stop
output_short {old} {new} {stop} schedule reader falls output = record {
  stops = λ core plan bytes start reads so_far policy is.
      output_stops policy _ start new.written old.faults new.faults stop output;
  front = λ core plan bytes start reads so_far. front_amid (is_amid reads so_far) (routed_falls falls);
}

-- ---- a fault stops them

-- it is the fault that stops main
pub fault_behind : (old new : MainState) (fault : LogFault) (why : Stop) → why ≡ stop_for fault
    → WritesOnly old.driver old.written old.tally new.driver new.written new.tally → AllEmitted new.driver
    → StopsBehind fault old new why
fault_behind old new log.Memory why is keeps over = rw is tt
fault_behind old new fault why is keeps over = rw is (refl, record { keeps = keeps; over = over })

-- the lines before the fault could not be written
pub output_behind : (old new : MainState) (fault : LogFault) (why : Stop) → IsOutputStop old.faults new.faults why
    → StopsBehind fault old new why
output_behind old new fault (Log found) h = absurd h
output_behind old new fault Read h = h
output_behind old new fault Sink h = h
output_behind old new fault Memory h = h

module _ {core : CoreForm} {plan : List Change} {start : Option (List ℕ)} {changes : List Change} {first : Progress}
    {reader : Reader} (old new : MainState)
    (amid : IsAmid (Routes core plan start old.driver changes old.written old.tally) first reader) where
  behind_stops : (fault : LogFault) → Fails fault (next_answer (progress reader first.bytes)) → (why : Stop)
      → StopsBehind fault old new why
      → ForEachPolicy core (λ policy.
      StopsLines policy (read first) start new.written old.faults new.faults why)
  behind_stops fault e (Log found) h =
      let drained = still_amid amid (routed_keeps h.1.keeps) in
      stops_at drained (routed_settles h.1.over) fault (Log found) h.0 e old.faults new.faults
  behind_stops fault e Read h = λ policy is. h
  behind_stops fault e Sink h = λ policy is. h
  behind_stops fault e Memory h = λ policy is. h

pub fault_short : {old new : MainState} {stop : Stop} (schedule : Schedule) (reader : Reader) (fault : LogFault)
    → ForEach reader (λ bytes. Fails fault (next_answer (progress reader bytes)))
    → FallsShort old.driver old.written old.tally new.written → StopsBehind fault old new stop
    → RoutesShort schedule reader old new stop
fault_short {old} {new} {stop} schedule reader fault fails falls behind = record {
  stops = λ core plan bytes start reads so_far.
      behind_stops old new (is_amid reads so_far) fault (fails bytes reads) stop behind;
  front = λ core plan bytes start reads so_far. front_amid (is_amid reads so_far) (routed_falls falls);
}

-- ---- the lines behind them

module _ {hub : WorkerHub} {cells : ℕ} {before after : Schedule} {first next : Reader} {old mid : MainState}
    (here : Routed hub cells before after first next old mid) where
  -- what was written then is a front of what is due
  pub routed_front : {now : Option (List ℕ)} → FallsShort mid.driver mid.written mid.tally now
      → ForEachRun first old.driver before.changes.items old.written old.tally (λ core plan bytes start.
      ForEachPolicy core (λ policy. AppendsFront start now (text_on policy (read (progress first bytes)))))
  routed_front {now} falls core plan bytes start reads so_far policy is =
      subst (λ (r : Reading). AppendsFront start now (text_on policy r)) (same_reading here bytes)
      (front_amid (is_amid (here.reads bytes reads) (here.so_far core plan bytes start reads so_far))
      (routed_falls falls) policy is)

  -- all lines were written
  pub all_drained : {driver : Driver} {now : Option (List ℕ)} {tally : Tally}
      → ForEach first (λ bytes. HasGivenAll next bytes)
      → WritesOnly mid.driver mid.written mid.tally driver now tally → AllEmitted driver
      → ForEachRun first old.driver before.changes.items old.written old.tally (λ core plan bytes start.
      HasDoneAll core (Routes core plan start driver after.changes.items now tally) next bytes start now tally)
  all_drained {driver} {now} {tally} all keeps over core plan bytes start reads so_far =
      let done = here.so_far core plan bytes start reads so_far in
      let given = all bytes reads in
      let points : List TimePoint = (read (progress next bytes)).points in
      let none : take next.given points ≡ points = take_none_left next.given points given.none in
      let drained : Routes core plan start driver after.changes.items now tally (take next.given points) =
      routed_keeps keeps _ done.done in
      record {
        reads = here.reads bytes reads;
        so_far = record { counted = done.counted; done = drained };
        all = sym done.counted ∙ ap length none;
        clear = given.clear;
        settles = subst (λ ps. Settles core ps start now tally) none (routed_settles over _ drained);
      }
