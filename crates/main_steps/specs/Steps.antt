-- What main's steps do between two time-points: they make room, and the changes that are due.
use Rattle.std.specs.Prelude.{◌≡◌, ◌+◌, ◌≤◌, ℕ, List, Option, Result, IfErr, OnErr, OnOk}
use Rattle.mon_outside.specs.declared.sink.Sink.{Ghosts as SinkGhosts}
use Rattle.rescale_core.specs.Waiting.{most_waiting}
use Rattle.rescale_core.specs.declared.driver.Driver.{Driver}
use Rattle.turn_hub.specs.Ends.{IsMainOf}
use Rattle.hub_threads.specs.Hands.{AreHandsOf}
use Rattle.lone_worker.specs.Verdicts.{IsOutputStop}
use Rattle.lone_worker.specs.declared.stop.Stop.{Stop}
use Rattle.lone_worker.specs.declared.tally.Tally.{Tally}
use Rattle.main_steps.specs.Changes.{HaveCells, IsDue, NoneDue, Suits, changes_due, changes_later}
use Rattle.main_steps.specs.Hands.{WorkerHand, WorkerHub}
use Rattle.main_steps.specs.Writing.{AddsEntries, AllEmitted, FallsShort, IsRoomy, WaitAtMost, WritesOnly}
use Rattle.main_steps.specs.declared.turns.Until.{Until}
use Rattle.main_steps.specs.declared.turns.Until.TheVariants.{Drained, Roomy}
use Rattle.main_steps.specs.declared.schedule.Schedule.{Schedule}

-- How main stands before or behind a step: its driver, what was written and counted, and how often the output failed.
pub record MainState : Type 0 where
  pub driver : Driver
  pub written : Option (List ℕ)
  pub tally : Tally
  pub faults : ℕ

-- main with this driver, output and count
abbrev pub main_state : {K : Type 0} → SinkGhosts K → Driver → K → Tally → MainState
main_state outs driver out tally = record {
  driver = driver;
  written = outs.written out;
  tally = tally;
  faults = outs.faults out;
}

-- what main waited for is so
abbrev pub IsReached : Until → Driver → Type 0
IsReached Drained driver = AllEmitted driver
IsReached Roomy driver = IsRoomy driver

-- Each worker's queue has room for an item, and nothing was read since; or main stopped, and what was written is a
-- front of the lines due. What main serves behind it are hands of the hub still.
pub record MakesRoom (hub : WorkerHub) (own : List WorkerHand) (old new : MainState) (result : Result Unit Stop)
    : Type 0 where
  pub hands : AreHandsOf hub own
  pub main : OnOk result (IsMainOf hub new.driver.main)
  pub room : OnOk result (IsRoomy new.driver)
  pub ok : OnOk result (WritesOnly old.driver old.written old.tally new.driver new.written new.tally)
  pub err : OnErr result (FallsShort old.driver old.written old.tally new.written)
  pub stop : IfErr result (λ stop. IsOutputStop old.faults new.faults stop)
  pub later : old.faults ≤ new.faults

-- Just the changes that were due were read, in order, and the others are to come; or main stopped, and what was
-- written is a front of the lines due. Behind the last change, if one was due, at most 1,025 items wait for each
-- worker. What is to come suits main and its cells, and what main serves are hands of the hub still.
pub record MakesDue (hub : WorkerHub) (cells : ℕ) (own : List WorkerHand) (before after : Schedule)
    (old new : MainState) (result : Result Unit Stop) : Type 0 where
  pub hands : AreHandsOf hub own
  pub main : OnOk result (IsMainOf hub new.driver.main)
  pub suits : OnOk result (Suits new.driver after)
  pub seated : OnOk result (HaveCells cells after)
  pub all : OnOk result (NoneDue after)
  pub left : OnOk result (after.changes.items ≡ changes_later before.routed before.changes.items)
  pub narrow : OnOk result (IsDue before → WaitAtMost (most_waiting + 1) new.driver)
  pub routed : after.routed ≡ before.routed
  pub ok : OnOk result (AddsEntries old.driver old.written old.tally (changes_due before.routed before.changes.items)
      new.driver new.written new.tally)
  pub err : OnErr result (FallsShort old.driver old.written old.tally new.written)
  pub stop : IfErr result (λ stop. IsOutputStop old.faults new.faults stop)
  pub later : old.faults ≤ new.faults
