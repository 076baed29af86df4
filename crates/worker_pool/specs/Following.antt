-- How far the following of a log has come, chunk by chunk.
use Rattle.std.specs.Prelude.{◌≡◌, ◌≤◌, Bool, true, false, List, Result, Ok, Err}
use Rattle.mon_outside.specs.Views.{InputsView, SinkView, inputs_view, sink_view}
use Rattle.mon_outside.specs.declared.inputs.Inputs.{Ghosts as InputsGhosts}
use Rattle.mon_outside.specs.declared.sink.Sink.{Ghosts as SinkGhosts}
use Rattle.mfotl_sig.specs.Preds.{PredOf}
use Rattle.monitorable.specs.CoreForms.{CoreForm}
use Rattle.log_reader.specs.Readers.{Reader}
use Rattle.log_reader.specs.declared.limits.Limits.{Limits}
use Rattle.rescale_core.specs.declared.driver.Driver.{Driver}
use Rattle.slice_strategy.specs.declared.change.Change.{Change}
use Rattle.lone_worker.specs.Chunks.{run_end}
use Rattle.lone_worker.specs.Courses.{Course}
use Rattle.lone_worker.specs.Effects.{Effect}
use Rattle.lone_worker.specs.Endings.{FollowsLog}
use Rattle.lone_worker.specs.Policies.{ForEachPolicy}
use Rattle.lone_worker.specs.declared.stop.Stop.{Stop}
use Rattle.lone_worker.specs.declared.tally.Tally.{Tally}
use Rattle.main_steps.specs.declared.schedule.Schedule.{Schedule}
use Rattle.worker_pool.specs.Chunks.{ReadsPlan, Routes}

-- How a run began: by which core, signature, limits and plan, and how the inputs and the output stood.
pub record Beginning : Type 0 where
  pub core : CoreForm
  pub sig : List PredOf
  pub limits : Limits
  pub plan : List Change
  pub before : InputsView
  pub old : SinkView

-- How main's loop stands between two chunks.
pub record LoopState : Type 0 where
  pub driver : Driver
  pub schedule : Schedule
  pub tally : Tally
  pub log : Reader
  pub inputs : InputsView
  pub out : SinkView

-- the loop with this driver, schedule and count, these inputs and this output
abbrev pub loop_state : {I O : Type 0} → InputsGhosts I → SinkGhosts O → Driver → Schedule → Tally → Reader → I → O
    → LoopState
loop_state ins outs driver schedule tally log inputs out = record {
  driver = driver;
  schedule = schedule;
  tally = tally;
  log = log;
  inputs = inputs_view ins inputs;
  out = sink_view outs out;
}

-- what a run did since it began
abbrev pub effect_since : Beginning → LoopState → Effect
effect_since b s = record { before = b.before; after = s.inputs; old = b.old; new = s.out }

-- Since it began the reader was fed what was read of the log, and main read the time-points that it gave by the plan.
pub record HasCome (b : Beginning) (s : LoopState) : Type 0 where
  pub works : s.log.is_broken ≡ false
  pub routed : s.schedule.routed ≡ s.log.given
  pub later : b.before.faults ≤ s.inputs.faults
  pub later_out : b.old.faults ≤ s.out.faults
  pub course : Course (Routes b.core b.plan b.old.written s.driver s.schedule.changes.items s.out.written s.tally)
      b.sig b.limits b.before.rest s.inputs.rest s.log

-- What became of it with one chunk more: it goes on, or all of the log was monitored, or it stopped.
abbrev pub ComesTo : Beginning → LoopState → Result Bool Stop → Type 0
ComesTo b s (Ok false) = HasCome b s
ComesTo b s (Ok true) =
    ForEachPolicy b.core (λ policy. FollowsLog b.sig b.limits policy (effect_since b s) (run_end (Ok s.tally)))
    × ReadsPlan b.core b.sig b.limits b.plan b.before.rest s.inputs.rest b.old.written s.driver s.out.written s.tally
ComesTo b s (Err stop) =
    ForEachPolicy b.core (λ policy. FollowsLog b.sig b.limits policy (effect_since b s) (run_end (Err stop)))
