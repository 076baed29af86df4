-- How far the following of a log by one worker alone has come, chunk by chunk.
use Rattle.std.specs.Prelude.{◌≡◌, ◌≤◌, Bool, true, false, List, Result, Ok, Err}
use Rattle.mon_outside.specs.Views.{InputsView, SinkView, inputs_view, sink_view}
use Rattle.mon_outside.specs.declared.inputs.Inputs.{Ghosts as InputsGhosts}
use Rattle.mon_outside.specs.declared.sink.Sink.{Ghosts as SinkGhosts}
use Rattle.mfotl_sig.specs.Preds.{PredOf}
use Rattle.monitorable.specs.CoreForms.{CoreForm}
use Rattle.log_reader.specs.Readers.{Reader}
use Rattle.log_reader.specs.declared.limits.Limits.{Limits}
use Rattle.monitor_state.specs.declared.monitor.Monitor.{Monitor}
use Rattle.lone_worker.specs.Alone.{WritesAlone}
use Rattle.lone_worker.specs.Chunks.{run_end}
use Rattle.lone_worker.specs.Courses.{Course}
use Rattle.lone_worker.specs.Effects.{Effect}
use Rattle.lone_worker.specs.Endings.{FollowsLog}
use Rattle.lone_worker.specs.Policies.{ForEachPolicy}
use Rattle.lone_worker.specs.declared.stop.Stop.{Stop}
use Rattle.lone_worker.specs.declared.tally.Tally.{Tally}

-- How a run began: by which core, signature and limits, and how the inputs and the output stood.
pub record BeginningAlone : Type 0 where
  pub core : CoreForm
  pub sig : List PredOf
  pub limits : Limits
  pub before : InputsView
  pub old : SinkView

-- How the worker stands between two chunks.
pub record AloneState : Type 0 where
  pub monitor : Monitor
  pub tally : Tally
  pub log : Reader
  pub inputs : InputsView
  pub out : SinkView

-- the worker with this monitor and count, these inputs and this output
abbrev pub alone_state : {I O : Type 0} → InputsGhosts I → SinkGhosts O → Monitor → Tally → Reader → I → O → AloneState
alone_state ins outs monitor tally log inputs out = record {
  monitor = monitor;
  tally = tally;
  log = log;
  inputs = inputs_view ins inputs;
  out = sink_view outs out;
}

-- what a run did since it began
abbrev pub effect_alone : BeginningAlone → AloneState → Effect
effect_alone b s = record { before = b.before; after = s.inputs; old = b.old; new = s.out }

-- Since it began the reader was fed what was read of the log, and the worker took the time-points that it gave.
pub record HasComeAlone (b : BeginningAlone) (s : AloneState) : Type 0 where
  pub works : s.log.is_broken ≡ false
  pub later : b.before.faults ≤ s.inputs.faults
  pub later_out : b.old.faults ≤ s.out.faults
  pub course : Course (WritesAlone b.core b.old.written s.monitor s.out.written s.tally) b.sig b.limits
      b.before.rest s.inputs.rest s.log

-- What became of it with one chunk more: it goes on, or all of the log was monitored, or it stopped.
abbrev pub ComesToAlone : BeginningAlone → AloneState → Result Bool Stop → Type 0
ComesToAlone b s (Ok false) = HasComeAlone b s
ComesToAlone b s (Ok true) =
    ForEachPolicy b.core (λ policy. FollowsLog b.sig b.limits policy (effect_alone b s) (run_end (Ok s.tally)))
ComesToAlone b s (Err stop) =
    ForEachPolicy b.core (λ policy. FollowsLog b.sig b.limits policy (effect_alone b s) (run_end (Err stop)))
