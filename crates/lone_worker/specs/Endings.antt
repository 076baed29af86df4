-- How the monitoring of a log ends.
use Rattle.std.specs.Prelude.{◌≡◌, ℕ, Bool, true, false, List, IfSome}
use Rattle.mon_outside.specs.Causes.{Rose}
use Rattle.mon_outside.specs.Inputs.{Consumes}
use Rattle.mon_outside.specs.Sink.{Appends, AppendsFront}
use Rattle.mfotl_model.specs.Formulas.{Form}
use Rattle.mfotl_sig.specs.Preds.{PredOf}
use Rattle.log_reader.specs.Readings.{Ending, Fault, NoFault, Reading, reading}
use Rattle.log_reader.specs.declared.limits.Limits.{Limits}
use Rattle.lone_worker.specs.Effects.{Effect}
use Rattle.lone_worker.specs.Texts.{tally_on, text_on}
use Rattle.lone_worker.specs.declared.end.End.{End}
use Rattle.lone_worker.specs.declared.end.End.TheVariants.{Finished, LogEnds, ReadFailed, SinkFailed, Memory}

-- what was read shows this ending, and all its lines were written
pub record WritesAll (policy : Form) (r : Reading) (ending : Ending) (e : Effect) : Type 0 where
  pub shows : r.ending ≡ ending
  pub written : Appends e.old.written e.new.written (text_on policy r)

-- How it ended, where this was read, all of the log if `ended`. All lines were written, unless the output failed
-- or memory was refused; a failed call shows in its count.
abbrev pub EndsBy : Bool → Form → Reading → Effect → End → Type 0
EndsBy ended policy r e (Finished settled violated rows) =
    (ended ≡ true) × WritesAll policy r NoFault e
    × (tally_on policy r ≡ record { settled = settled; violated = violated; rows = rows })
EndsBy ended policy r e (LogEnds fault) = WritesAll policy r (Fault fault) e
EndsBy ended policy r e ReadFailed =
    (ended ≡ false) × WritesAll policy r NoFault e × Rose e.before.faults e.after.faults
EndsBy ended policy r e SinkFailed = Rose e.old.faults e.new.faults
EndsBy ended policy r e Memory = Unit {0}

-- The log was monitored as far as it was read: to its end, to the first fault that the bytes show within these limits,
-- or to a failed call; and what was written is a front of what these bytes ask for.
pub record FollowsLog (sig : List PredOf) (limits : Limits) (policy : Form) (e : Effect) (end : End) : Type 0 where
  pub bytes : List ℕ
  pub ended : Bool
  pub taken : Consumes e.before.rest e.after.rest bytes
  pub whole : ended ≡ true → IfSome e.before.rest (λ all. all ≡ bytes)
  pub ends : EndsBy ended policy (reading sig limits bytes ended) e end
  pub front : AppendsFront e.old.written e.new.written (text_on policy (reading sig limits bytes ended))
