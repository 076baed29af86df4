-- How a run stops between two chunks.
use Rattle.std.proofs.Common.{◌≡◌, ◌≤◌, ℕ, false, List, Option, Err, arith, subst, sym}
use Rattle.mon_outside.specs.Views.{InputsView, SinkView}
use Rattle.mfotl_model.specs.Formulas.{Form}
use Rattle.mfotl_model.specs.declared.event.TimePoint.{TimePoint}
use Rattle.mfotl_sig.specs.Preds.{PredOf}
use Rattle.log_reader.specs.Readers.{Reader}
use Rattle.log_reader.specs.declared.limits.Limits.{Limits}
use Rattle.monitorable.specs.CoreForms.{CoreForm}
use Rattle.lone_worker.specs.{Chunks.ReadsOn, Chunks.run_end, Effects.Effect, Endings.FollowsLog, Policies.IsCoreOf}
use Rattle.lone_worker.specs.declared.{stop.Stop.Stop, tally.Tally.Tally, stop.Stop.TheVariants.Sink}
use Rattle.lone_worker.proofs.ChunkLemmas.{Settled, chunk_failed, lines_end}

-- what was written could not be handed on, or no more could be read or fed
pub read_stopped : {core : CoreForm} {Done : List TimePoint → Type 0} {sig : List PredOf} {limits : Limits}
    (policy : Form) (is : IsCoreOf core policy) (e : Effect) {reader : Reader} {mid : Option (List ℕ)} {tally : Tally}
    (next : Reader) (before : InputsView) (old : SinkView) → e.new.written ≡ mid
    → Settled core Done sig limits e.before.rest before.rest reader e.old.written mid tally
    → reader.is_ended ≡ false → (why : Stop) → e.before.faults ≤ before.faults → e.old.faults ≤ old.faults
    → ReadsOn reader next (record { before = before; after = e.after; old = old; new = e.new }) (Err why)
    → FollowsLog sig limits policy e (run_end (Err why))
read_stopped {core} {Done} {sig} {limits} policy is e {reader} {mid = mid} {tally = tally} next before old same s
    untold Sink later later_out failed =
    lines_end policy is e same
    (subst (λ (rest : Option (List ℕ)). Settled core Done sig limits e.before.rest rest reader e.old.written mid tally)
    (sym failed.0) s)
    (omega (arith, later_out, failed.1))
read_stopped policy is e next before old same s untold why later later_out failed =
    chunk_failed policy is e same s untold before.faults why later failed
