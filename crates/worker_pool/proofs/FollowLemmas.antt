-- How a run by a plan ends.
use Rattle.std.proofs.Common.{◌≡◌, ℕ, Bool, true, false, List, Option, Some, Ok, Err}
use Rattle.std.proofs.Math.Seq.{take-length}
use Rattle.std.specs.Prelude.{Result, IfOk}
use Rattle.mfotl_sig.specs.Preds.{PredOf}
use Rattle.log_reader.specs.Readers.{Reader}
use Rattle.log_reader.specs.declared.limits.Limits.{Limits}
use Rattle.monitorable.specs.CoreForms.{CoreForm}
use Rattle.rescale_core.specs.declared.driver.Driver.{Driver}
use Rattle.slice_strategy.specs.declared.change.Change.{Change}
use Rattle.lone_worker.specs.{Chunks.run_end, Endings.FollowsLog, Policies.ForEachPolicy}
use Rattle.lone_worker.specs.declared.{stop.Stop.Stop, tally.Tally.Tally}
use Rattle.lone_worker.proofs.ChunkLemmas.{Settled}
use Rattle.worker_pool.specs.{Chunks.ReadsPlan, Chunks.Routes, LoopEnds.end_of}
use Rattle.worker_pool.specs.Following.{Beginning, ComesTo, LoopState, effect_since}

-- at the end of the log all of the plan that was due was read
pub plan_read : {core : CoreForm} {sig : List PredOf} {limits : Limits} {plan : List Change}
    {first rest : Option (List ℕ)} {reader : Reader} {driver : Driver} {changes : List Change}
    {old mid : Option (List ℕ)} {tally : Tally}
    → Settled core (Routes core plan old driver changes mid tally) sig limits first rest reader old mid tally
    → reader.is_ended ≡ true → ReadsPlan core sig limits plan first rest old driver mid tally
plan_read s told =
    let c = s.course in
    record {
      bytes = c.bytes;
      taken = c.taken;
      whole = c.whole told;
      writes = rw (s.all, c.sig_is, c.limits_is, take-length, told) at c.so_far.done.writes;
    }

-- the loop ended as its last chunk says
pub came_to_end : (b : Beginning) (s : LoopState) (ended : Result Bool Stop) (end : Result Tally Stop)
    → Some end ≡ end_of ended s.tally → ComesTo b s ended
    → ForEachPolicy b.core (λ policy. FollowsLog b.sig b.limits policy (effect_since b s) (run_end end))
    × IfOk end (ReadsPlan b.core b.sig b.limits b.plan b.before.rest s.inputs.rest b.old.written s.driver s.out.written)
came_to_end b s (Ok true) (Ok tally) e comes = let same : s.tally ≡ tally = cc in rw (← same) comes
came_to_end b s (Ok true) (Err stop) e comes = absurd cc
came_to_end b s (Ok false) end e comes = absurd cc
came_to_end b s (Err stop) (Ok tally) e comes = absurd cc
came_to_end b s (Err stop) (Err why) e comes = let same : stop ≡ why = cc in rw (← same) (comes, tt)
