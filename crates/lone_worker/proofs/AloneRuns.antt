-- One worker alone takes the time-points of a log one after the other.
use Rattle.std.proofs.Common.{◌≡◌, ◌≤◌, ℕ, List, Option, ap, arith, subst, sym}
use Rattle.mon_outside.specs.Sink.{AppendsFront}
use Rattle.mfotl_model.specs.Formulas.{Form}
use Rattle.mfotl_model.specs.declared.event.TimePoint.{TimePoint}
use Rattle.log_reader.specs.Progress.{Progress, read}
use Rattle.log_reader.specs.Readers.{Reader, Reads, progress}
use Rattle.log_reader.specs.Readings.{Reading}
use Rattle.monitor_state.specs.declared.monitor.Monitor.{Monitor}
use Rattle.monitorable.specs.CoreForms.{CoreForm}
use Rattle.lone_worker.specs.{Alone.WritesAlone, Chunks.StopsLines, Policies.ForEachPolicy, Texts.text_on}
use Rattle.lone_worker.specs.Courses.{HasDone}
use Rattle.lone_worker.specs.declared.{stop.Stop.Stop, tally.Tally.Tally}
use Rattle.lone_worker.specs.declared.stop.Stop.TheVariants.{Log, Read, Sink, Memory}
use Rattle.lone_worker.proofs.{AloneLemmas.falls_none, PointLemmas.rose_later}
use Rattle.lone_worker.proofs.GivenPoints.{IsAmid, front_amid, is_amid}

-- the bytes show what they showed, however many of their time-points were given
pub same_reading : (first reader : Reader) (bytes : List ℕ)
    → reader ≡ record first { given = reader.given; kept = reader.kept }
    → read (progress reader bytes) ≡ read (progress first bytes)
same_reading first reader bytes is = ap (λ (r : Reader). read (progress r bytes)) is

-- some time-points were given, and then some more
pub given_on : (first mid last : Reader) → mid ≡ record first { given = mid.given; kept = mid.kept }
    → last ≡ record mid { given = last.given; kept = last.kept }
    → last ≡ record first { given = last.given; kept = last.kept }
given_on first mid last a b = grind arith

-- what was done with those that were given
pub given_done : {Done : List TimePoint → Type 0} {start : Progress} {reader : Reader} → IsAmid Done start reader
    → HasDone Done (progress reader start.bytes)
given_done {Done} amid = subst (HasDone Done) (sym amid.reader_is) amid.so_far

-- the lines stopped while the output failed later
pub stops_later : (policy : Form) {r s : Reading} (start now : Option (List ℕ)) (before mid after : ℕ) (why : Stop)
    → s ≡ r → before ≤ mid → StopsLines policy s start now mid after why
    → StopsLines policy r start now before after why
stops_later policy start now before mid after (Log fault) is later h =
    subst (λ (shown : Reading). StopsLines policy shown start now before after (Log fault)) is h
stops_later policy start now before mid after Read is later h = absurd h
stops_later policy start now before mid after Sink is later h = rose_later before mid after later h
stops_later policy start now before mid after Memory is later h = tt

-- what was written is a front of what is due
pub front_so_far : {core : CoreForm} {start now : Option (List ℕ)} {monitor : Monitor} {tally : Tally}
    (reader : Reader) {bytes : List ℕ} → Reads reader bytes
    → HasDone (WritesAlone core start monitor now tally) (progress reader bytes)
    → ForEachPolicy core (λ policy. AppendsFront start now (text_on policy (read (progress reader bytes))))
front_so_far reader reads so_far = front_amid (is_amid reads so_far) (λ points. falls_none)
