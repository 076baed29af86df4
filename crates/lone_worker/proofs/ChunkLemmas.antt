-- Chunk after chunk of a log.
use Rattle.std.proofs.Common.{◌≡◌, ◌∙◌, ap, ap₂, subst, sym, refl, ℕ, ◌<◌, ◌≤◌, Bool, true, false, List, [], ◌++◌}
use Rattle.std.proofs.Common.{length, take, Option, Some, None, append-nil, arith}
use Rattle.std.proofs.{lemmas.List.take-append-le}
use Rattle.std.proofs.KnownBytes.{Consumes-nil, Consumes-trans, Consumes-whole}
use Rattle.std.specs.Prelude.{Result, Ok, Err}
use Rattle.mon_outside.specs.{Inputs.Consumes, Inputs.Moves, Sink.Appends, Sink.AppendsFront}
use Rattle.mfotl_model.specs.Formulas.{Form}
use Rattle.mfotl_model.specs.declared.event.TimePoint.{TimePoint}
use Rattle.mfotl_sig.specs.Preds.{PredOf}
use Rattle.log_reader.proofs.GrowthLemmas.{front_stays}
use Rattle.log_reader.specs.Growth.{ExtendsReading}
use Rattle.log_reader.specs.Progress.{Progress, read, nothing_fed}
use Rattle.log_reader.specs.Readers.{ForEach, Reader, Reads, progress}
use Rattle.log_reader.specs.Readings.{NoFault, Reading, reading, shown}
use Rattle.log_reader.specs.declared.limits.Limits.{Limits}
use Rattle.monitorable.specs.CoreForms.{CoreForm}
pub use Rattle.lone_worker.specs.Courses.{Course}
use Rattle.lone_worker.specs.{Effects.Effect, Endings.EndsBy, Endings.FollowsLog, Policies.IsCoreOf}
use Rattle.lone_worker.specs.Chunks.{Feeds, IsChunkStop, ReadsChunk, ReadsOn, StopsLines, run_end}
use Rattle.lone_worker.specs.Courses.{HasDone, HasDoneAll, Settles}
use Rattle.lone_worker.specs.Texts.{lines, tally_of, tally_on, text_on}
use Rattle.lone_worker.specs.declared.{end.End.End, stop.Stop.Stop, tally.Tally.Tally}
use Rattle.lone_worker.specs.declared.stop.Stop.TheVariants.{Log, Read, Sink, Memory}
use Rattle.lone_worker.proofs.{LogTimes.read_never_falls, PointLemmas.first_text, SinkLemmas.longer_front}
use Rattle.lone_worker.proofs.{SinkLemmas.whole_front, VerdictLemmas.policy_verdicts}

-- the first time-points stay where more comes behind them
front_same : (n : ℕ) (s a : Reading) → ExtendsReading s a → n ≡ length s.points → take n a.points ≡ take n s.points
front_same n s a k count = rw k.points (take-append-le n s.points k.more (omega (arith, count)))

-- the reader's reading, by its signature and its limits
read_is : {sig : List PredOf} {limits : Limits} (reader : Reader) (bytes : List ℕ) → reader.sig ≡ sig
    → reader.limits ≡ limits → read (progress reader bytes) ≡ reading sig limits bytes reader.is_ended
read_is reader bytes sig_is limits_is =
    ap₂ (λ (s : List PredOf) (l : Limits). reading s l bytes reader.is_ended) sig_is limits_is

-- a read consumed what it moved
pub moved : (before after : Option (List ℕ)) (buffer : List ℕ) (count : ℕ) → Moves before after buffer count
    → Consumes before after (take count buffer)
moved None after buffer count m = tt
moved (Some all) after buffer count m = rw m.new_is m.next

-- the lines stopped
stops_end : (policy : Form) (e : Effect) (ended : Bool) (r : Reading) (before : ℕ) (why : Stop) → e.old.faults ≤ before
    → StopsLines policy r e.old.written e.new.written before e.new.faults why
    → EndsBy ended policy r e (run_end (Err why))
stops_end policy e ended r before (Log fault) later h = record { shows = h.0; written = h.1 }
stops_end policy e ended r before Read later h = absurd h
stops_end policy e ended r before Sink later h = omega arith
stops_end policy e ended r before Memory later h = tt

-- a chunk was fed
pub fed : (old new : Reader) (before : Option (List ℕ)) (chunk : List ℕ) → old.is_ended ≡ false → 0 < length chunk
    → new ≡ record old { is_fed = true; kept = new.kept } → ForEach old (λ bytes. Reads new (bytes ++ chunk))
    → Feeds old new before chunk
fed old new before chunk untold some e reads =
    let told : new.is_fed ≡ true = ap (λ (r : Reader). r.is_fed) e in
    let ended : new.is_ended ≡ old.is_ended = ap (λ (r : Reader). r.is_ended) e in
    record {
      same = e ∙ ap₂ (λ f d. record old { is_fed = f; is_ended = d; kept = new.kept }) (sym told) (sym ended);
      reads = reads;
      whole = λ end. absurd cc;
      goes_on = λ going. some;
    }

-- where the output handed on what it held, the chunk alone counts
pub chunk_reads_on : {old new : Reader} (e : Effect) (r : Result Unit Stop)
    → ReadsChunk old new e.before.rest e.after.rest e.before.faults e.after.faults r → ReadsOn old new e r
chunk_reads_on e (Err Sink) reads = absurd reads.failed
chunk_reads_on e r reads = reads

-- Besides, it was done with all that the bytes show, all its lines were written, and they show no fault.
pub record Settled (core : CoreForm) (Done : List TimePoint → Type 0) (sig : List PredOf) (limits : Limits)
    (first rest : Option (List ℕ)) (reader : Reader) (old now : Option (List ℕ)) (tally : Tally) : Type 0 where
  pub course : Course Done sig limits first rest reader
  pub all : reader.given ≡ length (reading sig limits course.bytes reader.is_ended).points
  pub clear : (reading sig limits course.bytes reader.is_ended).ending ≡ NoFault
  pub settles : Settles core (reading sig limits course.bytes reader.is_ended).points old now tally

-- nothing was read
pub course_begins : {Done : List TimePoint → Type 0} {sig : List PredOf} {limits : Limits} {reader : Reader}
    (first : Option (List ℕ)) → progress reader [] ≡ nothing_fed sig limits → Reads reader [] → Done []
    → Course Done sig limits first first reader
course_begins {Done} {reader = reader} first fresh reads begun = record {
  bytes = [];
  reads = reads;
  sig_is = ap (λ (p : Progress). p.sig) fresh;
  limits_is = ap (λ (p : Progress). p.limits) fresh;
  taken = Consumes-nil first;
  whole = λ told. let is : reader.is_ended ≡ false = ap (λ (p : Progress). p.is_ended) fresh in absurd cc;
  so_far = subst (λ (p : Progress). HasDone Done p) (sym fresh) (record { counted = refl; done = begun });
}

module _ {core : CoreForm} {Done : List TimePoint → Type 0} {sig : List PredOf} {limits : Limits}
    {first rest : Option (List ℕ)} {reader : Reader} where
  -- the time-points that are complete were taken
  pub settles : {Next : List TimePoint → Type 0} {next : Reader} {old now : Option (List ℕ)} {tally : Tally}
      → (course : Course Done sig limits first rest reader)
      → next ≡ record reader { given = next.given; kept = next.kept }
      → HasDoneAll core Next next course.bytes old now tally
      → Settled core Next sig limits first rest next old now tally
  settles {next = next} course is all =
      let sig_is : next.sig ≡ sig = ap (λ (r : Reader). r.sig) is ∙ course.sig_is in
      let limits_is : next.limits ≡ limits = ap (λ (r : Reader). r.limits) is ∙ course.limits_is in
      record {
        course = record {
          bytes = course.bytes;
          reads = all.reads;
          sig_is = sig_is;
          limits_is = limits_is;
          taken = course.taken;
          whole = λ told. course.whole (sym (ap (λ (r : Reader). r.is_ended) is) ∙ told);
          so_far = all.so_far;
        };
        all = rw (sig_is, limits_is) at all.all;
        clear = rw (sig_is, limits_is) at all.clear;
        settles = rw (sig_is, limits_is) at all.settles;
      }

module _ {core : CoreForm} {Done : List TimePoint → Type 0} {sig : List PredOf} {limits : Limits}
    {first rest : Option (List ℕ)} {reader : Reader} {old mid : Option (List ℕ)} {tally : Tally} where
  -- one chunk more was fed
  pub one_more_chunk : {next : Reader} {more : Option (List ℕ)}
      → Settled core Done sig limits first rest reader old mid tally → reader.is_ended ≡ false → (chunk : List ℕ)
      → Consumes rest more chunk → Feeds reader next rest chunk → Course Done sig limits first more next
  one_more_chunk {next} {more} s untold chunk taken feeds =
      let c = s.course in
      let bytes = c.bytes ++ chunk in
      let sig_is : next.sig ≡ sig = ap (λ (r : Reader). r.sig) feeds.same ∙ c.sig_is in
      let limits_is : next.limits ≡ limits = ap (λ (r : Reader). r.limits) feeds.same ∙ c.limits_is in
      let given : next.given ≡ reader.given = ap (λ (r : Reader). r.given) feeds.same in
      let points : take next.given (read (progress next bytes)).points
      ≡ take reader.given (read (progress reader c.bytes)).points =
      rw (given, sig_is, limits_is, c.sig_is, c.limits_is, untold) (front_same reader.given (shown sig limits c.bytes)
      (reading sig limits bytes next.is_ended) (front_stays sig limits c.bytes chunk next.is_ended)
      (rw untold at s.all)) in
      record {
        bytes = bytes;
        reads = feeds.reads c.bytes c.reads;
        sig_is = sig_is;
        limits_is = limits_is;
        taken = Consumes-trans first rest more c.bytes chunk c.taken taken;
        whole = λ told.
            let w = feeds.whole told in
            rw (w.1, append-nil) (Consumes-whole first rest c.bytes (λ all. all ≡ c.bytes) c.taken w.0 refl);
        so_far = record {
          counted = ap length points ∙ c.so_far.counted ∙ sym given;
          done = subst Done (sym points) c.so_far.done;
        };
      }

  module _ (policy : Form) (is : IsCoreOf core policy) where
    -- all lines were written
    settled_text : (s : Settled core Done sig limits first rest reader old mid tally)
        → Appends old mid (text_on policy (reading sig limits s.course.bytes reader.is_ended))
    unfolding text_on
    settled_text s =
        subst (λ vs. Appends old mid (lines vs))
        (policy_verdicts core policy is (reading sig limits s.course.bytes reader.is_ended).points) s.settles.text

    settled_tally : (s : Settled core Done sig limits first rest reader old mid tally)
        → tally_on policy (reading sig limits s.course.bytes reader.is_ended) ≡ tally
    unfolding tally_on
    settled_tally s =
        sym (s.settles.counts
        ∙ ap tally_of (policy_verdicts core policy is (reading sig limits s.course.bytes reader.is_ended).points))

    -- though more bytes come
    longer_text : (s : Settled core Done sig limits first rest reader old mid tally) → reader.is_ended ≡ false
        → (chunk : List ℕ) → AppendsFront old mid (text_on policy (shown sig limits (s.course.bytes ++ chunk)))
    unfolding text_on
    longer_text s untold chunk =
        let k = front_stays sig limits s.course.bytes chunk false in
        let text = first_text core policy is (shown sig limits (s.course.bytes ++ chunk)) _ k.more k.points
        (read_never_falls sig limits (s.course.bytes ++ chunk) false) in
        subst (AppendsFront old mid) (sym text.1)
        (longer_front old mid _ _ (whole_front old mid _ (rw untold at (settled_text s))))

-- ---- how it ends

module _ {core : CoreForm} {Done : List TimePoint → Type 0} {sig : List PredOf} {limits : Limits} (policy : Form)
    (is : IsCoreOf core policy) (e : Effect) {reader : Reader} where
  -- all lines were written
  pub lines_end : {mid : Option (List ℕ)} {tally : Tally} {end : End} → e.new.written ≡ mid
      → (s : Settled core Done sig limits e.before.rest e.after.rest reader e.old.written mid tally)
      → EndsBy reader.is_ended policy (reading sig limits s.course.bytes reader.is_ended) e end
      → FollowsLog sig limits policy e end
  lines_end same s ends = record {
    bytes = s.course.bytes;
    ended = reader.is_ended;
    taken = s.course.taken;
    whole = s.course.whole;
    ends = ends;
    front = rw same (whole_front _ _ _ (settled_text policy is s));
  }

  -- so it is at the end of the log
  pub finished : {tally : Tally}
      → (s : Settled core Done sig limits e.before.rest e.after.rest reader e.old.written e.new.written tally)
      → reader.is_ended ≡ true → FollowsLog sig limits policy e (run_end (Ok tally))
  finished s told =
      lines_end refl s (told, record { shows = s.clear; written = settled_text policy is s }, settled_tally policy is s)

  -- no more lines could be written, or a fault stands behind them
  pub lines_stop : (c : Course Done sig limits e.before.rest e.after.rest reader) → (why : Stop) (before : ℕ)
      → e.old.faults ≤ before
      → StopsLines policy (read (progress reader c.bytes)) e.old.written e.new.written before e.new.faults why
      → AppendsFront e.old.written e.new.written (text_on policy (read (progress reader c.bytes)))
      → FollowsLog sig limits policy e (run_end (Err why))
  lines_stop c why before later stops part =
      let same = read_is reader c.bytes c.sig_is c.limits_is in
      record {
        bytes = c.bytes;
        ended = reader.is_ended;
        taken = c.taken;
        whole = c.whole;
        ends = stops_end policy e reader.is_ended _ before why later
            (subst (λ (due : Reading). StopsLines policy due e.old.written e.new.written before e.new.faults why)
            same stops);
        front = rw (c.sig_is, c.limits_is) at part;
      }

  -- no more could be read, or fed
  module _ {mid rest : Option (List ℕ)} {tally : Tally} (same : e.new.written ≡ mid)
      (s : Settled core Done sig limits e.before.rest rest reader e.old.written mid tally)
      (untold : reader.is_ended ≡ false) where
    chunk_ends : (chunk : List ℕ) (before : ℕ) (why : Stop) → e.before.faults ≤ before
        → IsChunkStop chunk before e.after.faults why
        → EndsBy false policy (shown sig limits (s.course.bytes ++ chunk)) e (run_end (Err why))
    chunk_ends chunk before (Log fault) later h = absurd h
    chunk_ends chunk before Read later h = rw (h.0, append-nil) (
      refl,
      record { shows = rw untold at s.clear; written = rw same (rw untold at (settled_text policy is s)) },
      omega (arith, h.1),
    )
    chunk_ends chunk before Sink later h = absurd h
    chunk_ends chunk before Memory later h = tt

    pub chunk_failed : {next : Reader} (before : ℕ) (why : Stop) → e.before.faults ≤ before
        → ReadsChunk reader next rest e.after.rest before e.after.faults (Err why)
        → FollowsLog sig limits policy e (run_end (Err why))
    chunk_failed before why later p = record {
      bytes = s.course.bytes ++ p.chunk;
      ended = false;
      taken = Consumes-trans e.before.rest rest e.after.rest s.course.bytes p.chunk s.course.taken p.taken;
      whole = λ told. absurd cc;
      ends = chunk_ends p.chunk before why later p.failed;
      front = rw same (longer_text policy is s untold p.chunk);
    }
