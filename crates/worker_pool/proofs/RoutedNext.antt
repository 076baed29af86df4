-- What the reader's next answer means: one time-point more was routed, or none is left.
use Rattle.std.proofs.Common.{◌≡◌, ◌∙◌, ap, subst, sym, refl, ℕ, ◌+◌, ◌<◌, ◌^◌, List, [], drop}
use Rattle.std.specs.Prelude.{Ok}
use Rattle.mfotl_model.specs.declared.event.TimePoint.{TimePoint}
use Rattle.log_reader.specs.Progress.{Progress, next_answer, read}
use Rattle.log_reader.specs.Readers.{ForEach, Reader, Reads, progress}
use Rattle.log_reader.specs.Readings.{NoFault}
use Rattle.log_reader.specs.declared.next.Next.TheVariants.{Point, More, End}
use Rattle.turn_hub.specs.Ends.{IsMainOf}
use Rattle.lone_worker.specs.Courses.{HasDone}
use Rattle.lone_worker.proofs.GivenPoints.{IsAmid, is_amid, one_done}
use Rattle.lone_worker.proofs.PointLemmas.{GivesEnding, gives_end, gives_more, one_more_given}
use Rattle.main_steps.specs.{Hands.WorkerHub, Steps.MainState, Writing.AddsPoint}
use Rattle.main_steps.specs.Changes.{HaveCells, Suits, changes_due, changes_later}
use Rattle.main_steps.specs.declared.schedule.Schedule.{Schedule}
use Rattle.worker_pool.specs.{Chunks.Routes, Routing.HasGivenAll}
use Rattle.worker_pool.specs.{Routing.Routed}
use Rattle.worker_pool.proofs.RoutedPoints.{routed_more}

-- ---- one time-point more

-- what was done with those that were given
done_amid : {Done : List TimePoint → Type 0} {start : Progress} {reader : Reader} → IsAmid Done start reader
    → HasDone Done (progress reader start.bytes)
done_amid {Done} amid = subst (λ (p : Progress). HasDone Done p) (sym amid.reader_is) amid.so_far

-- it was read behind the changes that were due
pub one_routed : {hub : WorkerHub} {cells : ℕ} {before after : Schedule} {old new : MainState} (first : Reader)
    {next : Reader} (point : TimePoint) → ForEach first (λ bytes. next_answer (progress first bytes) ≡ Ok (Point point))
    → next ≡ record first { given = first.given + 1; kept = next.kept } → next.given < 2 ^ 32
    → ForEach first (λ bytes. Reads next bytes) → before.routed ≡ first.given → IsMainOf hub new.driver.main
    → Suits new.driver after → HaveCells cells after → after.routed ≡ before.routed + 1
    → after.changes.items ≡ changes_later before.routed before.changes.items
    → AddsPoint old.driver old.written old.tally (changes_due before.routed before.changes.items) point
    new.driver new.written new.tally → Routed hub cells before after first next old new
one_routed {after = after} {new = new} first {next} point gives is narrow reads same main suits seated more left
    adds = record {
      main = main;
      suits = suits;
      seated = seated;
      routed = more ∙ ap (λ n. n + 1) same ∙ sym (ap (λ (r : Reader). r.given) is);
      reader_is = one_more_given first first next refl is;
      reads = reads;
      so_far = λ core plan bytes start fed so_far.
          let amid : IsAmid (Routes core plan start new.driver after.changes.items new.written new.tally)
          (progress first bytes) next =
          one_done (is_amid fed so_far) point (gives bytes fed) is narrow (reads bytes fed)
          (routed_more first.given point (rw same at adds) (rw same at left)) in
          done_amid amid;
    }

-- ---- no time-point is left

module _ (reader : Reader) {next : Reader} (after : next ≡ record reader { kept = next.kept }) where
  same_progress : (bytes : List ℕ) → progress reader bytes ≡ progress next bytes
  same_progress bytes = sym (ap (λ (r : Reader). progress r bytes) after)

  same_given : reader.given ≡ next.given
  same_given = sym (ap (λ (r : Reader). r.given) after)

  -- the reader gave none
  pub none_routed : {hub : WorkerHub} {cells : ℕ} {schedule : Schedule} {now : MainState}
      → IsMainOf hub now.driver.main → Suits now.driver schedule → HaveCells cells schedule
      → schedule.routed ≡ reader.given → ForEach reader (λ bytes. Reads next bytes)
      → Routed hub cells schedule schedule reader next now now
  none_routed {schedule = schedule} {now = now} main suits seated routed reads = record {
    main = main;
    suits = suits;
    seated = seated;
    routed = routed ∙ same_given;
    reader_is = after ∙ ap (λ n. record reader { given = n; kept = next.kept }) same_given;
    reads = reads;
    so_far = λ core plan bytes start fed so_far.
        subst (λ (p : Progress). HasDone (Routes core plan start now.driver schedule.changes.items now.written
        now.tally) p) (same_progress bytes) so_far;
  }

  given_all : (bytes : List ℕ) → GivesEnding (drop reader.given (read (progress reader bytes)).points)
      (read (progress reader bytes)).ending NoFault → HasGivenAll next bytes
  given_all bytes g = record {
    none = subst (λ (p : Progress). drop p.given (read p).points ≡ []) (same_progress bytes) g.none;
    clear = subst (λ (p : Progress). (read p).ending ≡ NoFault) (same_progress bytes) g.ending_is;
  }

  pub given_for_more : (bytes : List ℕ) → next_answer (progress reader bytes) ≡ Ok More → HasGivenAll next bytes
  given_for_more bytes e =
      given_all bytes
      (gives_more reader.is_ended (drop reader.given (read (progress reader bytes)).points) _ e)

  pub given_at_end : (bytes : List ℕ) → next_answer (progress reader bytes) ≡ Ok End → HasGivenAll next bytes
  given_at_end bytes e =
      given_all bytes (gives_end reader.is_ended (drop reader.given (read (progress reader bytes)).points) _ e)
