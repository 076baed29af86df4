-- The time-points that a reader gives, and what is done with them.
use Rattle.std.proofs.Common.{◌≡◌, ◌∙◌, ap, subst, sym, refl, ℕ, ◌+◌, ◌<◌, ◌^◌, arith, List, [], ◌∷◌, ◌++◌, length}
use Rattle.std.proofs.Common.{take, drop, Option, length-append}
use Rattle.std.specs.Prelude.{Ok, Err}
use Rattle.std.proofs.lemmas.List.{take-append-drop, take-append-le, take_all}
use Rattle.mon_outside.specs.Sink.{Appends, AppendsFront}
use Rattle.mfotl_model.specs.{Log.times, Times.NeverFalls}
use Rattle.mfotl_model.specs.declared.event.TimePoint.{TimePoint}
use Rattle.log_reader.specs.Given.{Fails}
use Rattle.log_reader.specs.Progress.{Progress, next_answer, read}
use Rattle.log_reader.specs.Readers.{Reader, Reads, progress}
use Rattle.log_reader.specs.Readings.{NoFault, Ending, Fault, Reading}
use Rattle.log_reader.specs.declared.fault.LogFault.{LogFault}
use Rattle.log_reader.specs.declared.fault.LogFault.TheVariants as log
use Rattle.log_reader.specs.declared.next.Next.TheVariants.{Point, More, End}
use Rattle.monitorable.specs.CoreForms.{CoreForm}
use Rattle.monitor_state.specs.Verdicts.{MayFollow}
use Rattle.lone_worker.specs.{Chunks.StopsLines, Chunks.stop_for, Policies.ForEachPolicy, Texts.lines, Texts.text_on}
use Rattle.lone_worker.specs.{Verdicts.Falls}
use Rattle.lone_worker.specs.Courses.{HasDone, HasDoneAll, Settles}
use Rattle.lone_worker.specs.declared.{stop.Stop.Stop, tally.Tally.Tally}
use Rattle.lone_worker.proofs.VerdictLemmas.{policy_verdicts}
use Rattle.lone_worker.proofs.PointLemmas.{GivesEnding, GivesPoint, falls_front, front_rises, gives_end, gives_fault}
use Rattle.lone_worker.proofs.PointLemmas.{gives_more, gives_point, points_rise, split_one, take_none_left}

-- before it gave one more, the reader had given few
pub few_before : (old : Reader) {new : Reader} → new ≡ record old { given = old.given + 1; kept = new.kept }
    → new.given < 2 ^ 32 → old.given < 2 ^ 63
few_before old after narrow =
    let given = ap (λ (r : Reader). r.given) after in
    omega (arith, given, narrow)

-- so many time-points of those that a progress shows were given, and this was done with them
pub record IsAmid (Done : List TimePoint → Type 0) (start : Progress) (reader : Reader) : Type 0 where
  pub reads : Reads reader start.bytes
  pub reader_is : progress reader start.bytes ≡ record start { given = reader.given }
  pub so_far : HasDone Done (record start { given = reader.given })

-- what was done stays done, in another way
pub still_amid : {Done More : List TimePoint → Type 0} {start : Progress} {reader : Reader}
    → IsAmid Done start reader → ((points : List TimePoint) → Done points → More points) → IsAmid More start reader
still_amid amid keeps = record {
  reads = amid.reads;
  reader_is = amid.reader_is;
  so_far = record { counted = amid.so_far.counted; done = keeps _ amid.so_far.done };
}

-- as many as were given before
pub is_amid : {Done : List TimePoint → Type 0} {reader : Reader} {bytes : List ℕ} → Reads reader bytes
    → HasDone Done (progress reader bytes) → IsAmid Done (progress reader bytes) reader
is_amid reads so_far = record { reads = reads; reader_is = refl; so_far = so_far }

module _ {Done : List TimePoint → Type 0} {start : Progress} {reader : Reader} (amid : IsAmid Done start reader) where
  answers : next_answer (record start { given = reader.given }) ≡ next_answer (progress reader start.bytes)
  answers = sym (ap next_answer amid.reader_is)

  -- what was written is a front of what is due
  pub front_amid : {core : CoreForm} {old now : Option (List ℕ)}
      → ((points : List TimePoint) → Done points → Falls core points old now)
      → ForEachPolicy core (λ policy. AppendsFront old now (text_on policy (read start)))
  front_amid falls policy is =
      falls_front _ policy is (read start) _ (drop reader.given (read start).points)
      (sym (take-append-drop reader.given (read start).points)) (points_rise start) _ _ (falls _ amid.so_far.done)

  -- ---- one time-point more
  module _ (point : TimePoint) (gives : next_answer (progress reader start.bytes) ≡ Ok (Point point)) {next : Reader}
      (after : next ≡ record reader { given = reader.given + 1; kept = next.kept })
      (narrow : next.given < 2 ^ 32) where
    given : GivesPoint (drop reader.given (read start).points) point
    given = gives_point start.is_ended (drop reader.given (read start).points) (read start).ending point
        (answers ∙ gives)

    split : (read start).points ≡ (take reader.given (read start).points ++ point ∷ []) ++ given.rest
    split = split_one reader.given (read start).points point given.rest given.points_are

    -- it may follow those before
    pub may_follow : MayFollow (take reader.given (read start).points) point
    may_follow =
        let room = few_before reader after narrow in
        let count = amid.so_far.counted in
        let rises = front_rises (take reader.given (read start).points ++ point ∷ []) given.rest
        (subst (λ xs. NeverFalls (times xs)) split (points_rise start)) in
        record { room = omega arith; rising = rises }

    -- what was written when it was done with is a front of what is due
    pub front_behind_one : {core : CoreForm} {old now : Option (List ℕ)}
        → ((points : List TimePoint) → MayFollow points point → Done points → Falls core (points ++ point ∷ []) old now)
        → ForEachPolicy core (λ policy. AppendsFront old now (text_on policy (read start)))
    front_behind_one falls policy is =
        falls_front _ policy is (read start) _ given.rest split (points_rise start) _ _
        (falls _ may_follow amid.so_far.done)

    -- it was done with
    pub one_done : {More : List TimePoint → Type 0} → Reads next start.bytes
        → ((points : List TimePoint) → length points ≡ reader.given → MayFollow points point → Done points
        → More (points ++ point ∷ [])) → IsAmid More start next
    one_done {More} reads does =
        let ps : List TimePoint = (read start).points in
        let n : ℕ = reader.given in
        let one_given : next.given ≡ n + 1 = ap (λ (r : Reader). r.given) after in
        let front : List TimePoint = take n ps ++ point ∷ [] in
        let count : length front ≡ n + 1 =
        length-append (take n ps) (point ∷ []) ∙ ap (λ k. k + 1) amid.so_far.counted in
        let one : take next.given ps ≡ front = ap (λ k. take k ps) one_given ∙ ap (take (n + 1)) split
        ∙ take-append-le (n + 1) front given.rest (omega (arith, count))
        ∙ take_all (n + 1) front (omega (arith, count)) in
        record {
          reads = reads;
          reader_is = ap (λ (r : Reader). progress r start.bytes) after
              ∙ ap (λ (p : Progress). record p { given = n + 1 }) amid.reader_is
              ∙ ap (λ k. record start { given = k }) (sym one_given);
          so_far = record {
            counted = ap length one ∙ count ∙ sym one_given;
            done = subst More (sym one) (does (take n ps) amid.so_far.counted may_follow amid.so_far.done);
          };
        }

  -- ---- no time-point more

  -- it was done with all of them, and all their lines were written
  module _ {core : CoreForm} {old now : Option (List ℕ)} {tally : Tally}
      (settles : (points : List TimePoint) → Done points → Settles core points old now tally) where
    all_settled : {ending : Ending} → GivesEnding (drop reader.given (read start).points) (read start).ending ending
        → Settles core (read start).points old now tally
    all_settled g = subst (λ ps. Settles core ps old now tally)
        (take_none_left reader.given (read start).points g.none) (settles _ amid.so_far.done)

    all_done : {next : Reader} → next ≡ record reader { kept = next.kept } → Reads next start.bytes
        → GivesEnding (drop reader.given (read start).points) (read start).ending NoFault
        → HasDoneAll core Done next start.bytes old now tally
    all_done {next} after reads g =
        let is : progress next start.bytes ≡ record start { given = reader.given } =
        ap (λ (r : Reader). progress r start.bytes) after ∙ amid.reader_is in
        let same = ap read is in
        record {
          reads = reads;
          so_far = subst (HasDone Done) (sym is) amid.so_far;
          all = ap (λ (p : Progress). p.given) is ∙ sym amid.so_far.counted ∙ ap length
              (take_none_left reader.given (read start).points g.none ∙ sym (ap (λ (r : Reading). r.points) same));
          clear = ap (λ (r : Reading). r.ending) same ∙ g.ending_is;
          settles = subst (λ (r : Reading). Settles core r.points old now tally) (sym same) (all_settled g);
        }

    pub done_for_more : {next : Reader} → next ≡ record reader { kept = next.kept } → Reads next start.bytes
        → next_answer (progress reader start.bytes) ≡ Ok More → HasDoneAll core Done next start.bytes old now tally
    done_for_more after reads e =
        all_done after reads (gives_more start.is_ended (drop reader.given (read start).points) _ (answers ∙ e))

    pub done_at_end : {next : Reader} → next ≡ record reader { kept = next.kept } → Reads next start.bytes
        → next_answer (progress reader start.bytes) ≡ Ok End → HasDoneAll core Done next start.bytes old now tally
    done_at_end after reads e =
        all_done after reads (gives_end start.is_ended (drop reader.given (read start).points) _ (answers ∙ e))

    -- the fault stands behind all lines
    at_fault : (fault : LogFault) → next_answer (progress reader start.bytes) ≡ Err fault
        → ForEachPolicy core (λ policy.
        ((read start).ending ≡ Fault fault) × Appends old now (text_on policy (read start)))
    unfolding text_on
    at_fault fault e policy is =
        let g = gives_fault start.is_ended (drop reader.given (read start).points) _ fault (answers ∙ e) in (
          g.ending_is,
          subst (λ vs. Appends old now (lines vs)) (policy_verdicts core policy is (read start).points)
              (all_settled g).text,
        )

    -- the fault stops the lines
    pub stops_at : (fault : LogFault) (why : Stop) → why ≡ stop_for fault
        → Fails fault (next_answer (progress reader start.bytes)) → (before after : ℕ)
        → ForEachPolicy core (λ policy. StopsLines policy (read start) old now before after why)
    stops_at log.Memory why is e before after policy core_is = rw is tt
    stops_at fault why is e before after policy core_is = rw is (at_fault fault e policy core_is)
