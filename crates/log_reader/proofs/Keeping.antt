-- What the cursor answers is due, and keeps what is kept true.
use Rattle.std.proofs.Common.{◌≡◌, ℕ, Bool, false, List, [], ◌∷◌, Option, Some, None, Result, Ok, Err, sym, ap, subst}
use Rattle.std.proofs.Common.{◌∙◌, arith, append-nil, drop}
use Rattle.mfotl_model.specs.declared.event.TimePoint.{TimePoint}
use Rattle.mfotl_sig.specs.Preds.{PredOf}
use Rattle.log_reader.specs.declared.{fault.LogFault.LogFault, fault.LogFault.TheVariants.Memory, limits.Limits.Limits}
use Rattle.log_reader.specs.declared.{next.Next.Next, next.Next.TheVariants.Point, next.Next.TheVariants.More}
use Rattle.log_reader.specs.Cursors.{given_of, Leads, Exhausts, BreaksBy, AdvancesToPoint, behind_answer}
use Rattle.log_reader.specs.{Given.Gives, Partials.Partial, Progress.answer_of, Progress.skipped}
use Rattle.log_reader.specs.Readings.{Reading, behind, run_from, nothing_behind, nothing_left, reading}
use Rattle.log_reader.specs.Soundness.{StandsForLog, IsInStretch, AnswersDue, StandsOn, is_wanting, CountsOn}
use Rattle.log_reader.specs.Stretches.{Stretch, Waits, stretch_end, looked_at, is_end_told, stretch_place}
use Rattle.log_reader.proofs.TokenSteps.{later_self}
use Rattle.log_reader.proofs.ReaderSoundness.{stands_leads, stands_end, end_counts, end_counted, due_rest, due_end}
use Rattle.log_reader.proofs.ReaderSoundness.{waits_by}

-- ---- what a call answers

gives_due : (answer due : Result Next LogFault) → due ≡ answer → Gives (λ next. next) answer due
gives_due answer due e = grind arith

-- what an answer of the cursor owes
pub record Owed (sig : List PredOf) (limits : Limits) (is_ended : Bool) (s : Stretch) (at : ℕ) (p : Partial)
    (answer : Result Next LogFault) (at' : ℕ) (q : Partial) : Type 0 where
  pub due : AnswersDue sig limits is_ended s at p answer
  pub stands : is_wanting answer ≡ false → StandsOn sig limits is_ended s at p at' q
  pub within : is_wanting answer ≡ false → IsInStretch limits s at' q
  pub counts : CountsOn (given_of p) answer (given_of q)
  pub waits : answer ≡ Ok More → Waits limits s at'

-- behind what an advance gave, at what its arguments are
module _ (sig : List PredOf) (limits : Limits) (s : Stretch) (from : ℕ) (looked : List ℕ) (is_ended told : Bool)
    (at : ℕ) (p : Partial) (result : Result (Option TimePoint) LogFault) (at' : ℕ) (q : Partial)
    (begins : from ≡ s.from) (look : looked ≡ looked_at limits s) (end : told ≡ is_end_told limits s is_ended)
    (a : AdvancesToPoint sig limits from looked told at p result at' q) (w : IsInStretch limits s at p) where
  abbrev AdvancesTo : Result (Option TimePoint) LogFault → Type 0
  AdvancesTo r = AdvancesToPoint sig limits s.from (looked_at limits s) (is_end_told limits s is_ended) at p r at' q

  abbrev LeadsOn : List TimePoint → Type 0
  LeadsOn points = Leads sig limits s.from (looked_at limits s) (is_end_told limits s is_ended) at p points at' q

  abbrev Answered : Result Next LogFault → Partial → Type 0
  Answered answer r = Owed sig limits is_ended s at p answer at' r

  advanced : AdvancesTo result
  advanced = rw (begins, look, end) at a

  -- the reading of what there is by now
  leads_now : (points : List TimePoint) → LeadsOn points → (last : Partial → Reading)
      → run_from sig limits last p (stretch_place limits s is_ended at)
      ≡ behind points (run_from sig limits last q (stretch_place limits s is_ended at'))
  leads_now points l last =
      grind (arith, append-nil (drop at (looked_at limits s)), append-nil (drop at' (looked_at limits s)), later_self)

  stands_led : (points : List TimePoint) → LeadsOn points → StandsOn sig limits is_ended s at p at' q
  stands_led points l log st =
      rw l.given (stands_leads sig limits log is_ended s (given_of p) at at' p q points w.within st l)

  within_led : (points : List TimePoint) → LeadsOn points → IsInStretch limits s at' q
  within_led points l = record { within = l.within; counted = l.counted }

  -- what the rest begins with is due
  due_led : (points : List TimePoint) → LeadsOn points → (log : List ℕ)
      → StandsForLog sig limits is_ended (given_of p) s at p log
      → answer_of is_ended (skipped (given_of p) (reading sig limits log is_ended)) ≡ answer_of is_ended (behind points
      (run_from sig limits (nothing_left limits log is_ended) q (stretch_place limits s is_ended at')))
  due_led points l log st = grind (arith, due_rest, leads_now)

  -- a time-point
  pub owed_point : (point : TimePoint) → result ≡ Ok (Some point) → Answered (Ok (Point point)) q
  owed_point point is =
      let l : LeadsOn (point ∷ []) = subst AdvancesTo is advanced in
      record {
        due = λ log st. due_led (point ∷ []) l log st;
        stands = λ fine. stands_led (point ∷ []) l;
        within = λ fine. within_led (point ∷ []) l;
        counts = l.given;
        waits = λ e. absurd cc;
      }

  -- a fault
  owed_by : (fault : LogFault)
      → BreaksBy sig limits s.from (looked_at limits s) (is_end_told limits s is_ended) at p fault at' q
      → Answered (Err fault) q
  owed_by Memory b = grind arith
  owed_by fault b = record {
    due = λ log st. due_led [] b.leads log st ∙ ap (λ (r : Reading). answer_of is_ended (behind [] r))
        (b.again (nothing_left limits log is_ended));
    stands = λ fine. stands_led [] b.leads;
    within = λ fine. within_led [] b.leads;
    counts = omega (arith, b.leads.given);
    waits = λ e. absurd cc;
  }

  pub owed_fault : (fault : LogFault) → result ≡ Err fault → Answered (Err fault) q
  owed_fault fault is = owed_by fault (subst AdvancesTo is advanced)

  -- where no whole token is left, the end gives the answer
  pub owed_end : result ≡ Ok None → (answer : Result Next LogFault) (r : Partial)
      → answer ≡ answer_of is_ended (nothing_behind limits (stretch_end s) is_ended q) → r ≡ behind_answer q answer
      → Answered answer r
  owed_end is answer r e m =
      let x : Exhausts sig limits s.from (looked_at limits s) (is_end_told limits s is_ended) at p at' q =
      subst AdvancesTo is advanced in
      let here : StandsOn sig limits is_ended s at p at' q = stands_led [] x.leads in
      let same : given_of q ≡ given_of p = omega (arith, x.leads.given) in
      record {
        due = λ log st. gives_due answer _ (due_led [] x.leads log st
            ∙ sym (due_rest sig limits log is_ended s (given_of q) at' q (here log st))
            ∙ due_end sig limits log is_ended s (given_of q) at' q (here log st) x.empty ∙ sym e);
        stands = λ fine log st.
            stands_end sig limits log is_ended s at' q x.leads.counted (here log st) x.empty r answer e m;
        within = λ fine. record { within = x.leads.within; counted = end_counted q r answer x.leads.counted m };
        counts = end_counts limits (stretch_end s) is_ended (given_of p) q r answer x.leads.counted x.leads.given e m;
        waits = λ more. waits_by limits s is_ended at' q x.leads.within x.empty x.bare (sym more ∙ e);
      }
