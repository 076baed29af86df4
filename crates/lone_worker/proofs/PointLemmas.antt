-- The time-points that a reader gives, and their lines.
use Rattle.std.proofs.Common.{◌≡◌, ◌∙◌, ap, subst, sym, ℕ, ◌+◌, ◌≤◌, Bool, arith, List, [], ◌∷◌, ◌++◌, take, drop}
use Rattle.std.proofs.Common.{Option, append_assoc, append-nil}
use Rattle.std.specs.Prelude.{Ok, Err}
use Rattle.std.proofs.lemmas.List.{map-append, take-append-drop}
use Rattle.mon_outside.specs.{Causes.Rose, Sink.AppendsFront}
use Rattle.mfotl_model.proofs.TimeLemmas.{front_never_falls}
use Rattle.mfotl_model.specs.{Formulas.Form, Log.times, Times.NeverFalls, VerdictText.verdicts}
use Rattle.mfotl_model.specs.declared.event.TimePoint.{TimePoint}
use Rattle.log_reader.specs.Progress.{Progress, answer_by, read}
use Rattle.log_reader.specs.Readers.{Reader}
use Rattle.log_reader.specs.Readings.{NoFault, Ending, Fault, Reading}
use Rattle.log_reader.specs.declared.fault.LogFault.{LogFault}
use Rattle.log_reader.specs.declared.next.Next.TheVariants.{Point, More, End}
use Rattle.monitorable.proofs.TextFinal.{text_final}
use Rattle.monitorable.specs.{CoreForms.CoreForm, Laws.log_of}
use Rattle.lone_worker.specs.{Policies.IsCoreOf, Texts.lines, Texts.text_on, Verdicts.Falls}
use Rattle.lone_worker.proofs.{LogTimes.read_never_falls, SinkLemmas.longer_front, VerdictLemmas.first_lines}
use Rattle.lone_worker.proofs.{VerdictLemmas.policy_verdicts}

-- what a reader with these time-points left answers
pub record GivesPoint (points : List TimePoint) (point : TimePoint) : Type 0 where
  pub rest : List TimePoint
  pub points_are : points ≡ point ∷ rest

pub gives_point : (ended : Bool) (points : List TimePoint) (ending : Ending) (point : TimePoint)
    → answer_by ended points ending ≡ Ok (Point point) → GivesPoint points point
gives_point ended points ending point e = grind arith

pub record GivesEnding (points : List TimePoint) (ending due : Ending) : Type 0 where
  pub none : points ≡ []
  pub ending_is : ending ≡ due

pub gives_more : (ended : Bool) (points : List TimePoint) (ending : Ending)
    → answer_by ended points ending ≡ Ok More → GivesEnding points ending NoFault
gives_more ended points ending e = grind arith

pub gives_end : (ended : Bool) (points : List TimePoint) (ending : Ending)
    → answer_by ended points ending ≡ Ok End → GivesEnding points ending NoFault
gives_end ended points ending e = grind arith

pub gives_fault : (ended : Bool) (points : List TimePoint) (ending : Ending) (fault : LogFault)
    → answer_by ended points ending ≡ Err fault → GivesEnding points ending (Fault fault)
gives_fault ended points ending fault e = grind arith

pub take_none_left : (n : ℕ) (ps : List TimePoint) → drop n ps ≡ [] → take n ps ≡ ps
take_none_left n ps e = sym (append-nil (take n ps)) ∙ ap (λ xs. take n ps ++ xs) (sym e) ∙ take-append-drop n ps

-- ---- a log and a front of it

pub front_rises : (xs ys : List TimePoint) → NeverFalls (times (xs ++ ys)) → NeverFalls (times xs)
front_rises xs ys rising =
    front_never_falls (times xs) (times ys) (subst NeverFalls (map-append (λ p. p.ts) xs ys) rising)

pub points_rise : (start : Progress) → NeverFalls (times (read start).points)
points_rise start = read_never_falls start.sig start.limits start.bytes start.is_ended

-- the text on what was read begins with that on its first time-points
pub first_text : (core : CoreForm) (policy : Form) → IsCoreOf core policy → (r : Reading) (xs ys : List TimePoint)
    → r.points ≡ xs ++ ys → NeverFalls (times r.points)
    → (rest : List ℕ) × (text_on policy r ≡ lines (verdicts (log_of xs) policy) ++ rest)
unfolding text_on
first_text core policy is r xs ys split rising =
    let more = text_final xs ys is.names policy (subst (λ ps. NeverFalls (times ps)) split rising) is.accepted in
    (more.0, ap (λ ps. lines (verdicts (log_of ps) policy)) split ∙ more.1)

-- the first n of these time-points, and the one behind them
pub split_one : (n : ℕ) (ps : List TimePoint) (p : TimePoint) (rest : List TimePoint) → drop n ps ≡ p ∷ rest
    → ps ≡ (take n ps ++ p ∷ []) ++ rest
split_one n ps p rest e = cc (take-append-drop n ps, append_assoc (take n ps) (p ∷ []) rest)

-- a count that rose is looked at from before
pub rose_later : (before mid now : ℕ) → before ≤ mid → Rose mid now → Rose before now
rose_later before mid now not_before rose = omega arith

-- one time-point more was given
pub one_more_given : (first old new : Reader) → old ≡ record first { given = old.given; kept = old.kept }
    → new ≡ record old { given = old.given + 1; kept = new.kept }
    → new ≡ record first { given = new.given; kept = new.kept }
one_more_given first old new before is = grind arith

-- a front of the lines of the first verdicts on the first time-points is one of the text
pub falls_front : (core : CoreForm) (policy : Form) → IsCoreOf core policy → (r : Reading) (xs ys : List TimePoint)
    → r.points ≡ xs ++ ys → NeverFalls (times r.points) → (old new : Option (List ℕ)) → Falls core xs old new
    → AppendsFront old new (text_on policy r)
falls_front core policy is r xs ys split rising old new falls =
    let text = first_text core policy is r xs ys split rising in
    let some = first_lines core xs falls.count falls.settled in
    let all = ap lines (sym (policy_verdicts core policy is xs)) ∙ some.1 in
    rw (text.1, all) (longer_front old new _ _ (longer_front old new _ _ falls.front))
