-- What is read to its end is spelled and keeps the rules, and what is spelled so is read to its end.
use Rattle.std.proofs.Common.{◌≡◌, ℕ, Bool, true, false, List, length, Option, Some, None, Result, Ok, refl, sym, ap}
use Rattle.std.proofs.Common.{◌∙◌, arith}
use Rattle.std.proofs.lemmas.Bool.{le-ltb, ltb-false}
use Rattle.mfotl_lex.proofs.FirstFaultLaws.{bind_ok, one_answer}
use Rattle.mfotl_lex.specs.FirstFault.{◌>>=◌, run, reading as reading_of, ReadIsValue, ValueIsRead, OneAnswer}
use Rattle.mfotl_lex.specs.Lexemes.{Lexeme}
use Rattle.mfotl_lex.specs.declared.fault.LexFault.{LexFault}
use Rattle.mfotl_model.specs.declared.event.TimePoint.{TimePoint}
use Rattle.mfotl_sig.specs.Preds.{PredOf}
use Rattle.log_reader.specs.declared.{fault.LogFault.LogFault, limits.Limits.Limits}
use Rattle.log_reader.specs.Grammar.{PointText, Spells, symbols_of}
use Rattle.log_reader.specs.{Laws.points_or_fault, Laws.whole_answer, Partials.Partial, Partials.nothing_read}
use Rattle.log_reader.specs.{Rules.log_value, Rules.IsValue, Steps.step}
use Rattle.log_reader.specs.LogTexts.{is_long, log_text, tail_behind, tokens_of}
use Rattle.log_reader.specs.Readings.{Reading, Ending, NoFault, run as run_points, reading, accepted}
use Rattle.log_reader.proofs.LogJudging.{last, LogJudged, log_judged}
use Rattle.log_reader.proofs.Paths.{accepts, accepted_by}
use Rattle.log_reader.proofs.Runs.{ended_at, at_tail, ending_by, run_paths, run_ending, finish_ending, log_ending}

-- these time-points, and no fault
abbrev pub whole : List TimePoint → Reading
whole points = record { points = points; ending = NoFault }

no_ending : (r : Result Partial LogFault) → ending_by r ≡ NoFault → (p : Partial) × (r ≡ Ok p)
no_ending r e = grind arith

may_end : (b : Bool) (n : ℕ) (p q : Partial) → accepts p.stage ≡ b → ended_at n p p.stage ≡ Ok q
    → accepts p.stage ≡ true
may_end b n p q e f = grind arith

-- ---- tokens that are all there are

module _ (sig : List PredOf) (limits : Limits) (len : ℕ) (ts : List Lexeme) where
  judged : (log : List PointText) → Spells (symbols_of ts) log
      → LogJudged sig limits len nothing_read limits.points log ts
  judged log s = log_judged sig limits len log limits.points s.stamps nothing_read ts (omega arith) s.spelled

  -- what they spell, and what that stands for
  pub record Spelled (points : List TimePoint) : Type 0 where
    pub log : List PointText
    pub spells : Spells (symbols_of ts) log
    pub value : log_value sig limits 0 limits.points log ≡ Some points

  value_of_read : (points : List TimePoint) (log : List PointText) → Spells (symbols_of ts) log
      → run_points sig limits (last sig limits len) nothing_read ts ≡ whole points
      → LogJudged sig limits len nothing_read limits.points log ts → Spelled points
  value_of_read points log spells e h = grind arith

  pub tokens_spelled : (points : List TimePoint)
      → run_points sig limits (last sig limits len) nothing_read ts ≡ whole points → Spelled points
  tokens_spelled points e =
      let alike = λ (q : Partial). finish_ending len q q.stage in
      let ends : Partial → Result Partial LogFault = λ q. ended_at len q q.stage in
      let ending = sym (run_ending sig limits (last sig limits len) ends alike nothing_read ts)
      ∙ ap (λ (r : Reading). r.ending) e in
      let done = no_ending _ ending in
      let first = bind_ok (run (step sig limits) ts nothing_read) ends done.0 done.1 in
      let accepted = may_end (accepts first.0.stage) len first.0 done.0 refl first.2 in
      let spelled = accepted_by ts first.0.stage (run_paths sig limits nothing_read first.0 ts first.1) accepted in
      value_of_read points spelled.0 spelled.1 e (judged spelled.0 spelled.1)

  read_of_value : (points : List TimePoint) (s : Spelled points)
      → LogJudged sig limits len nothing_read limits.points s.log ts
      → run_points sig limits (last sig limits len) nothing_read ts ≡ whole points
  read_of_value points s h = grind arith

  pub spelled_tokens : (points : List TimePoint) → Spelled points
      → run_points sig limits (last sig limits len) nothing_read ts ≡ whole points
  spelled_tokens points s = read_of_value points s (judged s.log s.spells)

-- ---- bytes that are all there are

-- they are whole tokens, and not too many
record IsWhole (limits : Limits) (bytes : List ℕ) (fault : Option LexFault) : Type 0 where
  pub short : is_long limits bytes ≡ false
  pub whole : fault ≡ None

whole_by : (limits : Limits) (bytes : List ℕ) (fault : Option LexFault) (long : Bool) (p q : Partial)
    → is_long limits bytes ≡ long → at_tail (tail_behind limits bytes true fault) p ≡ Ok q → IsWhole limits bytes fault
whole_by limits bytes fault long p q l e = grind arith

module _ (sig : List PredOf) (limits : Limits) (bytes : List ℕ) where
  abbrev ts : List Lexeme
  ts = (tokens_of limits bytes true).list

  -- where nothing is too long and the bytes are whole tokens
  plainly : (tokens_of limits bytes true).fault ≡ None → is_long limits bytes ≡ false
      → accepted sig limits bytes ≡ run_points sig limits (last sig limits (length bytes)) nothing_read ts
  unfolding reading
  plainly whole short = grind arith

  told_run : (p : Partial) → reading_of (step sig limits) nothing_read at_tail (log_text limits bytes true) ≡ Ok p
      → (run (step sig limits) ts nothing_read >>= at_tail
      (tail_behind limits bytes true (tokens_of limits bytes true).fault)) ≡ Ok p
  unfolding reading_of
  told_run p e = e

  told : (accepted sig limits bytes).ending ≡ NoFault → IsWhole limits bytes (tokens_of limits bytes true).fault
  told e = grind (arith, at_tail, no_ending, log_ending, bind_ok, told_run, whole_by)

  pub read_spelled : (points : List TimePoint) → accepted sig limits bytes ≡ whole points
      → IsValue sig limits bytes points
  read_spelled points e =
      let w = told (ap (λ (r : Reading). r.ending) e) in
      let s = tokens_spelled sig limits (length bytes) ts points (sym (plainly w.whole w.short) ∙ e) in
      record {
        log = s.log;
        short = ltb-false limits.bytes (length bytes) w.short;
        whole = w.whole;
        spells =
            s.spells;
        value = s.value;
      }

  pub spelled_read : (points : List TimePoint) → IsValue sig limits bytes points
      → accepted sig limits bytes ≡ whole points
  spelled_read points v = search (plainly, le-ltb, spelled_tokens)

-- ---- answers

answered : (points : List TimePoint) (ending : Ending) (found : List TimePoint) → points_or_fault points ending ≡ Ok found
    → record { points = points; ending = ending } ≡ whole found
answered points ending found e = grind arith

module _ (sig : List PredOf) (limits : Limits) where
  pub read_is_value : ReadIsValue (whole_answer sig limits) (IsValue sig limits)
  read_is_value bytes points e = read_spelled sig limits bytes points (answered _ _ points e)

  pub value_is_read : ValueIsRead (whole_answer sig limits) (IsValue sig limits)
  value_is_read bytes points v = cc (spelled_read sig limits bytes points v)

  pub one_of_two : OneAnswer (whole_answer sig limits) (IsValue sig limits)
  one_of_two = one_answer (whole_answer sig limits) (IsValue sig limits) read_is_value value_is_read
