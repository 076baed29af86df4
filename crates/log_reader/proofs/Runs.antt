-- A log's tokens as the layer of first faults sees them: a run, and how it ends.
use Rattle.std.proofs.Common.{◌≡◌, ℕ, Bool, List, [], ◌∷◌, Option, Some, Result, Ok, Err, ap, ◌∙◌, arith}
use Rattle.std.specs.Prelude.{option_and_then, if◌then◌else◌}
use Rattle.mfotl_lex.proofs.FirstFaultLaws.{bind_ok}
use Rattle.mfotl_lex.specs.FirstFault.{◌>>=◌, Tail, Broken, End, More, run, reading as reading_of}
use Rattle.mfotl_lex.specs.Lexemes.{Lexeme}
use Rattle.mfotl_lex.specs.declared.fault.LexFault.{LexFault}
use Rattle.mfotl_sig.specs.Preds.{PredOf}
use Rattle.log_reader.specs.declared.{fault.LogFault.LogFault, fault.LogFault.TheVariants.Syntax, limits.Limits.Limits}
use Rattle.log_reader.specs.declared.{stage.Stage.Stage}
use Rattle.log_reader.specs.{Grammar.symbols_of, LogTexts.tail_behind, LogTexts.log_text, Partials.Partial}
use Rattle.log_reader.specs.{Partials.nothing_read, Steps.step}
use Rattle.log_reader.specs.Readings.{Reading, Ending, NoFault, Fault, went_on, run as run_points, behind_tokens}
use Rattle.log_reader.specs.Readings.{finish_at, nothing_left, reading}
use Rattle.log_reader.proofs.{Paths.paths, Paths.accepts, StepStages.step_goes}

-- ---- what the layer asks for

-- what stands behind the tokens, at this stage
abbrev pub ended_at : ℕ → Partial → Stage → Result Partial LogFault
ended_at n p stage = if accepts stage then Ok p else Err (Syntax n)

abbrev pub at_tail : Tail LogFault → Partial → Result Partial LogFault
at_tail (Broken fault) p = Err fault
at_tail (End n) p = ended_at n p p.stage
at_tail More p = Ok p

abbrev pub ending_by : Result Partial LogFault → Ending
ending_by (Ok p) = NoFault
ending_by (Err fault) = Fault fault

pub fault_by : (r : Result Partial LogFault) (fault : LogFault) → ending_by r ≡ Fault fault → r ≡ Err fault
fault_by r fault e = grind arith

-- ---- runs

module _ (sig : List PredOf) (limits : Limits) where
  -- a run without a fault follows the grammar
  pub run_paths : (p q : Partial) (ts : List Lexeme) → run (step sig limits) ts p ≡ Ok q
      → paths p.stage (symbols_of ts) ≡ Some q.stage
  unfolding run
  run_paths p q [] e = let same : p ≡ q = cc in ap (λ (r : Partial). Some r.stage) same
  run_paths p q (t ∷ ts) e =
      let first = bind_ok (step sig limits p t) (λ r. run (step sig limits) ts r) q e in
      ap (option_and_then (λ g. paths g (symbols_of ts))) (step_goes sig limits p t first.0 first.1).stage
      ∙ run_paths first.0 q ts first.2

  module _ (last : Partial → Reading) (ends : Partial → Result Partial LogFault)
      (alike : (q : Partial) → (last q).ending ≡ ending_by (ends q)) where
    went_ending : (ts : List Lexeme) (r : Result Partial LogFault)
        → ((q : Partial) → (run_points sig limits last q ts).ending ≡ ending_by (run (step sig limits) ts q >>= ends))
        → (went_on r (λ q. run_points sig limits last q ts)).ending
        ≡ ending_by ((r >>= λ q. run (step sig limits) ts q) >>= ends)
    went_ending ts r each = grind arith

    -- the time-points aside, a reading ends as its run does
    pub run_ending : (p : Partial) (ts : List Lexeme)
        → (run_points sig limits last p ts).ending ≡ ending_by (run (step sig limits) ts p >>= ends)
    unfolding run run_points
    run_ending p [] = alike p
    run_ending p (t ∷ ts) = went_ending ts (step sig limits p t) (λ q. run_ending q ts)

-- ---- the end

pub finish_ending : (n : ℕ) (p : Partial) (stage : Stage)
    → (finish_at n p stage).ending ≡ ending_by (ended_at n p stage)
finish_ending n p stage = grind arith

pub tail_ending : (limits : Limits) (bytes : List ℕ) (ended : Bool) (lexical : Option LexFault) (p : Partial)
    → (behind_tokens lexical (nothing_left limits bytes ended) p).ending
    ≡ ending_by (at_tail (tail_behind limits bytes ended lexical) p)
tail_ending limits bytes ended lexical p = grind arith

-- how a log's reading ends is what the layer reads
pub log_ending : (sig : List PredOf) (limits : Limits) (bytes : List ℕ) (ended : Bool)
    → (reading sig limits bytes ended).ending
    ≡ ending_by (reading_of (step sig limits) nothing_read at_tail (log_text limits bytes ended))
unfolding reading reading_of
log_ending sig limits bytes ended = search (run_ending, tail_ending)
