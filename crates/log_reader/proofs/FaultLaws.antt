-- A log's reader follows the grammar: what the layer of first faults asks of it.
use Rattle.std.proofs.Common.{◌≡◌, ℕ, Bool, true, false, List, Some, Ok, Err, refl, sym, ap, subst, ◌∙◌, arith}
use Rattle.std.proofs.lemmas.Option.{same_Some}
use Rattle.mfotl_lex.proofs.FirstFaultLaws.{exact_faults}
use Rattle.mfotl_lex.specs.FirstFault.{Tail, End, run, FollowsGrammar}
use Rattle.mfotl_lex.specs.Lexemes.{Lexeme}
use Rattle.mfotl_sig.specs.Preds.{PredOf}
use Rattle.log_reader.specs.declared.{fault.LogFault.LogFault, fault.LogFault.TheVariants.Syntax, limits.Limits.Limits}
use Rattle.log_reader.specs.declared.{stage.Stage.TheVariants.Between}
use Rattle.log_reader.specs.{Causes.IsCause, Causes.IsLast, Laws.ExactFaults, LogTexts.log_text, Partials.Partial}
use Rattle.log_reader.specs.{Partials.nothing_read, Steps.step}
use Rattle.log_reader.specs.Grammar.{symbols_of, IsAccepted, IsViable}
use Rattle.log_reader.proofs.CauseSteps.{step_why, step_shows}
use Rattle.log_reader.proofs.Paths.{paths, accepts, accepted_by, accepted_ends, viable_by}
use Rattle.log_reader.proofs.Runs.{ended_at, at_tail, ending_by, fault_by, run_paths, log_ending}

-- ---- the end

module _ (ts : List Lexeme) (n : ℕ) (p : Partial) (path : paths Between (symbols_of ts) ≡ Some p.stage) where
  -- the end shows Syntax where the tokens aren't accepted
  refused : (b : Bool) → accepts p.stage ≡ b → (fault : LogFault) → ended_at n p p.stage ≡ Err fault
      → IsLast ts (End n) fault
  refused true e fault shows = absurd (let fine : ended_at n p p.stage ≡ Ok p = rw e refl in cc (fine, shows))
  refused false e fault shows =
      let here : ended_at n p p.stage ≡ Err (Syntax n) = rw e refl in
      let same : Syntax n ≡ fault = cc (here, shows) in
      subst (IsLast ts (End n)) same (record {
        unaccepted = λ accepted.
            let ends = accepted_ends ts accepted in
            let lost : true ≡ false =
            sym ends.2 ∙ ap accepts (sym (same_Some p.stage ends.0 (sym path ∙ ends.1))) ∙ e in cc;
        stands = refl;
      })

  unaccepted : (b : Bool) → accepts p.stage ≡ b → (IsAccepted ts → ⊥) → ended_at n p p.stage ≡ Err (Syntax n)
  unaccepted b e refuses = grind (arith, accepted_by)

module _ (sig : List PredOf) (limits : Limits) where
  tail_shows : (ts : List Lexeme) (p : Partial) (tail : Tail LogFault) (fault : LogFault)
      → run (step sig limits) ts nothing_read ≡ Ok p → IsLast ts tail fault → at_tail tail p ≡ Err fault
  tail_shows ts p tail fault sound why = grind (arith, unaccepted, run_paths, accepts)

  pub follows : FollowsGrammar (step sig limits) nothing_read at_tail IsViable (IsCause sig limits) IsLast
  follows = grind (arith, viable_by, run_paths, step_why, step_shows, refused, run_paths, accepts, tail_shows)

pub exact_faults_law : ExactFaults
exact_faults_law sig limits bytes ended fault =
    let exact =
    exact_faults (step sig limits) nothing_read at_tail IsViable (IsCause sig limits) IsLast (follows sig limits)
    (log_text limits bytes ended) fault in (
      λ first. exact.0 (fault_by _ fault (sym (log_ending sig limits bytes ended) ∙ first)),
      λ shown. log_ending sig limits bytes ended ∙ ap ending_by (exact.1 shown),
    )
