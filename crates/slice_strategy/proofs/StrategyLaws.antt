-- The laws of the reader: what it reads is what a text spells, and each fault is the first that is shown.
use Rattle.std.proofs.Common.{◌≡◌, ◌≢◌, ◌∙◌, ℕ, List, length, Result, Ok, Err, IfOk, IfErr, ap, sym, subst, arith}
use Rattle.mfotl_lex.specs.FirstFault as layer
use Rattle.mfotl_lex.specs.FirstFault.{End, run}
use Rattle.mfotl_lex.proofs.FirstFaultLaws as firsts
use Rattle.mfotl_lex.proofs.FirstFaultLaws.{bind_ok}
use Rattle.mfotl_model.specs.Strategies.{Strategy}
use Rattle.mfotl_model.specs.declared.policy.Var.{Var}
use Rattle.slice_strategy.specs.declared.{fault.StrategyFault.StrategyFault, fault.StrategyFault.TheVariants.Memory}
use Rattle.slice_strategy.specs.{Answers.Gives, Causes.IsCause, Causes.IsLast, Rules.IsValue, Rules.text_of}
use Rattle.slice_strategy.specs.Entries.{HasWorkers}
use Rattle.slice_strategy.specs.Grammar.{Whole, IsAccepted, IsViable}
use Rattle.slice_strategy.specs.Laws.{OneAnswer, IsShown, ExactFaults, ExactSoundness}
use Rattle.slice_strategy.specs.Reading.{Partial, complete, ended, step, nothing_read, at_tail, reading}
use Rattle.slice_strategy.proofs.CauseLaw.{follows, few_closed, ends_accepted, part_stands, closed_few}
use Rattle.slice_strategy.proofs.PartReads.{few_kept, kept_whole, kept_reads, few_of}
use Rattle.slice_strategy.proofs.EntryLaws.{strategy_size, kept_workers}

module _ (vars : List Var) (bytes : List ℕ) where
  -- ---- values

  -- whole entries, and the end
  accepted_value : (s : Partial) (q : Partial) (strategy : Strategy)
      → run (step vars) (text_of bytes).list (nothing_read vars) ≡ Ok s → ended s.entries s.stage ≡ Ok q
      → IsAccepted (text_of bytes).list → complete (length bytes) q.entries q.stage ≡ Ok strategy
      → (text_of bytes).tail ≡ End (length bytes) → IsValue vars bytes strategy
  accepted_value s q strategy ran closed accepted done whole =
      let es = accepted.0 in
      let at = part_stands vars (text_of bytes).list s (Whole es) ran accepted.1 in
      let few = closed_few vars es accepted.1.fits q (rw at.1 at closed) in
      grind (arith, few_kept)

  pub read_is_spelled : (strategy : Strategy) → reading vars bytes ≡ Ok strategy → IsValue vars bytes strategy
  unfolding reading layer.reading
  read_is_spelled strategy e = grind (arith, bind_ok, bind_ok, accepted_value, ends_accepted)

  pub spelled_is_read : (strategy : Strategy) → IsValue vars bytes strategy → reading vars bytes ≡ Ok strategy
  unfolding reading layer.reading
  spelled_is_read strategy v =
      let es = v.written in
      rw (
        v.spelled.spelled,
        kept_reads vars (Whole es) v.spelled.fits (kept_whole vars es v.rules),
        v.whole,
        few_closed vars es v.spelled.fits (few_of vars es v.rules),
        v.value,
      )

pub one_answer : OneAnswer
one_answer vars =
    firsts.one_answer (reading vars) (IsValue vars) (λ bytes s e. read_is_spelled vars bytes s e)
    (λ bytes s v. spelled_is_read vars bytes s v)

-- ---- faults

pub exact_faults : ExactFaults
unfolding reading
exact_faults vars bytes fault =
    firsts.exact_faults (step vars) (nothing_read vars) at_tail IsViable (IsCause vars) (IsLast vars) (follows vars)
    (text_of bytes) fault

pub exact_soundness : ExactSoundness
exact_soundness vars =
    firsts.exact_soundness (step vars) (nothing_read vars) at_tail IsViable (IsCause vars) (IsLast vars)
    (follows vars)

-- ---- what the reader answers

pub value_given : (vars : List Var) (bytes : List ℕ) (result : Result Strategy StrategyFault)
    → Gives (λ s. s) result (reading vars bytes) → IfOk result (λ s. IsValue vars bytes s)
value_given vars bytes result given = grind (arith, read_is_spelled)

pub fault_shown : (vars : List Var) (bytes : List ℕ) (result : Result Strategy StrategyFault)
    → Gives (λ s. s) result (reading vars bytes) → IfErr result (λ fault. fault ≢ Memory → IsShown vars bytes fault)
fault_shown vars bytes result given = grind (arith, exact_faults)

-- there is an entry for each variable
pub size_given : (vars : List Var) (bytes : List ℕ) (result : Result Strategy StrategyFault)
    → Gives (λ s. s) result (reading vars bytes) → IfOk result (λ s. length s ≡ length vars)
size_given vars bytes (Ok s) given =
    let v = read_is_spelled vars bytes s given in ap length v.value ∙ strategy_size vars v.written
size_given vars bytes (Err fault) given = tt

-- there are workers, and no more than there may be
pub workers_given : (vars : List Var) (bytes : List ℕ) (result : Result Strategy StrategyFault)
    → Gives (λ s. s) result (reading vars bytes) → IfOk result HasWorkers
workers_given vars bytes (Ok s) given =
    let v = read_is_spelled vars bytes s given in subst HasWorkers (sym v.value) (kept_workers vars v.written v.rules)
workers_given vars bytes (Err fault) given = tt
