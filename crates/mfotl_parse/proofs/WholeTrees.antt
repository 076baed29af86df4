-- A whole formula is accepted from the start on, and where the reader stands behind it.
use Rattle.std.proofs.Common.{◌≡◌, ℕ, ◌+◌, true, List, [], ◌++◌, Ok, refl, sym, subst, ◌∙◌, arith}
use Rattle.std.proofs.lemmas.List.{append-nil}
use Rattle.mfotl_lex.specs.{FirstFault.run, Lexemes.Lexeme}
use Rattle.mfotl_sig.specs.Preds.{PredOf}
use Rattle.mfotl_parse.specs.Grammar.{Tree, Fits, spelling, IsFormula, BeginsFormula}
use Rattle.mfotl_parse.specs.{GrammarLaws.AcceptedExactly, Reduction.reduce, SymbolTable.binder_of, Transitions.Rule}
use Rattle.mfotl_parse.specs.{Transitions.goes}
use Rattle.mfotl_parse.specs.Meanings.{no_scope, all_names, value, node_count}
use Rattle.mfotl_parse.specs.Reading.{step, checked_at_end, ended_at}
use Rattle.mfotl_parse.specs.States.{no_names, depth, Partial, AfterOperand, nothing_read}
use Rattle.mfotl_parse.specs.Viability.{is_whole, accepts, IsViable}
use Rattle.mfotl_parse.proofs.{AcceptedLaw.accepted_formula, SpelledForms.Takes, SpelledForms.reduce_here}
use Rattle.mfotl_parse.proofs.{ViabilityLemmas.completes}
use Rattle.mfotl_parse.proofs.ReadMoves.{read_moves, accepts_moves, accepts_read}
use Rattle.mfotl_parse.proofs.SpelledMoves.{at_place, moves, same_next, same_rules, AreKept}
use Rattle.mfotl_parse.proofs.SpelledTrees.{Keeps, reads, one_reaches}

-- a formula is read from the start on
pub whole : (sig : List PredOf) (tree : Tree) → Fits 1 tree
    → Takes sig nothing_read (spelling tree) [] 1 (value sig tree no_scope no_names) (0 + node_count tree)
    (all_names sig tree) (Keeps sig tree 0 0)
unfolding binder_of depth
whole sig tree fits = reads sig tree 1 1 fits (one_reaches 1 (omega arith)) (λ e. omega arith) [] 0 no_names tt

all_closed : (sig : List PredOf) (tree : Tree) (fits : Fits 1 tree)
    → reduce 0 (whole sig tree fits).form (whole sig tree fits).stack
    ≡ record { form = value sig tree no_scope no_names; stack = [] }
all_closed sig tree fits = grind (arith, whole, reduce_here)

-- nothing stands behind the tokens
accepts_nothing : (sig : List PredOf) (p : Partial) → accepts sig [] p ≡ is_whole p.now p.context.stack
unfolding accepts
accepts_nothing sig p = refl

accepted : (sig : List PredOf) (tree : Tree) → Fits 1 tree → accepts sig (spelling tree) nothing_read ≡ true
accepted sig tree fits =
    grind (
      arith,
      append-nil (spelling tree),
      all_closed sig tree fits,
      accepts_nothing sig,
      accepts_moves sig (spelling tree) [] nothing_read _ _ (whole sig tree fits).reached,
    )

pub formula_accepted : (sig : List PredOf) (ts : List Lexeme) → IsFormula ts → accepts sig ts nothing_read ≡ true
formula_accepted sig ts formula = cc (accepted sig formula.0 formula.1)

pub accepted_exactly : AcceptedExactly
accepted_exactly sig ts = (accepted_formula sig ts, formula_accepted sig ts)

-- ---- in the reader's words

pub viable : (sig : List PredOf) (ts : List Lexeme) → IsViable sig ts → BeginsFormula ts
viable sig ts v = (v.0, accepted_formula sig (ts ++ v.0) v.1)

pub begins : (sig : List PredOf) (ts : List Lexeme) → BeginsFormula ts → IsViable sig ts
begins sig ts b = (b.0, formula_accepted sig (ts ++ b.0) b.1)

module _ (sig : List PredOf) (ts : List Lexeme) (p : Partial) (ran : run (step sig) ts nothing_read ≡ Ok p) where
  -- tokens that show no fault begin a formula
  pub read_viable : BeginsFormula ts
  read_viable =
      let due = completes sig p in
      (due.0, accepted_formula sig (ts ++ due.0) (accepts_read sig ts due.0 nothing_read p ran ∙ due.1))

  stands_whole : accepts sig ts nothing_read ≡ is_whole p.now p.context.stack
  stands_whole = grind (arith, append-nil ts, accepts_read sig ts, accepts_nothing sig p)

  -- they are one where an operand was read and nothing is open
  pub whole_formula : is_whole p.now p.context.stack ≡ true → IsFormula ts
  whole_formula e = accepted_formula sig ts (stands_whole ∙ e)

  pub formula_whole : IsFormula ts → is_whole p.now p.context.stack ≡ true
  formula_whole formula = sym stands_whole ∙ formula_accepted sig ts formula

  module _ (tree : Tree) (fits : Fits 1 tree) (spelled : ts ≡ spelling tree) where
    reached : (rules : List Rule) → moves sig ts nothing_read ≡ goes rules p
        → goes (whole sig tree fits).rules (at_place (AfterOperand (whole sig tree fits).form)
        (whole sig tree fits).stack (0 + node_count tree) (all_names sig tree)) ≡ goes rules p
    reached rules e = grind arith

    -- all rules on the way were kept
    pub rules_kept : AreKept (whole sig tree fits).rules
    rules_kept = let m = read_moves sig ts nothing_read p ran in subst AreKept (sym (same_rules (reached m.0 m.1))) m.2

    -- behind a whole formula the end shows what its names show
    pub finished_by : (end : ℕ) → ended_at p.now p.context end
        ≡ checked_at_end (all_names sig tree) (value sig tree no_scope no_names)
    unfolding ended_at
    finished_by end = grind (arith, read_moves, same_next, reached, all_closed)
