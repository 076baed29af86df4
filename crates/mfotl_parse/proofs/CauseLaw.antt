-- Behind tokens that show no fault, the reader shows a fault exactly where the token or the tail is its cause.
use Rattle.std.proofs.Common.{◌≡◌, ℕ, Bool, true, false, List, [], ◌∷◌, ◌++◌, length, Option, Some, None, Ok, Err, refl}
use Rattle.std.proofs.Common.{ap, sym, subst, ◌∙◌, arith}
use Rattle.std.proofs.{lemmas.List.append_assoc, lemmas.Bool.false_from_ne_true}
use Rattle.std.specs.{Prelude.slice_get, Option.option_map}
use Rattle.mfotl_lex.specs.declared.fault.LexFault.{LexFault}
use Rattle.mfotl_lex.specs.FirstFault.{Tail, End, run, EndsViability, EndsTooEarly, FollowsGrammar}
use Rattle.mfotl_lex.specs.Lexemes.{Lexeme}
use Rattle.mfotl_sig.specs.Preds.{PredOf}
use Rattle.mfotl_parse.specs.declared.{fault.PolicyFault.PolicyFault, term.Pair.Pair}
use Rattle.mfotl_parse.specs.declared.fault.PolicyFault.TheVariants.{Syntax, SortClash, TooManyVariables}
use Rattle.mfotl_parse.specs.Causes.{ShowsFault, IsCause, SortsClash, HasNinthVariable, IsLast}
use Rattle.mfotl_parse.specs.Grammar.{Tree, Fits, spelling, IsFormula, BeginsFormula}
use Rattle.mfotl_parse.specs.{GrammarLaws.table_clash, Limits.max_free, Meanings.all_names, Mentions.sort_clash}
use Rattle.mfotl_parse.specs.{SymbolTable.uneven_pair, SymbolTable.clash_or_pair, Transitions.Transition}
use Rattle.mfotl_parse.specs.{Transitions.given, Viability.is_whole, Viability.accepts}
use Rattle.mfotl_parse.specs.Reading.{PolicyOf, transition, step, sorted, ended_at, at_tail}
use Rattle.mfotl_parse.specs.Shows.{Showing, silent, shown_by}
use Rattle.mfotl_parse.specs.States.{Stage, Context, SymbolTable, Partial, nothing_read}
use Rattle.mfotl_parse.proofs.{AcceptedLaw.accepted_formula, FreeNames.all_free, MentionClashes.clashes_agree}
use Rattle.mfotl_parse.proofs.{TracedTrees.shows_whole, ViabilityLemmas.completes, TracedMoves.broken}
use Rattle.mfotl_parse.proofs.{TracedMoves.trace}
use Rattle.mfotl_parse.proofs.ReadMoves.{kept_broken, first_broken, accepts_read, read_silent}
use Rattle.mfotl_parse.proofs.WholeTrees.{formula_accepted, read_viable, whole_formula, formula_whole, finished_by}

-- ---- a token

-- what stands behind tokens that show nothing
place_behind : (front : List Lexeme) (later : Showing) → slice_get (silent front ++ later) (length front)
    ≡ slice_get later 0
place_behind [] later = refl
place_behind (t ∷ front) later = place_behind front later

-- what a token shows by its move
abbrev shown_at : ℕ → Option Transition → List PolicyFault
shown_at at None = Syntax at ∷ []
shown_at at (Some m) = broken m.rules

module _ (sig : List PredOf) (front : List Lexeme) (s : Partial) (t : Lexeme)
    (ran : run (step sig) front nothing_read ≡ Ok s) where
  shown_first : (more : List Lexeme) → slice_get (trace sig (t ∷ more) s) 0 ≡ Some (shown_at t.at (transition sig s t))
  unfolding trace
  shown_first more = grind arith

  -- the token's place in a formula that begins so
  shown_there : (tree : Tree) (more : List Lexeme) → Fits 1 tree → spelling tree ≡ front ++ t ∷ more
      → slice_get (shown_by sig tree) (length front) ≡ Some (shown_at t.at (transition sig s t))
  shown_there tree more fits spelled =
      ap (λ xs. slice_get xs (length front)) (sym (shows_whole sig tree fits)
      ∙ ap (λ ts. trace sig ts nothing_read) spelled ∙ read_silent sig front (t ∷ more) nothing_read s ran)
      ∙ place_behind front (trace sig (t ∷ more) s) ∙ shown_first more

  -- where the grammar goes on with the token, some formula begins so
  begins_so : (m : Transition) → transition sig s t ≡ Some m → (more : List Lexeme) × IsFormula (front ++ t ∷ more)
  unfolding accepts
  begins_so m e =
      let due = completes sig m.next in (
        due.0,
        accepted_formula sig (front ++ t ∷ due.0)
            (grind (arith, accepts_read sig front (t ∷ due.0) nothing_read s ran)),
      )

  -- where it doesn't, none does
  ends_so : transition sig s t ≡ None → BeginsFormula (front ++ t ∷ []) → ⊥
  unfolding accepts
  ends_so e b =
      grind (
        arith,
        e,
        append_assoc front (t ∷ []) b.0,
        formula_accepted sig ((front ++ t ∷ []) ++ b.0) b.1,
        accepts_read sig front (t ∷ b.0) nothing_read s ran,
      )

  caused : (o : Option Transition) (fault : PolicyFault) → transition sig s t ≡ o → given t.at o ≡ Err fault
      → IsCause sig front t fault
  caused None fault is e =
      let same : Syntax t.at ≡ fault = cc in
      subst (IsCause sig front t) same (record { ends = ends_so is; stands = refl })
  caused (Some m) fault is e =
      let b = first_broken m.rules m.next fault e in
      let f = begins_so m is in
      let shows : ShowsFault sig front t fault = record {
        tree = f.1.0;
        fits = f.1.1;
        more = f.0;
        spelled = sym f.1.2;
        others = b.others;
        shown = shown_there f.1.0 f.0 f.1.1 (sym f.1.2) ∙ ap (λ o. Some (shown_at t.at o)) is
            ∙ ap (λ x. Some x) b.shown;
      } in
      subst (IsCause sig front t) b.is
      (grind arith)

  shows : (fault : PolicyFault) → ShowsFault sig front t fault → step sig s t ≡ Err fault
  unfolding step
  shows fault c =
      let here : Some (shown_at t.at (transition sig s t)) ≡ Some (fault ∷ c.others) =
      sym (shown_there c.tree c.more c.fits c.spelled) ∙ c.shown in
      (grind (arith, kept_broken))

  unviable : (o : Option Transition) (at : ℕ) → transition sig s t ≡ o
      → EndsViability BeginsFormula (λ token. token.at) front t at → given t.at o ≡ Err (Syntax at)
  unviable o at is c = grind (arith, begins_so, append_assoc)

  cause_shows : (fault : PolicyFault) → IsCause sig front t fault → step sig s t ≡ Err fault
  unfolding step
  cause_shows fault c = grind (arith, unviable, shows)

  step_caused : (fault : PolicyFault) → step sig s t ≡ Err fault → IsCause sig front t fault
  unfolding step
  step_caused fault e = caused (transition sig s t) fault refl e

-- ---- the end

pub early_end : (now : Stage) (c : Context) (end : ℕ) → is_whole now c.stack ≡ false
    → ended_at now c end ≡ Err (Syntax end)
unfolding ended_at
early_end now c end e = grind arith

abbrev ninth_place : Option (List ℕ × ℕ) → Option ℕ
ninth_place known = option_map (λ k. k.1) known

module _ (policy : PolicyOf) where
  sorted_clash : (clash : Option ℕ) (uneven : Option Pair) (ninth : Option (List ℕ × ℕ)) (at : ℕ)
      → clash_or_pair clash uneven ≡ Some at → sorted clash uneven ninth policy ≡ Err (SortClash at)
  sorted_clash clash uneven ninth at e = grind arith

  sorted_many : (clash : Option ℕ) (uneven : Option Pair) (ninth : Option (List ℕ × ℕ)) (at : ℕ)
      → clash_or_pair clash uneven ≡ None → ninth_place ninth ≡ Some at
      → sorted clash uneven ninth policy ≡ Err (TooManyVariables at)
  sorted_many clash uneven ninth at e f = grind arith

module _ (sig : List PredOf) (ts : List Lexeme) (s : Partial) (ran : run (step sig) ts nothing_read ≡ Ok s) where
  module _ (tree : Tree) (fits : Fits 1 tree) (spelled : ts ≡ spelling tree) (end : ℕ) where
    abbrev names : SymbolTable
    names = all_names sig tree

    agrees : sort_clash sig tree ≡ table_clash sig tree
    agrees = sym (clashes_agree sig tree)

    -- what the sorts and the number of variables show behind a whole formula
    by_names : (clash : Option ℕ) (uneven : Option Pair) (ninth : Option (List ℕ × ℕ)) (policy : PolicyOf)
        (fault : PolicyFault) → names.clash ≡ clash → uneven_pair names ≡ uneven
        → slice_get names.free max_free ≡ ninth → sorted clash uneven ninth policy ≡ Err fault
        → IsLast sig ts (End end) fault
    by_names clash uneven ninth policy fault c u n e = grind (arith, agrees, all_free)

  by_end : (end : ℕ) (fault : PolicyFault) (b : Bool) → is_whole s.now s.context.stack ≡ b
      → ended_at s.now s.context end ≡ Err fault → IsLast sig ts (End end) fault
  by_end end fault true is e =
      let f = whole_formula sig ts s ran is in
      by_names f.0 f.1 f.2 end _ _ _ _ fault refl refl refl (sym (finished_by sig ts s ran f.0 f.1 f.2 end) ∙ e)
  by_end end fault false is e =
      let early = early_end s.now s.context end is in
      let same : Syntax end ≡ fault = cc in
      let never : IsFormula ts → ⊥ = λ f. absurd (cc (formula_whole sig ts s ran f, is)) in
      subst (IsLast sig ts (End end)) same (record { unaccepted = never; stands = refl })

  tail_caused : (tail : Tail LexFault) (fault : PolicyFault) → at_tail tail s ≡ Err fault → IsLast sig ts tail fault
  tail_caused tail fault e = grind (arith, by_end)

  too_early : (tail : Tail LexFault) (at : ℕ) → EndsTooEarly IsFormula ts tail at → at_tail tail s ≡ Err (Syntax at)
  too_early tail at c =
      ap (λ x. at_tail x s) c.stands
      ∙ early_end s.now s.context at
      (false_from_ne_true (is_whole s.now s.context.stack) (λ e. c.unaccepted (whole_formula sig ts s ran e)))

  clashes : (tail : Tail LexFault) (at : ℕ) → SortsClash sig ts tail at → at_tail tail s ≡ Err (SortClash at)
  clashes tail at c =
      grind (
        arith,
        finished_by sig ts s ran c.tree c.whole.fits c.whole.spelled c.whole.end,
        sorted_clash,
        clashes_agree sig c.tree,
        c.clash,
        c.whole.ended,
      )

  ninth : (tail : Tail LexFault) (at : ℕ) → HasNinthVariable sig ts tail at → at_tail tail s ≡ Err (TooManyVariables at)
  ninth tail at c =
      grind (
        arith,
        finished_by sig ts s ran c.tree c.whole.fits c.whole.spelled c.whole.end,
        sorted_many,
        clashes_agree sig c.tree,
        c.even,
        c.whole.ended,
        all_free sig c.tree,
        c.ninth,
      )

  last_shows : (tail : Tail LexFault) (fault : PolicyFault) → IsLast sig ts tail fault → at_tail tail s ≡ Err fault
  last_shows tail fault c = grind (arith, too_early, clashes, ninth)

pub follows : (sig : List PredOf)
    → FollowsGrammar (step sig) nothing_read at_tail BeginsFormula (IsCause sig) (IsLast sig)
follows sig = record {
  viable = λ ts s ran. read_viable sig ts s ran;
  token = λ front s t fault ran. (step_caused sig front s t ran fault, cause_shows sig front s t ran fault);
  tail = λ ts s tail fault ran. (tail_caused sig ts s ran tail fault, last_shows sig ts s ran tail fault);
}
