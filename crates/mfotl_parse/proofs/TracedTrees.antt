-- What each token of a whole tree shows.
use Rattle.std.proofs.Common.{◌≡◌, ℕ, ℤ, suc, ◌+◌, ◌≤◌, Bool, true, false, List, [], ◌∷◌, ◌++◌, length, Option, Some}
use Rattle.std.proofs.Common.{None, refl, ap, ◌∙◌, arith}
use Rattle.std.proofs.lemmas.List.{append_assoc}
use Rattle.std.specs.Prelude.{cond, ◌&&◌}
use Rattle.mfotl_lex.specs.Lexemes.{Lexeme}
use Rattle.mfotl_model.specs.declared.interval.Interval.{Interval}
use Rattle.mfotl_sig.specs.Preds.{PredOf}
use Rattle.mfotl_parse.specs.declared.{class.Class.Class, class.Quantifier.Quantifier}
use Rattle.mfotl_parse.specs.declared.class.Class.TheVariants as classes
use Rattle.mfotl_parse.specs.{Classes.class_of, Intervals.any_distance, Occurrences.variable_count, Occurrences.name_of}
use Rattle.mfotl_parse.specs.{SymbolTable.binder_of, SymbolTable.bound_more, Operands.operand_move}
use Rattle.mfotl_parse.specs.{Comparisons.compared_move, Lookahead.maybe_move, Lookahead.maybe_number_move}
use Rattle.mfotl_parse.specs.{Operators.deepening, Operators.now_behind, Reading.transition, Reduction.reduce}
use Rattle.mfotl_parse.specs.Grammar.{WrittenTerm, WrittenVariables, LastVariable, MoreVariables, Tree, Truth, BareAtom}
use Rattle.mfotl_parse.specs.Grammar.{AtomOf, Comparison, Enclosed, Denied, Timed, Quantified, Joined, term_spelling}
use Rattle.mfotl_parse.specs.Grammar.{variables_spelling, interval_spelling, spelling, FitsTerm, FitsVariables, Fits}
use Rattle.mfotl_parse.specs.Grammar.{IsAtomName, left_precedence, is_shut, precedence, right_precedence, is_timed}
use Rattle.mfotl_parse.specs.Grammar.{deepens}
use Rattle.mfotl_parse.specs.Meanings.{interval_of, names_behind, value, node_count}
use Rattle.mfotl_parse.specs.Transitions.{Rule, Transition, goes, first_keeps, within_depth, within_nodes}
use Rattle.mfotl_parse.specs.Shows.{Showing, level_first, postponed, is_integer, begins_with_number, enclosed_shown}
use Rattle.mfotl_parse.specs.Shows.{prefix_shown, variables_shown, joint_shown, levels_right, is_omitted, tree_shown}
use Rattle.mfotl_parse.specs.Shows.{shown_by}
use Rattle.mfotl_parse.specs.States.{Frame, Parens, Negation, Moment, Binding, Left, depth, SymbolTable, Partial}
use Rattle.mfotl_parse.specs.States.{ExpectOperand, AfterTemporal, AfterOperand, ExpectSign, ExpectVariable}
use Rattle.mfotl_parse.specs.States.{AfterVariable, AfterParen, AfterParenNumber, no_names, nothing_read}
use Rattle.mfotl_parse.proofs.SpelledMoves.{at_place, context_at, behind_move, then_moves, moves, moves_one, moves_both}
use Rattle.mfotl_parse.proofs.SpelledMoves.{no_move, same_next}
use Rattle.mfotl_parse.proofs.SpelledForms.{IsLoose, IsHave, not_have, number_side, reduce_here, enclosed, joins}
use Rattle.mfotl_parse.proofs.SpelledForms.{fresh_too}
use Rattle.mfotl_parse.proofs.SpelledParts.{scope_of, bare_atom_leads, atom_leads, comparison_leads, interval_leads}
use Rattle.mfotl_parse.proofs.OperatorLevels.{levels}
use Rattle.mfotl_parse.proofs.SpelledTrees.{Reaches, left_reaches, right_reaches, unary_reaches, one_reaches, looser}
use Rattle.mfotl_parse.proofs.SpelledTrees.{variable_leads, reads}
use Rattle.mfotl_parse.proofs.TracedMoves.{broken, traced, trace, trace_move, trace_first, trace_both, trace_any}
use Rattle.mfotl_parse.proofs.TracedMoves.{leads_move, leads_one, leads_then}

module _ (sig : List PredOf) (stack : List Frame) (nodes : ℕ) (names : SymbolTable) where
  -- ---- behind a `(` where an interval may stand

  by_sign : (at number_at : ℕ) (z : ℤ) (t : Lexeme) (ts : List Lexeme) (rules : List Rule) (q : Partial) (c : Class)
      → then_moves (compared_move (context_at (Parens ∷ stack) nodes names) (number_side number_at z) t c)
      (moves sig ts) ≡ goes rules q
      → traced t.at (maybe_number_move (context_at stack nodes names) at number_at z t c) (trace sig ts)
      ≡ level_first at (depth stack)
      (traced t.at (compared_move (context_at (Parens ∷ stack) nodes names) (number_side number_at z) t c)
      (trace sig ts))
  by_sign at number_at z t ts rules q c e = grind arith

  behind_number : (at number_at : ℕ) (z : ℤ) (ts : List Lexeme) (rules : List Rule) (q : Partial) → IsHave q.now
      → moves sig ts (at_place (ExpectSign (number_side number_at z)) (Parens ∷ stack) nodes names) ≡ goes rules q
      → trace sig ts (at_place (AfterParenNumber at number_at z) stack nodes names) ≡ level_first at (depth stack)
      (trace sig ts (at_place (ExpectSign (number_side number_at z)) (Parens ∷ stack) nodes names))
  unfolding moves trace transition
  behind_number at number_at z [] rules q have e = absurd (not_have (λ n. n) e have)
  behind_number at number_at z (t ∷ ts) rules q have e = by_sign at number_at z t ts rules q (class_of t) e

  first_kept : (at number_at : ℕ) (m : Option Transition) (ts : List Lexeme) (rules : List Rule) (q : Partial)
      → then_moves m (moves sig ts) ≡ goes rules q
      → traced number_at (first_keeps (within_depth at stack) m) (trace sig ts)
      ≡ level_first at (depth stack) (traced number_at m (trace sig ts))
  first_kept at number_at m ts rules q e = grind arith

  rest_of : (m : Transition) (o : Option Transition) (rules : List Rule) (q : Partial) → behind_move m o
      ≡ goes rules q → (others : List Rule) × (o ≡ goes others q)
  rest_of m None rules q e = absurd (no_move e)
  rest_of m (Some n) rules q e = (n.rules, ap (goes n.rules) (same_next e))

  by_class : (at : ℕ) (t : Lexeme) (ts : List Lexeme) (rules : List Rule) (q : Partial) (c : Class) → IsHave q.now
      → then_moves (operand_move (context_at (Parens ∷ stack) nodes names) t c) (moves sig ts) ≡ goes rules q
      → traced t.at (maybe_move (context_at stack nodes names) at t c) (trace sig ts)
      ≡ postponed at (depth stack) (is_integer c)
      (traced t.at (operand_move (context_at (Parens ∷ stack) nodes names) t c) (trace sig ts))
  by_class at t ts rules q c have e =
      grind (arith, at_place, number_side, rest_of, moves, behind_number, first_kept, context_at)

  maybe_trace : (at : ℕ) (ts : List Lexeme) (rules : List Rule) (q : Partial) → IsHave q.now
      → moves sig ts (at_place ExpectOperand (Parens ∷ stack) nodes names) ≡ goes rules q
      → trace sig ts (at_place (AfterParen at) stack nodes names) ≡ postponed at (depth stack) (begins_with_number ts)
      (trace sig ts (at_place ExpectOperand (Parens ∷ stack) nodes names))
  unfolding moves trace transition
  maybe_trace at ts rules q have e = grind (arith, not_have, by_class)

  pub enclosed_trace : (timed : Bool) (opening : Lexeme) (ts : List Lexeme) (rules : List Rule) (q : Partial)
      → class_of opening ≡ classes.OpenParen → IsHave q.now
      → moves sig ts (at_place ExpectOperand (Parens ∷ stack) nodes names) ≡ goes rules q
      → trace sig (opening ∷ ts) (at_place (now_behind timed) stack nodes names)
      ≡ enclosed_shown timed opening.at (depth stack) ts
      (trace sig ts (at_place ExpectOperand (Parens ∷ stack) nodes names))
  enclosed_trace false opening ts rules q class have e =
      trace_first sig opening ts classes.OpenParen (at_place ExpectOperand stack nodes names)
      (at_place ExpectOperand (Parens ∷ stack) nodes names) _ class refl
  enclosed_trace true opening ts rules q class have e =
      trace_first sig opening ts classes.OpenParen (at_place AfterTemporal stack nodes names)
      (at_place (AfterParen opening.at) stack nodes names) _ class refl
      ∙ ap (λ (s : Showing). [] ∷ s) (maybe_trace opening.at ts rules q have e)

module _ (sig : List PredOf) where
  -- ---- quantified variables

  -- a body's tokens show these, wherever it stands
  abbrev BodyShows : List Lexeme → (ℕ → ℕ → Showing) → Type 0
  BodyShows ts shown =
      (stack : List Frame) (nodes : ℕ) (names : SymbolTable) → IsLoose 1 stack
      → trace sig ts (at_place ExpectOperand stack nodes names) ≡ shown (depth stack) nodes

  variables_trace : (q : Quantifier) (vs : WrittenVariables) (dot : Lexeme) (ts : List Lexeme)
      (shown : ℕ → ℕ → Showing) (stack : List Frame) (nodes : ℕ) (names : SymbolTable)
      → FitsVariables vs → class_of dot ≡ classes.Dot → BodyShows ts shown
      → trace sig (variables_spelling vs ++ dot ∷ ts) (at_place (ExpectVariable q) stack nodes names)
      ≡ variables_shown vs (depth stack) nodes
      ++ [] ∷ shown (depth stack + variable_count vs) (nodes + variable_count vs)
  unfolding depth
  variables_trace q (LastVariable v) dot ts shown stack nodes names fits class body =
      let frame = Binding q (length names.bound_sorts) (name_of v) in
      grind (
        arith,
        leads_then (dot ∷ ts) (variable_leads sig q v stack nodes names fits),
        trace_first sig dot ts classes.Dot
            (at_place (AfterVariable q) (frame ∷ stack) (suc nodes) (bound_more None names))
            (at_place ExpectOperand (frame ∷ stack) (suc nodes) (bound_more None names)) [] class refl,
        body (frame ∷ stack) (suc nodes) (bound_more None names) (omega arith),
      )
  variables_trace q (MoreVariables v comma rest) dot ts shown stack nodes names fits class body =
      let frame = Binding q (length names.bound_sorts) (name_of v) in
      grind (
        arith,
        append_assoc,
        leads_then (comma ∷ variables_spelling rest ++ dot ∷ ts)
            (variable_leads sig q v stack nodes names fits.0),
        trace_first sig comma (variables_spelling rest ++ dot ∷ ts) classes.Comma
            (at_place (AfterVariable q) (frame ∷ stack) (suc nodes) (bound_more None names))
            (at_place (ExpectVariable q) (frame ∷ stack) (suc nodes) (bound_more None names)) [] fits.1 refl,
        variables_trace q rest dot ts shown (frame ∷ stack) (suc nodes) (bound_more None names) fits.2 class body,
      )

  -- ---- operators

  joint_broken : (deep : Bool) (at nodes : ℕ) (stack : List Frame)
      → broken (deepening deep at stack (within_nodes at nodes ∷ [])) ≡ joint_shown deep at (depth stack) nodes
  joint_broken deep at nodes stack = grind arith

  levels_are : (deep : Bool) (levels : ℕ) → cond deep (suc levels) levels ≡ levels_right deep levels
  levels_are deep levels = grind arith

  comparison_any : (timed : Bool) (left : WrittenTerm) (ts : List Lexeme) (stack : List Frame) (nodes : ℕ)
      (names : SymbolTable) → FitsTerm left
      → trace sig (term_spelling left ++ ts) (at_place (now_behind timed) stack nodes names)
      ≡ trace sig (term_spelling left ++ ts) (at_place ExpectOperand stack nodes names)
  comparison_any timed left ts stack nodes names fits = grind (arith, trace_any)

  atom_any : (timed : Bool) (name : Lexeme) (ts : List Lexeme) (stack : List Frame) (nodes : ℕ) (names : SymbolTable)
      → IsAtomName name → trace sig (name ∷ ts) (at_place (now_behind timed) stack nodes names)
      ≡ trace sig (name ∷ ts) (at_place ExpectOperand stack nodes names)
  atom_any timed name ts stack nodes names h = grind (arith, trace_any)

  -- a tree that fits shows what its tokens show, whatever is open around it
  pub shows : (tree : Tree) (rule edge : ℕ) → Fits rule tree → Reaches rule edge → (is_shut tree ≡ false → edge ≤ 1)
      → (timed : Bool) (stack : List Frame) (nodes : ℕ) (names : SymbolTable) → IsLoose rule stack
      → trace sig (spelling tree) (at_place (now_behind timed) stack nodes names)
      ≡ tree_shown sig tree timed (depth stack) nodes
  unfolding depth binder_of
  shows (Truth token which) rule edge fits reach ends timed stack nodes names loose =
      trace_any sig timed token [] (classes.Truth which) stack nodes names fits (λ e. cc) (λ e. cc)
      ∙ (leads_one {sig = sig} token (classes.Truth which) (at_place ExpectOperand stack nodes names) fits refl).shows
  shows (BareAtom name opening closing) rule edge fits reach ends timed stack nodes names loose =
      atom_any timed name _ stack nodes names fits.0
      ∙ (bare_atom_leads sig name opening closing stack nodes names fits.0 fits.1 fits.2).shows
  shows (AtomOf name opening arguments closing) rule edge fits reach ends timed stack nodes names loose =
      atom_any timed name _ stack nodes names fits.0
      ∙ (atom_leads sig _ name opening arguments closing stack nodes names refl fits.0 fits.1 fits.2 fits.3).shows
  shows (Comparison left token sign right) rule edge fits reach ends timed stack nodes names loose =
      comparison_any timed left _ stack nodes names fits.0
      ∙ (comparison_leads sig left token sign right stack nodes names fits.0 fits.1 fits.2).shows
  shows (Enclosed opening body closing) rule edge fits reach ends timed stack nodes names loose =
      let t = reads sig body 1 1 fits.1 (one_reaches 1 (omega arith)) (λ e. omega arith) (Parens ∷ stack) nodes names
      (omega arith) in
      let all = t.reduces 0 (omega arith) ∙ reduce_here 0 _ (Parens ∷ stack) (omega arith) in
      let last = enclosed sig t.form t.stack stack _ _ _ closing fits.2 all in
      let moved = moves_both sig (spelling body) (closing ∷ []) _ _ _ t.rules [] t.reached
      (moves_one sig closing _ _ [] last) in
      grind (
        arith,
        enclosed_trace sig stack nodes names timed opening (spelling body ++ closing ∷ []) _ _ fits.0 tt moved,
        trace_both sig (spelling body) (closing ∷ []) _ _ t.rules t.reached,
        (leads_move closing last).shows,
        shows body 1 1 fits.1 (one_reaches 1 (omega arith)) (λ e. omega arith) false (Parens ∷ stack) nodes names
            (omega arith),
      )
  shows (Denied token body) rule edge fits reach ends timed stack nodes names loose =
      trace_any sig timed token _ classes.Not stack nodes names fits.0 (λ e. cc) (λ e. cc)
      ∙ trace_first sig token (spelling body) classes.Not (at_place ExpectOperand stack nodes names)
      (at_place ExpectOperand (Negation ∷ stack) (suc nodes) names) _ fits.0 refl
      ∙ ap (λ (s : Showing). prefix_shown token.at (depth stack) nodes ∷ s)
      (shows body 6 edge fits.1 (unary_reaches rule edge reach) ends false (Negation ∷ stack) (suc nodes) names
      (omega arith))
  shows (Timed token operator interval body) rule edge fits reach ends timed stack nodes names loose =
      let frame : Interval → Frame = λ i. Moment operator i in
      let i = interval_of interval in
      grind (
        arith,
        trace_any sig timed token (interval_spelling interval ++ spelling body) (classes.Temporal operator) stack
            nodes names fits.0 (λ e. cc) (λ e. cc),
        trace_first sig token (interval_spelling interval ++ spelling body) (classes.Temporal operator)
            (at_place ExpectOperand stack nodes names)
            (at_place AfterTemporal (Moment operator any_distance ∷ stack) (suc nodes) names) _ fits.0 refl,
        leads_then (spelling body) (interval_leads sig true interval frame stack (suc nodes) names fits.1 (λ j. refl)),
        shows body 6 edge fits.2 (unary_reaches rule edge reach) ends (is_omitted interval)
            (Moment operator i ∷ stack) (suc nodes) names (omega arith),
      )
  shows (Quantified token quantifier variables dot body) rule edge fits reach ends timed stack nodes names loose =
      let low : edge ≤ 1 = ends refl in
      trace_any sig timed token _ (classes.Quantifier quantifier) stack nodes names fits.0 (λ e. cc) (λ e. cc)
      ∙ trace_first sig token (variables_spelling variables ++ dot ∷ spelling body) (classes.Quantifier quantifier)
      (at_place ExpectOperand stack nodes names)
      (at_place (ExpectVariable quantifier) stack nodes names) [] fits.0 refl
      ∙ ap (λ (s : Showing). [] ∷ s)
      (variables_trace quantifier variables dot (spelling body)
      (tree_shown sig body false) stack nodes names fits.1 fits.2
      (λ s n m l. shows body 1 edge fits.3 (one_reaches edge low) (λ e. low) false s n m l))
  shows (Joined left token operator interval right) rule edge fits reach ends timed stack nodes names loose =
      let scope = scope_of stack in
      let v = value sig left scope names in
      let i = interval_of interval in
      let frame : Interval → Frame = λ j. Left operator j v in
      let middle = nodes + node_count left in
      let between = names_behind sig left scope names in
      let fresh = is_timed operator && is_omitted interval in
      let looser_left = looser rule (left_precedence operator) stack
      (omega (arith, fits.0, (levels operator).left)) loose in
      let t = reads sig left (left_precedence operator) (suc (precedence operator)) fits.1 (left_reaches operator)
      (λ e. absurd (cc (e, fits.2))) stack nodes names looser_left in
      let all : reduce (precedence operator) t.form t.stack ≡ record { form = v; stack = stack } =
      t.reduces (precedence operator) (omega arith)
      ∙ reduce_here (precedence operator) v stack (looser rule (precedence operator) stack fits.0 loose) in
      let sign = joins sig t.form t.stack stack v middle between operator token fits.3 all in
      let first = trace_both sig (spelling left) (token ∷ (interval_spelling interval ++ spelling right))
      (at_place (now_behind timed) stack nodes names) (at_place (AfterOperand t.form) t.stack middle between) t.rules
      (grind (arith, fresh_too)) in
      grind (
        arith,
        first,
        joint_broken (deepens operator) token.at middle stack,
        shows left (left_precedence operator) (suc (precedence operator)) fits.1 (left_reaches operator)
            (λ e. absurd (cc (e, fits.2))) timed stack nodes names looser_left,
        trace_move sig token (interval_spelling interval ++ spelling right) _ _ _ sign,
        leads_then (spelling right)
            (interval_leads sig (is_timed operator) interval frame stack (suc middle) between fits.4 (λ j. refl)),
        shows right (right_precedence operator) edge fits.5 (right_reaches operator rule edge fits.0 reach) ends fresh
            (Left operator i v ∷ stack) (suc middle) between (omega arith),
        levels_are (deepens operator) (depth stack),
      )

-- what each token of a whole formula shows
pub shows_whole : (sig : List PredOf) (tree : Tree) → Fits 1 tree
    → trace sig (spelling tree) nothing_read ≡ shown_by sig tree
unfolding depth
shows_whole sig tree fits =
    shows sig tree 1 1 fits (one_reaches 1 (omega arith)) (λ e. omega arith) false [] 0 no_names tt
