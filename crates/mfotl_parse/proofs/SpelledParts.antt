-- How atoms, comparisons and intervals are read, and what their tokens show.
use Rattle.std.proofs.Common.{◌≡◌, ℕ, suc, ◌+◌, ◌*◌, ◌<◌, ◌≤◌, Bool, true, false, List, [], ◌∷◌, ◌++◌, length, Option}
use Rattle.std.proofs.Common.{Some, None, refl, ◌∙◌, arith}
use Rattle.std.proofs.{lemmas.Bool.lt-leb, lemmas.Bool.leb-false, lemmas.List.append_assoc}
use Rattle.std.specs.Prelude.{◌&&◌, not}
use Rattle.mfotl_lex.specs.Lexemes.{Lexeme}
use Rattle.mfotl_model.specs.declared.{interval.Interval.Interval, policy.Sort.Sort, term.Sign.Sign}
use Rattle.mfotl_model.specs.Formulas.{Form}
use Rattle.mfotl_sig.specs.Preds.{PredOf, named}
use Rattle.mfotl_parse.specs.declared.{class.Class.Class, term.Side.Side}
use Rattle.mfotl_parse.specs.declared.class.Class.TheVariants as classes
use Rattle.mfotl_parse.specs.Arguments.{call_of, known, with_argument, argument_move, first_move}
use Rattle.mfotl_parse.specs.SortsDue.{due_sort, after_due, is_empty}
use Rattle.mfotl_parse.specs.{Classes.class_of, SymbolTable.binder_of, SymbolTable.with_comparison, Reading.transition}
use Rattle.mfotl_parse.specs.{Reading.transition_at, Limits.max_levels, Limits.max_nodes, Comparisons.comparison}
use Rattle.mfotl_parse.specs.{Mentions.places_of, Operators.now_behind}
use Rattle.mfotl_parse.specs.Grammar.{Bare, Asked, WrittenTerm, Named, Number, Quoted, WrittenArgument, Given, Hidden}
use Rattle.mfotl_parse.specs.Grammar.{WrittenArguments, LastArgument, MoreArguments, WrittenBound, Count, Counted}
use Rattle.mfotl_parse.specs.Grammar.{WrittenEnd, Included, Excluded, Unbounded, WrittenInterval, Omitted, From, Above}
use Rattle.mfotl_parse.specs.Grammar.{term_spelling, argument_spelling, arguments_spelling, bound_spelling}
use Rattle.mfotl_parse.specs.Grammar.{end_spelling, interval_spelling, FitsTerm, FitsArgument, FitsArguments, FitsBound}
use Rattle.mfotl_parse.specs.Grammar.{FitsEnd, FitsOperator, IsAtomName}
use Rattle.mfotl_parse.specs.Intervals.{any_distance, framed, with_interval, in_range, not_empty}
use Rattle.mfotl_parse.specs.Meanings.{Scope, operand_of, term_names, argument_term, argument_names, arguments_terms}
use Rattle.mfotl_parse.specs.Meanings.{arguments_names, sorts_behind, atom, bound_value, interval_from, interval_of}
use Rattle.mfotl_parse.specs.Meanings.{argument_count, HasArity, InRange, EndKeeps, IntervalKeeps}
use Rattle.mfotl_parse.specs.Occurrences.{hidden_count, blank_count, place_of}
use Rattle.mfotl_parse.specs.Transitions.{Rule, goes, within_nodes, one_due, none_due}
use Rattle.mfotl_parse.specs.States.{Frame, opens_level, depth, Call, SymbolTable, Stage, Context, Partial}
use Rattle.mfotl_parse.specs.States.{ExpectOperand, AfterTemporal, AfterOperand, AfterSign, FirstArgument, NextArgument}
use Rattle.mfotl_parse.specs.States.{AfterArgument, AfterArgumentMark, AfterParen, ExpectLow, ExpectHigh}
use Rattle.mfotl_parse.proofs.SpelledWords.{blank_text}
use Rattle.mfotl_parse.proofs.SpelledMoves.{at_place, context_at, moves, move_is, moves_one, AreKept, Exactly}
use Rattle.mfotl_parse.proofs.SpelledMoves.{kept_both, kept_front, kept_back}
use Rattle.mfotl_parse.specs.Shows.{Showing, silent, name_shown, node_shown, argument_shown, arguments_shown}
use Rattle.mfotl_parse.specs.Shows.{closing_shown, bound_shown, above_shown, end_shown, interval_shown, is_omitted}
use Rattle.mfotl_parse.proofs.TracedMoves.{trace, Leads, leads_move, leads_one, leads_both, leads_none}
use Rattle.mfotl_parse.proofs.SpelledForms.{Takes, takes_behind, takes_fresh}

abbrev pub scope_of : List Frame → Scope
scope_of stack name = binder_of name stack

-- a token of this class, by itself
pub one : (sig : List PredOf) (p q : Partial) (t : Lexeme) (c : Class) (rules : List Rule) → class_of t ≡ c
    → transition_at p.now sig p.context t c ≡ goes rules q → moves sig (t ∷ []) p ≡ goes rules q
one sig p q t c rules class e = moves_one sig t p q rules (move_is sig p t c class ∙ e)

pub node_fits : (nodes : ℕ) (at : ℕ) → nodes < max_nodes → (within_nodes at nodes).broken ≡ false
node_fits nodes at h = lt-leb max_nodes nodes h

pub node_fitted : (nodes : ℕ) (at : ℕ) → (within_nodes at nodes).broken ≡ false → nodes < max_nodes
node_fitted nodes at h = leb-false max_nodes nodes h

-- ---- arguments

module _ (sig : List PredOf) where
  -- where an argument may stand
  abbrev pub TakesArgument : Stage → Call → Type 0
  TakesArgument now call =
      (t : Lexeme) (c : Class) → class_of t ≡ c → (c ≡ classes.CloseParen → ⊥)
      → (stack : List Frame) (nodes : ℕ) (names : SymbolTable)
      → transition sig (at_place now stack nodes names) t ≡ argument_move (context_at stack nodes names) call t c

  pub next_takes : (call : Call) → TakesArgument (NextArgument call) call
  next_takes call t c class opens stack nodes names = search (move_is, at_place)

  not_closing : (call : Call) (t : Lexeme) (p : Context) (c : Class) → (c ≡ classes.CloseParen → ⊥)
      → first_move p call t c ≡ argument_move p call t c
  not_closing call t p c opens = grind arith

  pub first_takes : (call : Call) → TakesArgument (FirstArgument call) call
  first_takes call t c class opens stack nodes names =
      move_is sig (at_place (FirstArgument call) stack nodes names) t c class
      ∙ not_closing call t (context_at stack nodes names) c opens

  abbrev pub argument_rules : WrittenArgument → List Sort → ℕ → List Rule
  argument_rules (Given term) sorts nodes = one_due (place_of term) sorts ∷ []
  argument_rules (Hidden token) sorts nodes = one_due token.at sorts ∷ within_nodes token.at nodes ∷ []

  abbrev pub argument_nodes : WrittenArgument → ℕ → ℕ
  argument_nodes (Given term) nodes = nodes
  argument_nodes (Hidden token) nodes = suc nodes

  argument_leads : (now : Stage) (call : Call) (a : WrittenArgument) (stack : List Frame) (nodes : ℕ)
      (names : SymbolTable) → TakesArgument now call → FitsArgument a
      → Leads sig (argument_spelling a) (at_place now stack nodes names)
      (at_place (AfterArgument (with_argument call (argument_term a (scope_of stack) names))) stack
      (argument_nodes a nodes) (argument_names a (due_sort call.rest) (scope_of stack) names))
      (argument_rules a call.rest nodes) (argument_shown a call.rest nodes)
  argument_leads now call (Given (Named (Bare name))) stack nodes names takes fits =
      leads_move name (takes name classes.Name fits (λ e. cc) stack nodes names)
  argument_leads now call (Given (Named (Asked mark name))) stack nodes names takes fits =
      leads_both (leads_move mark (takes mark classes.Question fits.0 (λ e. cc) stack nodes names))
      (leads_one name classes.Name (at_place (AfterArgumentMark call mark.at) stack nodes names) fits.1 refl)
  argument_leads now call (Given (Number token z)) stack nodes names takes fits =
      leads_move token (takes token (classes.Integer z) fits (λ e. cc) stack nodes names)
  argument_leads now call (Given (Quoted token)) stack nodes names takes fits =
      leads_move token (takes token classes.Text fits (λ e. cc) stack nodes names)
  argument_leads now call (Hidden token) stack nodes names takes fits =
      leads_move token (takes token classes.Blank fits (λ e. cc) stack nodes names)

  pub argument_nodes_are : (a : WrittenArgument) (nodes : ℕ) → argument_nodes a nodes ≡ nodes + hidden_count a
  argument_nodes_are a nodes = grind arith

  -- behind arguments
  abbrev pub call_behind : WrittenArguments → Call → Scope → SymbolTable → Call
  call_behind arguments call scope names =
      record {
        pred = call.pred;
        rest = sorts_behind arguments call.rest;
        args = call.args
            ++ arguments_terms arguments call.rest scope names;
        bound = call.bound;
      }

  abbrev pub arguments_nodes : WrittenArguments → ℕ → ℕ
  arguments_nodes (LastArgument a) nodes = argument_nodes a nodes
  arguments_nodes (MoreArguments a comma rest) nodes = arguments_nodes rest (argument_nodes a nodes)

  abbrev pub arguments_rules : WrittenArguments → List Sort → ℕ → List Rule
  arguments_rules (LastArgument a) sorts nodes = argument_rules a sorts nodes
  arguments_rules (MoreArguments a comma rest) sorts nodes =
      argument_rules a sorts nodes ++ arguments_rules rest (after_due sorts) (argument_nodes a nodes)

  arguments_leads : (now : Stage) (call : Call) (xs : WrittenArguments) (stack : List Frame) (nodes : ℕ)
      (names : SymbolTable) → TakesArgument now call → FitsArguments xs
      → Leads sig (arguments_spelling xs) (at_place now stack nodes names)
      (at_place (AfterArgument (call_behind xs call (scope_of stack) names)) stack (arguments_nodes xs nodes)
      (arguments_names xs call.rest (scope_of stack) names))
      (arguments_rules xs call.rest nodes) (arguments_shown xs call.rest nodes)
  arguments_leads now call (LastArgument a) stack nodes names takes fits = search (argument_leads)
  arguments_leads now call (MoreArguments a comma rest) stack nodes names takes fits =
      let scope = scope_of stack in
      let call2 = with_argument call (argument_term a scope names) in
      let names2 = argument_names a (due_sort call.rest) scope names in
      let nodes2 = argument_nodes a nodes in
      let later = arguments_leads (NextArgument call2) call2 rest stack nodes2 names2 (next_takes call2) fits.2 in
      rw (
        ← argument_nodes_are a nodes,
        ← append_assoc call.args (argument_term a scope names ∷ [])
            (arguments_terms rest (after_due call.rest) scope names2),
      )
      (leads_both (argument_leads now call a stack nodes names takes fits.0)
      (leads_both (leads_one comma classes.Comma (at_place (AfterArgument call2) stack nodes2 names2) fits.1 refl)
      later))

  -- ---- their rules

  pub arguments_nodes_are : (xs : WrittenArguments) (nodes : ℕ) → arguments_nodes xs nodes ≡ nodes + blank_count xs
  arguments_nodes_are (LastArgument a) nodes = argument_nodes_are a nodes
  arguments_nodes_are (MoreArguments a comma rest) nodes =
      omega (arith, arguments_nodes_are rest (argument_nodes a nodes), argument_nodes_are a nodes)

  due_more : (sorts : List Sort) (n : ℕ) → length sorts ≡ suc n
      → (is_empty sorts ≡ false) × (length (after_due sorts) ≡ n)
  due_more sorts n h = grind arith

  pub arguments_kept : (xs : WrittenArguments) (sorts : List Sort) (nodes : ℕ) → length sorts ≡ argument_count xs
      → nodes + blank_count xs ≤ max_nodes → AreKept (arguments_rules xs sorts nodes)
  arguments_kept (LastArgument a) sorts nodes h few_nodes = grind arith
  arguments_kept (MoreArguments a comma rest) sorts nodes h few_nodes =
      kept_both (argument_rules a sorts nodes) (arguments_rules rest (after_due sorts) (argument_nodes a nodes))
      (grind arith)
      (arguments_kept rest (after_due sorts) (argument_nodes a nodes) (due_more sorts (argument_count rest) h).1
      (omega (arith, few_nodes, argument_nodes_are a nodes)))

  none_left : (sorts : List Sort) → length sorts ≡ 0 → is_empty sorts ≡ true
  none_left sorts h = grind arith

  is_due : (sorts : List Sort) (n : ℕ) → is_empty sorts ≡ false → length (after_due sorts) ≡ n → length sorts ≡ suc n
  is_due sorts n h k = grind arith

  argument_due : (a : WrittenArgument) (sorts : List Sort) (nodes : ℕ) → AreKept (argument_rules a sorts nodes)
      → nodes ≤ max_nodes → (is_empty sorts ≡ false) × (argument_nodes a nodes ≤ max_nodes)
  argument_due a sorts nodes k few_nodes = grind arith

  arguments_due : (xs : WrittenArguments) (sorts : List Sort) (nodes : ℕ) → AreKept (arguments_rules xs sorts nodes)
      → nodes ≤ max_nodes → not (is_empty (sorts_behind xs sorts)) ≡ false
      → (length sorts ≡ argument_count xs) × (arguments_nodes xs nodes ≤ max_nodes)
  arguments_due (LastArgument a) sorts nodes k few_nodes none = grind arith
  arguments_due (MoreArguments a comma rest) sorts nodes k few_nodes none =
      let own = argument_due a sorts nodes (kept_front (argument_rules a sorts nodes) _ k) few_nodes in
      let later = arguments_due rest (after_due sorts) (argument_nodes a nodes)
      (kept_back (argument_rules a sorts nodes) _ k) own.1 none in
      (is_due sorts (argument_count rest) own.0 later.0, later.1)

  pub none_behind : (xs : WrittenArguments) (sorts : List Sort) → length sorts ≡ argument_count xs
      → is_empty (sorts_behind xs sorts) ≡ true
  none_behind (LastArgument a) sorts h = none_left (after_due sorts) (due_more sorts 0 h).1
  none_behind (MoreArguments a comma rest) sorts h =
      none_behind rest (after_due sorts) (due_more sorts (argument_count rest) h).1

  -- ---- atoms

  -- an atom's name and its `(`
  name_leads : (found : Option PredOf) (name opening : Lexeme) (stack : List Frame) (nodes : ℕ) (names : SymbolTable)
      → named name.text sig ≡ found → IsAtomName name → class_of opening ≡ classes.OpenParen
      → Leads sig (name ∷ opening ∷ []) (at_place ExpectOperand stack nodes names)
      (at_place (FirstArgument (call_of found (length names.bound_sorts))) stack (suc nodes) names)
      (known name.at found ∷ within_nodes name.at nodes ∷ []) ([] ∷ name_shown found name.at nodes ∷ [])
  unfolding moves trace transition
  name_leads found name opening stack nodes names is h opens = grind (arith, blank_text)

  arity_kept : (found : Option PredOf) (n at : ℕ) → HasArity found n
      → ((known at found).broken ≡ false) × (length (call_of found 0).rest ≡ n)
  arity_kept found n at h = grind arith

  arity_is : (found : Option PredOf) (n at : ℕ) → (known at found).broken ≡ false → length (call_of found 0).rest ≡ n
      → HasArity found n
  arity_is found n at k h = grind arith

  -- a whole atom, without arguments and with some
  pub bare_atom_leads : (name opening closing : Lexeme) (stack : List Frame) (nodes : ℕ) (names : SymbolTable)
      → IsAtomName name → class_of opening ≡ classes.OpenParen → class_of closing ≡ classes.CloseParen
      → Leads sig (name ∷ opening ∷ closing ∷ []) (at_place ExpectOperand stack nodes names) (at_place (AfterOperand
      (atom (named name.text sig) [] (length names.bound_sorts) (length names.bound_sorts))) stack (suc nodes) names)
      (known name.at (named name.text sig) ∷ within_nodes name.at nodes
      ∷ none_due closing.at (call_of (named name.text sig) 0).rest ∷ [])
      ([] ∷ name_shown (named name.text sig) name.at nodes
      ∷ closing_shown closing.at (places_of (named name.text sig)) ∷ [])
  unfolding moves trace transition
  bare_atom_leads name opening closing stack nodes names named_so opens closes = grind (arith, blank_text)

  pub atom_leads : (found : Option PredOf) (name opening : Lexeme) (xs : WrittenArguments) (closing : Lexeme)
      (stack : List Frame) (nodes : ℕ) (names : SymbolTable) → named name.text sig ≡ found → IsAtomName name
      → class_of opening ≡ classes.OpenParen → FitsArguments xs → class_of closing ≡ classes.CloseParen
      → Leads sig (name ∷ opening ∷ arguments_spelling xs ++ closing ∷ []) (at_place ExpectOperand stack nodes names)
      (at_place (AfterOperand
      (atom found (arguments_terms xs (call_of found 0).rest (scope_of stack) names) (length names.bound_sorts)
      (length (arguments_names xs (call_of found 0).rest (scope_of stack) names).bound_sorts))) stack
      (arguments_nodes xs (suc nodes)) (arguments_names xs (call_of found 0).rest (scope_of stack) names))
      (known name.at found ∷ within_nodes name.at nodes ∷ arguments_rules xs (call_of found 0).rest (suc nodes)
      ++ none_due closing.at (sorts_behind xs (call_of found 0).rest) ∷ [])
      ([] ∷ name_shown found name.at nodes ∷ arguments_shown xs (places_of found) (suc nodes)
      ++ closing_shown closing.at (sorts_behind xs (places_of found)) ∷ [])
  atom_leads None name opening xs closing stack nodes names is named_so opens fits closes =
      let call = call_of None (length names.bound_sorts) in
      leads_both (name_leads None name opening stack nodes names is named_so opens)
      (leads_both (arguments_leads (FirstArgument call) call xs stack (suc nodes) names (first_takes call) fits)
      (leads_one closing classes.CloseParen (at_place (AfterArgument (call_behind xs call (scope_of stack) names)) stack
      (arguments_nodes xs (suc nodes)) (arguments_names xs call.rest (scope_of stack) names)) closes refl))
  atom_leads (Some pred) name opening xs closing stack nodes names is named_so opens fits closes =
      let call = call_of (Some pred) (length names.bound_sorts) in
      leads_both (name_leads (Some pred) name opening stack nodes names is named_so opens)
      (leads_both (arguments_leads (FirstArgument call) call xs stack (suc nodes) names (first_takes call) fits)
      (leads_one closing classes.CloseParen (at_place (AfterArgument (call_behind xs call (scope_of stack) names)) stack
      (arguments_nodes xs (suc nodes)) (arguments_names xs call.rest (scope_of stack) names)) closes refl))

  -- what the rules of an atom want
  pub bare_exactly : (found : Option PredOf) (at closing_at nodes levels : ℕ)
      → Exactly levels ((nodes < max_nodes) × HasArity found 0)
      (known at found ∷ within_nodes at nodes ∷ none_due closing_at (call_of found 0).rest ∷ [])
  bare_exactly found at closing_at nodes levels = grind arith

  pub atom_exactly : (found : Option PredOf) (xs : WrittenArguments) (at closing_at nodes levels : ℕ)
      → Exactly levels ((nodes + suc (blank_count xs) ≤ max_nodes) × HasArity found (argument_count xs))
      (known at found ∷ within_nodes at nodes ∷ arguments_rules xs (call_of found 0).rest (suc nodes)
      ++ none_due closing_at (sorts_behind xs (call_of found 0).rest) ∷ [])
  atom_exactly found xs at closing_at nodes levels =
      let sorts = (call_of found 0).rest in
      let inner = arguments_rules xs sorts (suc nodes) in (
        λ k. grind (
          arith,
          arity_kept found (argument_count xs) at,
          node_fits nodes at,
          none_behind xs sorts,
          arguments_kept xs sorts (suc nodes),
          kept_both inner (none_due closing_at (sorts_behind xs sorts) ∷ []),
        ),
        λ d a. grind (
          arith,
          arguments_due xs sorts (suc nodes),
          kept_front inner _ a.1.1,
          kept_back inner _ a.1.1,
          node_fitted nodes at a.1.0,
          arguments_nodes_are xs (suc nodes),
          arity_is found (argument_count xs) at,
        ),
      )

  -- ---- comparisons

  -- a comparison's left side and its sign
  left_leads : (left : WrittenTerm) (token : Lexeme) (sign : Sign) (stack : List Frame) (nodes : ℕ)
      (names : SymbolTable) → FitsTerm left → class_of token ≡ classes.Sign sign
      → Leads sig (term_spelling left ++ token ∷ []) (at_place ExpectOperand stack nodes names)
      (at_place (AfterSign
      (record { at = place_of left; operand = operand_of left (scope_of stack) names }) token.at sign) stack
      (suc nodes) (term_names left (scope_of stack) names))
      (within_nodes token.at nodes ∷ []) (silent (term_spelling left) ++ node_shown token.at nodes ∷ [])
  unfolding moves trace transition
  left_leads left token sign stack nodes names fits class = grind arith

  right_leads : (left : Side) (at : ℕ) (sign : Sign) (right : WrittenTerm) (stack : List Frame) (nodes : ℕ)
      (names : SymbolTable) → FitsTerm right
      → Leads sig (term_spelling right) (at_place (AfterSign left at sign) stack nodes names)
      (at_place (AfterOperand (comparison left.operand sign (operand_of right (scope_of stack) names))) stack nodes
      (with_comparison left.operand left.at at (operand_of right (scope_of stack) names) (place_of right)
      (term_names right (scope_of stack) names))) [] (silent (term_spelling right))
  unfolding moves trace transition
  right_leads left at sign right stack nodes names fits = grind arith

  -- a whole comparison
  pub comparison_leads : (left : WrittenTerm) (token : Lexeme) (sign : Sign) (right : WrittenTerm)
      (stack : List Frame) (nodes : ℕ) (names : SymbolTable) → FitsTerm left → class_of token ≡ classes.Sign sign
      → FitsTerm right
      → Leads sig (term_spelling left ++ token ∷ term_spelling right) (at_place ExpectOperand stack nodes names)
      (at_place (AfterOperand (comparison (operand_of left (scope_of stack) names) sign
      (operand_of right (scope_of stack) (term_names left (scope_of stack) names)))) stack (suc nodes)
      (with_comparison (operand_of left (scope_of stack) names) (place_of left) token.at
      (operand_of right (scope_of stack) (term_names left (scope_of stack) names)) (place_of right)
      (term_names right (scope_of stack) (term_names left (scope_of stack) names)))) (within_nodes token.at nodes ∷ [])
      (silent (term_spelling left) ++ node_shown token.at nodes ∷ silent (term_spelling right))
  comparison_leads left token sign right stack nodes names fits class fits_too =
      rw (
        ← append_assoc (term_spelling left) (token ∷ []) (term_spelling right),
        ← append_assoc (silent (term_spelling left)) (node_shown token.at nodes ∷ []) (silent (term_spelling right)),
      )
      (leads_both (left_leads left token sign stack nodes names fits class)
      (right_leads _ token.at sign right stack (suc nodes) (term_names left (scope_of stack) names) fits_too))

  -- ---- intervals

  abbrev low_rules : WrittenBound → List Rule
  low_rules (Count token n) = in_range token.at n ∷ []
  low_rules (Counted token n unit seconds) = in_range token.at n ∷ in_range token.at (n * seconds) ∷ []

  low_kept : (low : WrittenBound) → FitsBound low → InRange low → AreKept (low_rules low)
  low_kept low fits h = grind arith

  -- the rules behind `(`, where the number is looked at with its unit
  abbrev above_rules : WrittenBound → List Rule
  above_rules (Count token n) = in_range token.at n ∷ []
  above_rules (Counted token n unit seconds) = in_range token.at (n * seconds) ∷ []

  low_leads : (at : ℕ) (low : WrittenBound) (comma : Lexeme) (stack : List Frame) (nodes : ℕ) (names : SymbolTable)
      → FitsBound low → class_of comma ≡ classes.Comma
      → Leads sig (bound_spelling low ++ comma ∷ []) (at_place (ExpectLow at) stack nodes names)
      (at_place (ExpectHigh at (bound_value low)) stack nodes names) (low_rules low) (bound_shown low ++ [] ∷ [])
  unfolding moves trace transition
  low_leads at low comma stack nodes names fits class = grind arith

  above_leads : (at : ℕ) (low : WrittenBound) (comma : Lexeme) (stack : List Frame) (nodes : ℕ) (names : SymbolTable)
      → FitsBound low → class_of comma ≡ classes.Comma
      → Leads sig (bound_spelling low ++ comma ∷ []) (at_place (AfterParen at) stack nodes names)
      (at_place (ExpectHigh at (bound_value low + 1)) stack nodes names) (above_rules low) (above_shown low)
  unfolding moves trace transition
  above_leads at low comma stack nodes names fits class = grind arith

  abbrev end_rules : ℕ → ℕ → WrittenEnd → List Rule
  end_rules at low (Included high closing) = low_rules high ++ not_empty at low (bound_value high + 1) ∷ []
  end_rules at low (Excluded high closing) = low_rules high ++ not_empty at low (bound_value high) ∷ []
  end_rules at low (Unbounded star closing) = []

  end_kept : (at low : ℕ) (end : WrittenEnd) → FitsEnd end → EndKeeps low end → AreKept (end_rules at low end)
  end_kept at low end fits k = grind arith

  -- an upper bound or none, and the bracket behind it
  end_leads : (at low : ℕ) (end : WrittenEnd) (stack : List Frame) (nodes : ℕ) (names : SymbolTable) → FitsEnd end
      → Leads sig (end_spelling end) (at_place (ExpectHigh at low) stack nodes names)
      (at_place ExpectOperand (with_interval (interval_from low end) stack) nodes names)
      (end_rules at low end) (end_shown at low end)
  unfolding moves trace transition
  end_leads at low end stack nodes names fits = grind arith

  -- an interval behind its opening bracket
  inner_leads : (p : Partial) (at from : ℕ) (low : WrittenBound) (comma : Lexeme) (end : WrittenEnd)
      (stack : List Frame) (nodes : ℕ) (names : SymbolTable) (rules : List Rule) (shown : Showing)
      → Leads sig (bound_spelling low ++ comma ∷ []) p (at_place (ExpectHigh at from) stack nodes names) rules shown
      → FitsEnd end → Leads sig (bound_spelling low ++ comma ∷ end_spelling end) p
      (at_place ExpectOperand (with_interval (interval_from from end) stack) nodes names)
      (rules ++ end_rules at from end) (shown ++ end_shown at from end)
  inner_leads p at from low comma end stack nodes names rules shown l fits =
      rw (← append_assoc (bound_spelling low) (comma ∷ []) (end_spelling end))
      (leads_both l (end_leads at from end stack nodes names fits))

  -- the rules of an interval, kept where it is as it should be
  abbrev interval_rules : WrittenInterval → List Rule
  interval_rules Omitted = []
  interval_rules (From opening low comma end) = low_rules low ++ end_rules opening.at (bound_value low) end
  interval_rules (Above opening low comma end) = above_rules low ++ end_rules opening.at (bound_value low + 1) end

  -- an operator's interval, where it may have one
  pub interval_leads : (timed : Bool) (interval : WrittenInterval) (frame : Interval → Frame) (base : List Frame)
      (nodes : ℕ) (names : SymbolTable)
      → FitsOperator timed interval → ((i : Interval) → framed i (frame any_distance) ≡ frame i)
      → Leads sig (interval_spelling interval) (at_place (now_behind timed) (frame any_distance ∷ base) nodes names)
      (at_place (now_behind (timed && is_omitted interval)) (frame (interval_of interval) ∷ base) nodes names)
      (interval_rules interval) (interval_shown interval)
  interval_leads false interval frame base nodes names omitted frames = rw omitted (leads_none _)
  interval_leads true Omitted frame base nodes names fits frames = leads_none _
  interval_leads true (From opening low comma end) frame base nodes names fits frames =
      let stack = frame any_distance ∷ base in
      rw (
        ← frames (interval_of (From opening low comma end)),
        ← append_assoc (bound_shown low) ([] ∷ []) (end_shown opening.at (bound_value low) end),
      )
      (leads_both (leads_one opening classes.OpenBracket (at_place AfterTemporal stack nodes names) fits.0 refl)
      (inner_leads _ opening.at (bound_value low) low comma end stack nodes names _ _
      (low_leads opening.at low comma stack nodes names fits.1 fits.2) fits.3))
  interval_leads true (Above opening low comma end) frame base nodes names fits frames =
      let stack = frame any_distance ∷ base in
      rw (← frames (interval_of (Above opening low comma end)))
      (leads_both (leads_one opening classes.OpenParen (at_place AfterTemporal stack nodes names) fits.0 refl)
      (inner_leads _ opening.at (bound_value low + 1) low comma end stack nodes names _ _
      (above_leads opening.at low comma stack nodes names fits.1 fits.2) fits.3))

  interval_kept : (timed : Bool) (interval : WrittenInterval) → FitsOperator timed interval → IntervalKeeps interval
      → AreKept (interval_rules interval)
  interval_kept timed interval omitted k = grind (arith, kept_both, low_kept, end_kept)

  interval_reached : (interval : WrittenInterval) → AreKept (interval_rules interval) → IntervalKeeps interval
  interval_reached interval a = grind arith

  level_framed : (i : Interval) (frame : Frame) → opens_level (framed i frame) ≡ opens_level frame
  level_framed i frame = grind arith

  -- an interval opens no level
  same_depth : (i : Interval) (frame : Interval → Frame) (base : List Frame)
      → ((j : Interval) → framed j (frame any_distance) ≡ frame j) → depth (frame any_distance ∷ base) ≤ max_levels
      → depth (frame i ∷ base) ≤ max_levels
  unfolding depth
  same_depth i frame base frames h = rw (← frames i, level_framed i (frame any_distance)) h

  -- an operand behind an operator and its interval
  pub takes_interval : (timed : Bool) (interval : WrittenInterval) (frame : Interval → Frame)
      (base lower : List Frame) (ts : List Lexeme) (nodes edge more : ℕ) (names others : SymbolTable) (v : Form)
      (keeps : Type 0) → FitsOperator timed interval → ((i : Interval) → framed i (frame any_distance) ≡ frame i)
      → Takes sig (at_place ExpectOperand
      (frame (interval_of interval) ∷ base) nodes names) ts lower edge v more others keeps
      → Takes sig (at_place (now_behind timed) (frame any_distance ∷ base) nodes names)
      (interval_spelling interval ++ ts) lower edge v more others (IntervalKeeps interval × keeps)
  takes_interval timed interval frame base lower ts nodes edge more names others v keeps fits frames t =
      takes_behind sig _ _ (interval_spelling interval) ts lower edge v more others keeps _ (interval_rules interval)
      (interval_leads timed interval frame base nodes names fits frames).moved
      (λ k. interval_kept timed interval fits k.0) (λ k. k.1)
      (λ d a. same_depth (interval_of interval) frame base frames d) (λ d a k. (interval_reached interval a, k))
      (grind (arith, takes_fresh))
