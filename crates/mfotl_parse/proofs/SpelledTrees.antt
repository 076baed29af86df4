-- How a whole tree is read, by what is written in it.
use Rattle.std.proofs.Common.{◌≡◌, ℕ, suc, ◌+◌, ◌<◌, ◌≤◌, true, false, List, [], ◌∷◌, ◌++◌, length, None, refl, sym}
use Rattle.std.proofs.Common.{◌∙◌, arith}
use Rattle.std.proofs.{lemmas.Bool.lt-leb, lemmas.Bool.leb-false, lemmas.List.append_assoc}
use Rattle.mfotl_lex.specs.Lexemes.{Lexeme}
use Rattle.mfotl_model.specs.declared.interval.Interval.{Interval}
use Rattle.mfotl_model.specs.Formulas.{Form}
use Rattle.mfotl_sig.specs.Preds.{PredOf, named}
use Rattle.mfotl_parse.specs.declared.{class.Class.Class, class.Operator.Operator, class.Quantifier.Quantifier}
use Rattle.mfotl_parse.specs.declared.class.Class.TheVariants as classes
use Rattle.mfotl_parse.specs.{Classes.class_of, Intervals.any_distance, Reading.transition, Shows.variable_shown}
use Rattle.mfotl_parse.specs.{SymbolTable.binder_of, SymbolTable.bound_more, Operands.truth, Quantifiers.bound_move}
use Rattle.mfotl_parse.specs.{Limits.max_levels, Limits.max_nodes}
use Rattle.mfotl_parse.specs.Grammar.{WrittenVariable, WrittenVariables, LastVariable, MoreVariables, Tree, Truth}
use Rattle.mfotl_parse.specs.Grammar.{BareAtom, AtomOf, Comparison, Enclosed, Denied, Timed, Quantified, Joined}
use Rattle.mfotl_parse.specs.Grammar.{variable_spelling, variables_spelling, interval_spelling, spelling, FitsVariable}
use Rattle.mfotl_parse.specs.Grammar.{FitsVariables, Fits, left_precedence, is_shut, precedence, right_precedence}
use Rattle.mfotl_parse.specs.Grammar.{is_timed}
use Rattle.mfotl_parse.specs.Meanings.{Scope, variables_names, variables_scope, quantify, interval_of, names_behind}
use Rattle.mfotl_parse.specs.Meanings.{value, node_count, nesting, PartsKeep, HasArity, argument_count}
use Rattle.mfotl_parse.specs.Occurrences.{variable_count, blank_count, name_of, place_of_variable}
use Rattle.mfotl_parse.specs.Transitions.{Rule, goes, within_nodes, within_depth}
use Rattle.mfotl_parse.specs.States.{Frame, Parens, Negation, Moment, Binding, Left, depth, SymbolTable, Stage, Partial}
use Rattle.mfotl_parse.specs.States.{ExpectOperand, AfterTemporal, ExpectVariable, AfterVariable}
use Rattle.mfotl_parse.proofs.{OperatorLevels.levels, TracedMoves.trace, TracedMoves.Leads}
use Rattle.mfotl_parse.proofs.SpelledMoves.{at_place, context_at, moves, moves_both, AreKept}
use Rattle.mfotl_parse.proofs.SpelledForms.{Takes, IsLoose, takes_whole, takes_behind, takes_closed, takes_enclosed}
use Rattle.mfotl_parse.proofs.SpelledForms.{takes_joined}
use Rattle.mfotl_parse.proofs.SpelledParts.{scope_of, one, node_fits, node_fitted, bare_atom_leads, atom_leads}
use Rattle.mfotl_parse.proofs.SpelledParts.{bare_exactly, atom_exactly, comparison_leads, takes_interval}
use Rattle.mfotl_parse.proofs.SpelledParts.{arguments_nodes, arguments_nodes_are}

-- frames on the edge of a tree of this rule hold more tightly than what lies below
abbrev pub Reaches : ℕ → ℕ → Type 0
Reaches rule edge = (edge ≤ 6) × ((o : Operator) → rule ≤ precedence o → edge ≤ right_precedence o)

-- a left operand's frames are closed by its operator
apart : (o p : Operator) → left_precedence o ≤ precedence p → suc (precedence o) ≤ right_precedence p
apart o p h = grind arith

pub left_reaches : (o : Operator) → Reaches (left_precedence o) (suc (precedence o))
left_reaches o = (omega (arith, (levels o).most), λ p h. apart o p h)

pub right_reaches : (o : Operator) (rule edge : ℕ) → rule ≤ precedence o → Reaches rule edge
    → Reaches (right_precedence o) edge
right_reaches o rule edge h r = (r.0, λ p k. omega (arith, r.1 o h, k, (levels p).right))

pub unary_reaches : (rule edge : ℕ) → Reaches rule edge → Reaches 6 edge
unary_reaches rule edge r = (r.0, λ p k. absurd (omega (arith, k, (levels p).most)))

pub one_reaches : (edge : ℕ) → edge ≤ 1 → Reaches 1 edge
one_reaches edge h = (omega (arith, h), λ p k. omega (arith, h, k, (levels p).right))

pub looser : (rule more : ℕ) (stack : List Frame) → rule ≤ more → IsLoose rule stack → IsLoose more stack
looser rule more stack h k = grind arith

pub depth_fitted : (stack : List Frame) (at : ℕ) → (within_depth at stack).broken ≡ false → depth stack < max_levels
depth_fitted stack at h = leb-false max_levels (depth stack) h

pub depth_fits : (stack : List Frame) (at : ℕ) → depth stack < max_levels → (within_depth at stack).broken ≡ false
depth_fits stack at h = lt-leb max_levels (depth stack) h

-- what the rules want of a tree, behind so many nodes, under so many levels
abbrev pub Keeps : List PredOf → Tree → ℕ → ℕ → Type 0
Keeps sig tree nodes levels =
    (nodes + node_count tree ≤ max_nodes) × (levels + nesting tree ≤ max_levels) × PartsKeep sig tree

module _ (sig : List PredOf) where
  -- the same tokens and nodes, written otherwise, and what wants more
  pub takes_as : (p : Partial) (ts us : List Lexeme) (base : List Frame) (edge : ℕ) (v : Form) (nodes more : ℕ)
      (names : SymbolTable) (keeps others : Type 0)
      → ts ≡ us → nodes ≡ more → (others → keeps) → (depth p.context.stack ≤ max_levels → keeps → others)
      → Takes sig p ts base edge v nodes names keeps → Takes sig p us base edge v more names others
  takes_as p ts us base edge v nodes more names keeps others spelled same all back t = grind arith

  -- ---- quantified variables

  prefix_kept : (stack : List Frame) (at nodes : ℕ) → depth stack < max_levels → nodes < max_nodes
      → AreKept (within_depth at stack ∷ within_nodes at nodes ∷ [])
  prefix_kept stack at nodes h k = (depth_fits stack at h, (node_fits nodes at k, tt))

  abbrev pub variable_rules : List Frame → WrittenVariable → ℕ → List Rule
  variable_rules stack v nodes =
      within_depth (place_of_variable v) stack ∷ within_nodes (place_of_variable v) nodes ∷ []

  pub variable_leads : (q : Quantifier) (v : WrittenVariable) (stack : List Frame) (nodes : ℕ) (names : SymbolTable)
      → FitsVariable v → Leads sig (variable_spelling v) (at_place (ExpectVariable q) stack nodes names)
      (at_place (AfterVariable q) (Binding q (length names.bound_sorts) (name_of v) ∷ stack) (suc nodes)
      (bound_more None names)) (variable_rules stack v nodes) (variable_shown v (depth stack) nodes)
  unfolding moves trace transition
  variable_leads q v stack nodes names fits = grind arith

  -- a variable and the mark behind it
  bound_read : (q : Quantifier) (v : WrittenVariable) (mark : Lexeme) (now : Stage) (c : Class) (stack : List Frame)
      (nodes : ℕ) (names : SymbolTable) → FitsVariable v → class_of mark ≡ c → bound_move
      (context_at (Binding q (length names.bound_sorts) (name_of v) ∷ stack) (suc nodes) (bound_more None names)) q c
      ≡ goes [] (at_place now (Binding q (length names.bound_sorts) (name_of v) ∷ stack) (suc nodes)
      (bound_more None names))
      → moves sig (variable_spelling v ++ mark ∷ []) (at_place (ExpectVariable q) stack nodes names)
      ≡ goes (variable_rules stack v nodes)
      (at_place now (Binding q (length names.bound_sorts) (name_of v) ∷ stack) (suc nodes) (bound_more None names))
  bound_read q v mark now c stack nodes names fits class e =
      moves_both sig (variable_spelling v) (mark ∷ []) _ _ _ (variable_rules stack v nodes) []
      (variable_leads q v stack nodes names fits).moved
      (one sig (at_place (AfterVariable q) (Binding q (length names.bound_sorts) (name_of v) ∷ stack) (suc nodes)
      (bound_more None names)) _ mark c [] class e)

  -- how a body is read, wherever it stands
  abbrev pub Body : List Lexeme → ℕ → (Scope → SymbolTable → Form) → (Scope → SymbolTable → SymbolTable) → ℕ → ℕ
      → Type 0 → Type 0
  Body ts edge v others count deep parts =
      (stack : List Frame) (nodes : ℕ) (names : SymbolTable) → IsLoose 1 stack
      → Takes sig (at_place ExpectOperand stack nodes names) ts stack edge (v (scope_of stack) names) (nodes + count)
      (others (scope_of stack) names)
      ((nodes + count ≤ max_nodes) × (depth stack + deep ≤ max_levels) × parts)

  takes_variables : (q : Quantifier) (vs : WrittenVariables) (dot : Lexeme) (ts : List Lexeme) (edge : ℕ)
      (v : Scope → SymbolTable → Form) (others : Scope → SymbolTable → SymbolTable) (count deep : ℕ) (parts : Type 0)
      (stack : List Frame) (nodes : ℕ) (names : SymbolTable) → edge ≤ 1 → FitsVariables vs → class_of dot
      ≡ classes.Dot → Body ts edge v others count deep parts
      → Takes sig (at_place (ExpectVariable q) stack nodes names) (variables_spelling vs ++ dot ∷ ts) stack edge
      (quantify q vs names (v (variables_scope vs names (scope_of stack)) (variables_names vs names)))
      (nodes + (variable_count vs + count))
      (others (variables_scope vs names (scope_of stack)) (variables_names vs names))
      ((nodes + (variable_count vs + count) ≤ max_nodes) × (depth stack + (variable_count vs + deep) ≤ max_levels)
      × parts)
  unfolding depth binder_of
  takes_variables q (LastVariable x) dot ts edge v others count deep parts stack nodes names low fits class body =
      let frame = Binding q (length names.bound_sorts) (name_of x) in
      let inner = takes_closed sig _ ts frame stack edge _ _ _ _ low
      (body (frame ∷ stack) (suc nodes) (bound_more None names) (omega arith)) in
      takes_as _ _ _ _ _ _ _ _ _ _ _ (append_assoc (variable_spelling x) (dot ∷ []) ts) (omega arith) (λ k. k)
      (λ d k. k)
      (takes_behind sig (at_place (ExpectVariable q) stack nodes names) _
      (variable_spelling x ++ dot ∷ []) ts stack edge _ _ _ _ _ (variable_rules stack x nodes)
      (bound_read q x dot ExpectOperand classes.Dot stack nodes names fits class refl)
      (λ k. prefix_kept stack (place_of_variable x) nodes (omega (arith, k.1)) (omega (arith, k.0)))
      (λ k. (omega (arith, k.0), omega (arith, k.1), k.2))
      (λ d a. omega (arith, depth_fitted stack (place_of_variable x) a.0))
      (λ d a k. (omega (arith, k.0), omega (arith, k.1), k.2)) inner)
  takes_variables q
      (MoreVariables x comma rest) dot ts edge v others count deep parts stack nodes names low fits class body =
      let frame = Binding q (length names.bound_sorts) (name_of x) in
      let inner = takes_closed sig _ (variables_spelling rest ++ dot ∷ ts) frame stack edge _ _ _ _ low
      (takes_variables q rest dot ts edge v others count deep parts (frame ∷ stack) (suc nodes)
      (bound_more None names) low fits.2 class body) in
      takes_as _ _ _ _ _ _ _ _ _ _ _
      (append_assoc (variable_spelling x) (comma ∷ []) (variables_spelling rest ++ dot ∷ ts)
      ∙ sym (append_assoc (variable_spelling x) (comma ∷ variables_spelling rest) (dot ∷ ts)))
      (omega arith) (λ k. k) (λ d k. k)
      (takes_behind sig (at_place (ExpectVariable q) stack nodes names) _ (variable_spelling x ++ comma ∷ [])
      (variables_spelling rest ++ dot ∷ ts) stack edge _ _ _ _ _ (variable_rules stack x nodes)
      (bound_read q x comma (ExpectVariable q) classes.Comma stack nodes names fits.0 fits.1 refl)
      (λ k. prefix_kept stack (place_of_variable x) nodes (omega (arith, k.1)) (omega (arith, k.0)))
      (λ k. (omega (arith, k.0), omega (arith, k.1), k.2))
      (λ d a. omega (arith, depth_fitted stack (place_of_variable x) a.0))
      (λ d a k. (omega (arith, k.0), omega (arith, k.1), k.2)) inner)

  -- ---- formulas

  -- a tree that fits is read, with any frames below that are loose enough
  pub reads : (tree : Tree) (rule edge : ℕ) → Fits rule tree → Reaches rule edge → (is_shut tree ≡ false → edge ≤ 1)
      → (stack : List Frame) (nodes : ℕ) (names : SymbolTable) → IsLoose rule stack
      → Takes sig (at_place ExpectOperand stack nodes names) (spelling tree) stack edge
      (value sig tree (scope_of stack) names) (nodes + node_count tree) (names_behind sig tree (scope_of stack) names)
      (Keeps sig tree nodes (depth stack))
  unfolding depth binder_of
  reads (Truth token which) rule edge fits reach ends stack nodes names loose =
      takes_as _ (token ∷ []) (token ∷ []) _ _ _ (suc nodes) _ _ _ _ refl (omega arith) (λ k. k) (λ d k. k)
      (takes_whole sig (at_place ExpectOperand stack nodes names) (token ∷ []) stack edge (truth which)
      (suc nodes) names (Keeps sig (Truth token which) nodes (depth stack)) (within_nodes token.at nodes ∷ [])
      (one sig (at_place ExpectOperand stack nodes names) _ token (classes.Truth which) _ fits refl)
      (λ k. grind (arith, node_fits nodes token.at), λ d a. grind (arith, node_fitted nodes token.at)))
  reads (BareAtom name opening closing) rule edge fits reach ends stack nodes names loose =
      takes_as _ _ _ _ _ _ (suc nodes) _ _ _ _ refl (omega arith) (λ k. (omega (arith, k.0), k.2))
      (λ d k. (omega (arith, k.0), omega (arith, d), k.1))
      (takes_whole sig _ _ stack edge _ (suc nodes) names ((nodes < max_nodes) × HasArity (named name.text sig) 0) _
      (bare_atom_leads sig name opening closing stack nodes names fits.0 fits.1 fits.2).moved
      (bare_exactly sig (named name.text sig) name.at closing.at nodes (depth stack)))
  reads (AtomOf name opening arguments closing) rule edge fits reach ends stack nodes names loose =
      takes_as _ _ _ _ _ _ (arguments_nodes sig arguments (suc nodes)) _ _ _ _ refl
      (omega (arith, arguments_nodes_are sig arguments (suc nodes))) (λ k. (omega (arith, k.0), k.2))
      (λ d k. (omega (arith, k.0), omega (arith, d), k.1))
      (takes_whole sig _ _ stack edge _ _ _
      ((nodes + suc (blank_count arguments) ≤ max_nodes) × HasArity (named name.text sig) (argument_count arguments)) _
      (atom_leads sig _ name opening arguments closing stack nodes names refl fits.0 fits.1 fits.2 fits.3).moved
      (atom_exactly sig (named name.text sig) arguments name.at closing.at nodes (depth stack)))
  reads (Comparison left token sign right) rule edge fits reach ends stack nodes names loose =
      takes_as _ _ _ _ _ _ (suc nodes) _ _ _ _ refl (omega arith) (λ k. omega (arith, k.0))
      (λ d k. (omega (arith, k), omega (arith, d), tt))
      (takes_whole sig _ _ stack edge _ (suc nodes) _ (nodes < max_nodes) (within_nodes token.at nodes ∷ [])
      (comparison_leads sig left token sign right stack nodes names fits.0 fits.1 fits.2).moved
      (λ k. (node_fits nodes token.at k, tt), λ d a. node_fitted nodes token.at a.0))
  reads (Enclosed opening body closing) rule edge fits reach ends stack nodes names loose =
      let inner = reads body 1 1 fits.1 (one_reaches 1 (omega arith)) (λ e. omega arith) (Parens ∷ stack) nodes names
      (omega arith) in
      let whole = takes_enclosed sig _ (spelling body) closing stack edge _ _ _ _ fits.2 inner in
      takes_behind sig (at_place ExpectOperand stack nodes names)
      (at_place ExpectOperand (Parens ∷ stack) nodes names) (opening ∷ [])
      (spelling body ++ closing ∷ []) stack edge _ _ _ _ _ (within_depth opening.at stack ∷ [])
      (one sig (at_place ExpectOperand stack nodes names) _ opening classes.OpenParen _ fits.0 refl)
      (λ k. (depth_fits stack opening.at (omega (arith, k.1)), tt))
      (λ k. (k.0, omega (arith, k.1), k.2))
      (λ d a. omega (arith, depth_fitted stack opening.at a.0))
      (λ d a k. (k.0, omega (arith, k.1), k.2)) whole
  reads (Denied token body) rule edge fits reach ends stack nodes names loose =
      let inner = reads body 6 edge fits.1 (unary_reaches rule edge reach) ends (Negation ∷ stack) (suc nodes) names
      (omega arith) in
      let whole = takes_closed sig _ (spelling body) Negation stack edge _ _ _ _ reach.0 inner in
      takes_as _ _ _ _ _ _ (suc nodes + node_count body) _ _ _ _ refl (omega arith) (λ k. k) (λ d k. k)
      (takes_behind sig (at_place ExpectOperand stack nodes names)
      (at_place ExpectOperand (Negation ∷ stack) (suc nodes) names) (token ∷ []) (spelling body) stack edge _ _ _ _
      (Keeps sig (Denied token body) nodes (depth stack))
      (within_depth token.at stack ∷ within_nodes token.at nodes ∷ [])
      (one sig (at_place ExpectOperand stack nodes names) _ token classes.Not _ fits.0 refl)
      (λ k. prefix_kept stack token.at nodes (omega (arith, k.1)) (omega (arith, k.0)))
      (λ k. (omega (arith, k.0), omega (arith, k.1), k.2))
      (λ d a. omega (arith, depth_fitted stack token.at a.0))
      (λ d a k. (omega (arith, k.0), omega (arith, k.1), k.2)) whole)
  reads (Timed token operator interval body) rule edge fits reach ends stack nodes names loose =
      let frame : Interval → Frame = λ i. Moment operator i in
      let i = interval_of interval in
      let inner = reads body 6 edge fits.2 (unary_reaches rule edge reach) ends (Moment operator i ∷ stack)
      (suc nodes) names (omega arith) in
      let whole = takes_closed sig _ (spelling body) (Moment operator i) stack edge _ _ _ _ reach.0 inner in
      let behind = takes_interval sig true interval frame stack stack (spelling body) (suc nodes) edge _ names _ _ _
      fits.1
      (λ j. refl) whole in
      takes_as _ _ _ _ _ _ (suc nodes + node_count body) _ _ _ _ refl (omega arith) (λ k. k) (λ d k. k)
      (takes_behind sig (at_place ExpectOperand stack nodes names)
      (at_place AfterTemporal (Moment operator any_distance ∷ stack) (suc nodes) names) (token ∷ [])
      (interval_spelling interval ++ spelling body) stack edge _ _ _ _
      (Keeps sig (Timed token operator interval body) nodes (depth stack))
      (within_depth token.at stack ∷ within_nodes token.at nodes ∷ [])
      (one sig (at_place ExpectOperand stack nodes names) _ token (classes.Temporal operator) _ fits.0 refl)
      (λ k. prefix_kept stack token.at nodes (omega (arith, k.1)) (omega (arith, k.0)))
      (λ k. (k.2.0, (omega (arith, k.0), omega (arith, k.1), k.2.1)))
      (λ d a. omega (arith, depth_fitted stack token.at a.0))
      (λ d a k. (omega (arith, k.1.0), omega (arith, k.1.1), (k.0, k.1.2))) behind)
  reads (Quantified token quantifier variables dot body) rule edge fits reach ends stack nodes names loose =
      let low : edge ≤ 1 = ends refl in
      let inner : Body (spelling body) edge (value sig body) (names_behind sig body) (node_count body) (nesting body)
      (PartsKeep sig body) =
      λ s n m l. reads body 1 edge fits.3 (one_reaches edge low) (λ e. low) s n m l in
      takes_behind sig (at_place ExpectOperand stack nodes names)
      (at_place (ExpectVariable quantifier) stack nodes names) (token ∷ [])
      (variables_spelling variables ++ dot ∷ spelling body) stack edge _ _ _ _ _ []
      (one sig (at_place ExpectOperand stack nodes names) _ token (classes.Quantifier quantifier) _ fits.0 refl)
      (λ k. tt) (λ k. k) (λ d a. d) (λ d a k. k)
      (takes_variables quantifier variables dot (spelling body) edge (value sig body) (names_behind sig body)
      (node_count body) (nesting body) (PartsKeep sig body) stack nodes names low fits.1 fits.2 inner)
  reads (Joined left token operator interval right) rule edge fits reach ends stack nodes names loose =
      let v = value sig left (scope_of stack) names in
      let middle = nodes + node_count left in
      let between = names_behind sig left (scope_of stack) names in
      let before = reads left (left_precedence operator) (suc (precedence operator)) fits.1 (left_reaches operator)
      (λ e. absurd (cc (e, fits.2))) stack nodes names
      (looser rule (left_precedence operator) stack (omega (arith, fits.0, (levels operator).left)) loose) in
      let inner = reads right (right_precedence operator) edge fits.5 (right_reaches operator rule edge fits.0 reach)
      ends
      (Left operator (interval_of interval) v ∷ stack) (suc middle) between (omega arith) in
      let behind = takes_interval sig (is_timed operator) interval (λ j. Left operator j v) stack _ (spelling right)
      (suc middle) edge _ between _ _ _ fits.4 (λ j. refl) inner in
      takes_as _ _ _ _ _ _ (suc middle + node_count right) _ _ _ _ refl (omega arith) (λ k. k) (λ d k. k)
      (takes_joined sig (at_place ExpectOperand stack nodes names) (spelling left)
      (interval_spelling interval ++ spelling right) token operator (interval_of interval) stack
      (suc (precedence operator)) edge v _ middle _ between _ _ _
      (Keeps sig (Joined left token operator interval right) nodes (depth stack))
      fits.3 (omega arith) (reach.1 operator fits.0) (looser rule (precedence operator) stack fits.0 loose)
      (λ k. (omega (arith, k.0), omega (arith, k.1), k.2.0)) (λ k. (grind arith))
      (λ k. grind arith) (λ d a. (grind arith))
      (λ a b e. grind arith) before behind)
