-- How a formula is read from its parts, whatever is open around it.
use Rattle.std.proofs.Common.{◌≡◌, ℕ, ℤ, suc, ◌<◌, ◌≤◌, List, [], ◌∷◌, ◌++◌, Option, ap, sym, subst, ◌∙◌, arith}
use Rattle.std.proofs.lemmas.List.{append_assoc}
use Rattle.mfotl_lex.specs.Lexemes.{Lexeme}
use Rattle.mfotl_model.specs.declared.interval.Interval.{Interval}
use Rattle.mfotl_model.specs.declared.value.Value.TheVariants as values
use Rattle.mfotl_model.specs.Formulas.{Form}
use Rattle.mfotl_sig.specs.Preds.{PredOf}
use Rattle.mfotl_parse.specs.declared.{class.Class.Class, class.Operator.Operator, term.Side.Side}
use Rattle.mfotl_parse.specs.declared.class.Class.TheVariants as classes
use Rattle.mfotl_parse.specs.declared.term.Operand.TheVariants as operands
use Rattle.mfotl_parse.specs.{Classes.class_of, Intervals.any_distance, Operands.operand_move, Lookahead.maybe_move}
use Rattle.mfotl_parse.specs.{Reading.transition, Limits.max_levels}
use Rattle.mfotl_parse.specs.Transitions.{Rule, Transition, goes, first_keeps, within_depth, within_nodes}
use Rattle.mfotl_parse.specs.Operators.{joined_move, enclosed_move, around, deepening, now_behind}
use Rattle.mfotl_parse.specs.Reduction.{Reduced, reduce, hold, closed, operator_form}
use Rattle.mfotl_parse.specs.States.{Frame, Parens, Left, depth, SymbolTable, Stage, Partial, ExpectOperand}
use Rattle.mfotl_parse.specs.States.{AfterTemporal, AfterOperand, ExpectSign, AfterParen, AfterParenNumber}
use Rattle.mfotl_parse.specs.Grammar.{precedence, right_precedence, is_timed, deepens}
use Rattle.mfotl_parse.proofs.SpelledMoves.{at_place, context_at, behind_move, then_moves, moves, move_is, moves_one}
use Rattle.mfotl_parse.proofs.SpelledMoves.{moves_both, AreKept, Exactly, kept_both, kept_front, kept_back, no_move}
use Rattle.mfotl_parse.proofs.SpelledMoves.{same_next}
use Rattle.mfotl_parse.proofs.StackLemmas.{reduce_tight}

-- Tokens are read as an operand: they lead to an operand and frames that are, once all is closed that holds
-- more tightly than a rule below the edge, this value on the base. `keeps` is what the rules on the way want.
pub record Takes (sig : List PredOf) (p : Partial) (ts : List Lexeme) (base : List Frame) (edge : ℕ) (v : Form)
    (nodes : ℕ) (names : SymbolTable) (keeps : Type 0) : Type 0 where
  pub form : Form
  pub stack : List Frame
  pub rules : List Rule
  pub reached : moves sig ts p ≡ goes rules (at_place (AfterOperand form) stack nodes names)
  pub reduces : (j : ℕ) → j < edge → reduce j form stack ≡ reduce j v base
  pub kept : Exactly (depth p.context.stack) keeps rules

-- the innermost frame doesn't hold more tightly than the rule
abbrev pub IsLoose : ℕ → List Frame → Type 0
IsLoose rule [] = Unit {0}
IsLoose rule (frame ∷ stack) = hold frame ≤ rule

pub reduce_here : (rule : ℕ) (f : Form) (stack : List Frame) → IsLoose rule stack → reduce rule f stack
    ≡ record { form = f; stack = stack }
unfolding reduce
reduce_here rule f stack loose = grind arith

module _ (sig : List PredOf) where
  -- tokens that are an operand by themselves
  pub takes_whole : (p : Partial) (ts : List Lexeme) (base : List Frame) (edge : ℕ) (v : Form) (nodes : ℕ)
      (names : SymbolTable) (keeps : Type 0) (rules : List Rule)
      → moves sig ts p ≡ goes rules (at_place (AfterOperand v) base nodes names)
      → Exactly (depth p.context.stack) keeps rules → Takes sig p ts base edge v nodes names keeps
  takes_whole p ts base edge v nodes names keeps rules e k = grind arith

  -- tokens before an operand
  pub takes_behind : (p q : Partial) (front ts : List Lexeme) (base : List Frame) (edge : ℕ) (v : Form) (nodes : ℕ)
      (names : SymbolTable) (keeps more : Type 0) (rules : List Rule)
      → moves sig front p ≡ goes rules q → (more → AreKept rules) → (more → keeps)
      → (depth p.context.stack ≤ max_levels → AreKept rules → depth q.context.stack ≤ max_levels)
      → (depth p.context.stack ≤ max_levels → AreKept rules → keeps → more)
      → Takes sig q ts base edge v nodes names keeps → Takes sig p (front ++ ts) base edge v nodes names more
  takes_behind p q front ts base edge v nodes names keeps more rules e k all opens back t =
      grind (arith, moves_both sig front ts p q _ rules t.rules e t.reached, kept_both, kept_front, kept_back)

  -- an operand whose frame is closed
  pub takes_closed : (p : Partial) (ts : List Lexeme) (frame : Frame) (base : List Frame) (edge : ℕ) (v : Form)
      (nodes : ℕ) (names : SymbolTable) (keeps : Type 0)
      → edge ≤ hold frame → Takes sig p ts (frame ∷ base) edge v nodes names keeps
      → Takes sig p ts base edge (closed frame v) nodes names keeps
  takes_closed p ts frame base edge v nodes names keeps tight t = grind (arith, reduce_tight)

  -- a lower edge, and what wants more
  pub takes_less : (p : Partial) (ts : List Lexeme) (base : List Frame) (edge lower : ℕ) (v : Form) (nodes : ℕ)
      (names : SymbolTable) (keeps more : Type 0)
      → lower ≤ edge → (more → keeps) → (depth p.context.stack ≤ max_levels → keeps → more)
      → Takes sig p ts base edge v nodes names keeps → Takes sig p ts base lower v nodes names more
  takes_less p ts base edge lower v nodes names keeps more less all back t = grind arith

  pub enclosed : (form : Form) (stack base : List Frame) (v : Form) (nodes : ℕ) (names : SymbolTable) (r : Lexeme)
      → class_of r ≡ classes.CloseParen
      → reduce 0 form stack ≡ record { form = v; stack = Parens ∷ base }
      → transition sig (at_place (AfterOperand form) stack nodes names) r
      ≡ goes [] (at_place (AfterOperand v) base nodes names)
  enclosed form stack base v nodes names r class e =
      move_is sig (at_place (AfterOperand form) stack nodes names) r classes.CloseParen class
      ∙ ap (λ (x : Reduced). enclosed_move (record { stack = stack; nodes = nodes; names = names }) x.form
      (around x.stack)) e

  -- an operand and the `)` behind it
  pub takes_enclosed : (p : Partial) (ts : List Lexeme) (r : Lexeme) (base : List Frame) (edge : ℕ) (v : Form)
      (nodes : ℕ) (names : SymbolTable) (keeps : Type 0)
      → class_of r ≡ classes.CloseParen → Takes sig p ts (Parens ∷ base) 1 v nodes names keeps
      → Takes sig p (ts ++ r ∷ []) base edge v nodes names keeps
  takes_enclosed p ts r base edge v nodes names keeps class t =
      let all : reduce 0 t.form t.stack ≡ record { form = v; stack = Parens ∷ base } =
      t.reduces 0 (omega arith) ∙ reduce_here 0 v (Parens ∷ base) (omega arith) in
      takes_whole p (ts ++ r ∷ []) base edge v nodes names keeps (t.rules ++ [])
      (moves_both sig ts (r ∷ []) p _ _ t.rules [] t.reached
      (moves_one sig r _ _ [] (enclosed t.form t.stack base v nodes names r class all)))
      (λ k. kept_both t.rules [] (t.kept.0 k) tt, λ d a. t.kept.1 d (kept_front t.rules [] a))

  pub joins : (form : Form) (stack base : List Frame) (v : Form) (nodes : ℕ) (names : SymbolTable) (o : Operator)
      (t : Lexeme) → class_of t ≡ classes.Operator o
      → reduce (precedence o) form stack ≡ record { form = v; stack = base }
      → transition sig (at_place (AfterOperand form) stack nodes names) t
      ≡ goes (deepening (deepens o) t.at base (within_nodes t.at nodes ∷ []))
      (at_place (now_behind (is_timed o)) (Left o any_distance v ∷ base) (suc nodes) names)
  joins form stack base v nodes names o t class e =
      move_is sig (at_place (AfterOperand form) stack nodes names) t (classes.Operator o) class
      ∙ ap (λ (x : Reduced). joined_move (record { stack = stack; nodes = nodes; names = names }) o x t.at) e

  -- two operands and the operator between them
  pub takes_joined : (p : Partial) (ls rs : List Lexeme) (t : Lexeme) (o : Operator) (i : Interval)
      (base : List Frame) (left edge : ℕ) (v w : Form)
      (nodes more : ℕ) (names others : SymbolTable) (before behind all : Type 0)
      → class_of t ≡ classes.Operator o → precedence o < left → edge ≤ right_precedence o → IsLoose (precedence o) base
      → (all → before) → (all → AreKept (deepening (deepens o) t.at base (within_nodes t.at nodes ∷ [])))
      → (all → behind) → (depth p.context.stack ≤ max_levels
      → AreKept (deepening (deepens o) t.at base (within_nodes t.at nodes ∷ []))
      → depth (Left o any_distance v ∷ base) ≤ max_levels)
      → (AreKept (deepening (deepens o) t.at base (within_nodes t.at nodes ∷ [])) → before → behind → all)
      → Takes sig p ls base left v nodes names before
      → Takes sig (at_place (now_behind (is_timed o)) (Left o any_distance v ∷ base) (suc nodes) names) rs
      (Left o i v ∷ base) edge w more others behind
      → Takes sig p (ls ++ t ∷ rs) base edge (operator_form o i v w) more others all
  takes_joined p ls rs t o i base left edge v w nodes more names others before behind all class apart tight loose b k
      h opens back l r =
      let there : reduce (precedence o) l.form l.stack
      ≡ record { form = v; stack = base } = l.reduces (precedence o) apart
      ∙ reduce_here (precedence o) v base loose in
      let rules : List Rule = deepening (deepens o) t.at base (within_nodes t.at nodes ∷ []) in
      rw (← append_assoc ls (t ∷ []) rs)
      (takes_behind p _ (ls ++ t ∷ []) rs base edge (operator_form o i v w) more others behind all (l.rules ++ rules)
      (moves_both sig ls (t ∷ []) p _ _ l.rules rules l.reached
      (moves_one sig t _ _ rules (joins l.form l.stack base v nodes names o t class there)))
      (λ a. kept_both l.rules rules (l.kept.0 (b a)) (k a)) h
      (λ d a. opens d (kept_back l.rules rules a))
      (λ d a e. back (kept_back l.rules rules a) (l.kept.1 d (kept_front l.rules rules a)) e)
      (takes_closed _ rs (Left o i v) base edge w more others behind tight r))

-- ---- behind a temporal operator an operand is read as anywhere

-- an Integer as a comparison's left side
abbrev pub number_side : ℕ → ℤ → Side
number_side at z = record { at = at; operand = operands.Constant (values.Int z) }

abbrev pub IsHave : Stage → Type 0
IsHave (AfterOperand f) = Unit {0}
IsHave _ = ⊥

pub not_have : {first rules : List Rule} {p q : Partial} → (IsHave p.now → ⊥) → goes first p ≡ goes rules q
    → IsHave q.now → ⊥
not_have never e h = never (subst (λ (x : Partial). IsHave x.now) (sym (same_next e)) h)

first_first : (rule : Rule) (q r : Partial) (m : Option Transition) (f : Partial → Option Transition)
    → behind_move (record { rules = []; next = r }) (then_moves (first_keeps rule m) f)
    ≡ behind_move (record { rules = rule ∷ []; next = q }) (then_moves m f)
first_first rule q r m f = grind arith

module _ (sig : List PredOf) (stack : List Frame) (nodes : ℕ) (names : SymbolTable) where
  behind_nothing : (r0 : Partial) (o : Option Transition) → behind_move (record { rules = []; next = r0 }) o ≡ o
  behind_nothing r0 o = grind arith

  -- behind an Integer behind the `(`
  number_too : (at number_at : ℕ) (z : ℤ) (q0 r0 : Partial) (ts : List Lexeme) (rules : List Rule) (q : Partial)
      → IsHave q.now
      → behind_move (record { rules = within_depth at stack ∷ []; next = q0 })
      (moves sig ts
      (at_place (ExpectSign (number_side number_at z)) (Parens ∷ stack) nodes names)) ≡ goes rules q
      → behind_move (record { rules = []; next = r0 })
      (moves sig ts (at_place (AfterParenNumber at number_at z) stack nodes names)) ≡ goes rules q
  unfolding moves transition
  number_too at number_at z q0 r0 [] rules q have h = absurd (not_have (λ n. n) h have)
  number_too at number_at z q0 r0 (t ∷ ts) rules q have h = grind arith

  -- behind the `(`
  after_open : (at : ℕ) (q0 r0 : Partial) (t : Lexeme) (ts : List Lexeme) (rules : List Rule) (q : Partial)
      (c : Class) → IsHave q.now
      → behind_move (record { rules = within_depth at stack ∷ []; next = q0 })
      (then_moves (operand_move (context_at (Parens ∷ stack) nodes names) t c) (moves sig ts)) ≡ goes rules q
      → behind_move (record { rules = []; next = r0 })
      (then_moves (maybe_move (context_at stack nodes names) at t c) (moves sig ts))
      ≡ goes rules q
  after_open at q0 r0 t ts rules q c have h =
      grind (arith, at_place, behind_move, behind_nothing, moves, number_too, first_first, context_at)

  open_too : (at : ℕ) (q0 r0 : Partial) (ts : List Lexeme) (rules : List Rule) (q : Partial) → IsHave q.now
      → behind_move (record { rules = within_depth at stack ∷ []; next = q0 })
      (moves sig ts (at_place ExpectOperand (Parens ∷ stack) nodes names)) ≡ goes rules q
      → behind_move (record { rules = []; next = r0 })
      (moves sig ts (at_place (AfterParen at) stack nodes names)) ≡ goes rules q
  unfolding moves transition
  open_too at q0 r0 [] rules q have h = absurd (not_have (λ n. n) h have)
  open_too at q0 r0 (t ∷ ts) rules q have h = after_open at q0 r0 t ts rules q (class_of t) have h

  pub fresh_too : (ts : List Lexeme) (rules : List Rule) (q : Partial) → IsHave q.now
      → moves sig ts (at_place ExpectOperand stack nodes names) ≡ goes rules q
      → moves sig ts (at_place AfterTemporal stack nodes names) ≡ goes rules q
  unfolding moves transition
  fresh_too [] rules q have h = absurd (not_have (λ n. n) h have)
  fresh_too (t ∷ ts) rules q have h = grind (arith, no_move, open_too, at_place)

  -- an operand where an interval may stand
  pub takes_fresh : (ts : List Lexeme) (base : List Frame) (edge : ℕ) (v : Form) (more : ℕ) (others : SymbolTable)
      (keeps : Type 0) → Takes sig (at_place ExpectOperand stack nodes names) ts base edge v more others keeps
      → Takes sig (at_place AfterTemporal stack nodes names) ts base edge v more others keeps
  takes_fresh ts base edge v more others keeps t = grind (arith, fresh_too)
