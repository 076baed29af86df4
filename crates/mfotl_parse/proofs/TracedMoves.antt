-- What each of some tokens shows, by the reader's moves.
use Rattle.std.proofs.Common.{◌≡◌, ℕ, Bool, true, false, List, [], ◌∷◌, ◌++◌, Option, Some, None, refl, ap, sym, ◌∙◌}
use Rattle.std.proofs.Common.{arith}
use Rattle.mfotl_lex.specs.Lexemes.{Lexeme}
use Rattle.mfotl_sig.specs.Preds.{PredOf}
use Rattle.mfotl_parse.specs.declared.{class.Class.Class, fault.PolicyFault.PolicyFault}
use Rattle.mfotl_parse.specs.declared.{fault.PolicyFault.TheVariants.Syntax}
use Rattle.mfotl_parse.specs.declared.class.Class.TheVariants as classes
use Rattle.mfotl_parse.specs.{Classes.class_of, Operands.operand_move, Operands.fresh_move, Operators.now_behind}
use Rattle.mfotl_parse.specs.{Reading.transition_at, Reading.transition, Shows.Showing, Shows.if_broken}
use Rattle.mfotl_parse.specs.Transitions.{Rule, Transition, goes, fault_of}
use Rattle.mfotl_parse.specs.States.{Frame, SymbolTable, Context, Partial, ExpectOperand, AfterTemporal}
use Rattle.mfotl_parse.proofs.SpelledMoves.{at_place, moves, move_is, moves_one, moves_both, moves_cons, same_next}

-- the faults of the rules that are broken
abbrev pub broken : List Rule → List PolicyFault
broken [] = []
broken (rule ∷ rules) = if_broken rule.broken (fault_of rule.limit rule.at) (broken rules)

abbrev pub traced : ℕ → Option Transition → (Partial → Showing) → Showing
traced at None later = (Syntax at ∷ []) ∷ []
traced at (Some m) later = broken m.rules ∷ later m.next

-- what each token shows, up to the first one that the grammar can't go on with
unfoldable pub trace : List PredOf → List Lexeme → Partial → Showing
trace sig [] p = []
trace sig (t ∷ ts) p = traced t.at (transition sig p t) (trace sig ts)

-- tokens lead from here to there by these rules, and show these faults
pub record Leads (sig : List PredOf) (ts : List Lexeme) (p q : Partial) (rules : List Rule)
    (shown : Showing) : Type 0 where
  pub moved : moves sig ts p ≡ goes rules q
  pub shows : trace sig ts p ≡ shown

module _ (sig : List PredOf) where
  -- one token, and those behind it
  pub trace_move : (t : Lexeme) (ts : List Lexeme) (p q : Partial) (rules : List Rule)
      → transition sig p t ≡ goes rules q → trace sig (t ∷ ts) p ≡ broken rules ∷ trace sig ts q
  unfolding trace
  trace_move t ts p q rules e = ap (λ (m : Option Transition). traced t.at m (trace sig ts)) e

  pub trace_first : (t : Lexeme) (ts : List Lexeme) (c : Class) (p q : Partial) (rules : List Rule)
      → class_of t ≡ c → transition_at p.now sig p.context t c ≡ goes rules q → trace sig (t ∷ ts) p
      ≡ broken rules ∷ trace sig ts q
  trace_first t ts c p q rules class e = trace_move t ts p q rules (move_is sig p t c class ∙ e)

  pub trace_both : (a b : List Lexeme) (p q : Partial) (rules : List Rule)
      → moves sig a p ≡ goes rules q → trace sig (a ++ b) p ≡ trace sig a p ++ trace sig b q
  unfolding trace moves
  trace_both [] b p q rules e = ap (trace sig b) (same_next e)
  trace_both (t ∷ a) b p q rules e =
      let c = moves_cons sig t a p q rules e in
      trace_move t (a ++ b) p c.between c.own c.first
      ∙ ap (λ (x : Showing). broken c.own ∷ x) (trace_both a b c.between q c.later c.rest)
      ∙ ap (λ (x : Showing). x ++ trace sig b q) (sym (trace_move t a p c.between c.own c.first))

  -- an operand that begins with no bracket is read alike where an interval may stand
  fresh_same : (p : Context) (t : Lexeme) (c : Class) → (c ≡ classes.OpenBracket → ⊥) → (c ≡ classes.OpenParen → ⊥)
      → fresh_move p t c ≡ operand_move p t c
  fresh_same p t c square round = grind arith

  pub trace_any : (timed : Bool) (t : Lexeme) (ts : List Lexeme) (c : Class) (stack : List Frame) (nodes : ℕ)
      (names : SymbolTable) → class_of t ≡ c → (c ≡ classes.OpenBracket → ⊥) → (c ≡ classes.OpenParen → ⊥)
      → trace sig (t ∷ ts) (at_place (now_behind timed) stack nodes names)
      ≡ trace sig (t ∷ ts) (at_place ExpectOperand stack nodes names)
  unfolding trace
  trace_any false t ts c stack nodes names class square round = refl
  trace_any true t ts c stack nodes names class square round =
      cc (
        move_is sig (at_place AfterTemporal stack nodes names) t c class,
        move_is sig (at_place ExpectOperand stack nodes names) t c class,
        fresh_same (record { stack = stack; nodes = nodes; names = names }) t c square round,
      )

module _ {sig : List PredOf} where
  pub leads_move : {p q : Partial} {rules : List Rule} (t : Lexeme) → transition sig p t ≡ goes rules q
      → Leads sig (t ∷ []) p q rules (broken rules ∷ [])
  unfolding trace
  leads_move {p = p} {q = q} {rules = rules} t e = search (moves_one, trace_move)

  pub leads_one : {q : Partial} {rules : List Rule} (t : Lexeme) (c : Class) (p : Partial) → class_of t ≡ c
      → transition_at p.now sig p.context t c ≡ goes rules q → Leads sig (t ∷ []) p q rules (broken rules ∷ [])
  leads_one t c p class e = leads_move t (move_is sig p t c class ∙ e)

  -- some tokens, and then others
  pub leads_then : {a : List Lexeme} {p q : Partial} {rules : List Rule} {x : Showing} (b : List Lexeme)
      → Leads sig a p q rules x → trace sig (a ++ b) p ≡ x ++ trace sig b q
  leads_then {a = a} {p = p} {q = q} {rules = rules} b l = cc (trace_both sig a b p q rules l.moved)

  pub leads_both : {a b : List Lexeme} {p q r : Partial} {rules others : List Rule} {x y : Showing}
      → Leads sig a p q rules x → Leads sig b q r others y → Leads sig (a ++ b) p r (rules ++ others) (x ++ y)
  leads_both {a = a} {b = b} {p = p} {q = q} {r = r} {rules = rules} {others = others} {x = x} l k =
      grind (arith, moves_both, leads_then)

  pub leads_none : (p : Partial) → Leads sig [] p p [] []
  unfolding trace moves
  leads_none p = record { moved = refl; shows = refl }
