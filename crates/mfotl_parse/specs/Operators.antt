-- What stands behind an operand.
use Rattle.std.specs.Prelude.{ℕ, Bool, true, false, List, [], ◌∷◌, Option, Some, None, if◌then◌else◌}
use Rattle.mfotl_lex.specs.Lexemes.{Lexeme}
use Rattle.mfotl_model.specs.Formulas.{Form}
use Rattle.mfotl_parse.specs.declared.class.Class.{Class}
use Rattle.mfotl_parse.specs.declared.class.Class.TheVariants as classes
use Rattle.mfotl_parse.specs.declared.class.Operator.{Operator}
use Rattle.mfotl_parse.specs.Intervals.{any_distance}
use Rattle.mfotl_parse.specs.Transitions.{Rule, Transition, goes, within_depth, within_nodes}
use Rattle.mfotl_parse.specs.Reduction.{Reduced, reduce}
use Rattle.mfotl_parse.specs.States.{Stage, Frame, Parens, Negation, Moment, Binding, Left, Context, with_now}
use Rattle.mfotl_parse.specs.States.{with_stack, counted, ExpectOperand, AfterTemporal, AfterOperand}
use Rattle.mfotl_parse.specs.Grammar.{is_timed, precedence, deepens}

-- the rules of an operator between operands: only some are levels
abbrev pub deepening : Bool → ℕ → List Frame → List Rule → List Rule
deepening true at stack rules = within_depth at stack ∷ rules
deepening false at stack rules = rules

-- what may come behind an operator
abbrev pub now_behind : Bool → Stage
now_behind true = AfterTemporal
now_behind false = ExpectOperand

-- an operator behind its left operand
abbrev pub joined_move : Context → Operator → Reduced → ℕ → Option Transition
joined_move p operator left at =
    goes (deepening (deepens operator) at left.stack (within_nodes at p.nodes ∷ []))
    (with_now (counted (with_stack p (Left operator any_distance left.form ∷ left.stack)))
    (now_behind (is_timed operator)))

-- the `(` of a formula
abbrev pub is_parens : Frame → Bool
is_parens Parens = true
is_parens Negation = false
is_parens (Moment operator interval) = false
is_parens (Binding quantifier variable name) = false
is_parens (Left operator interval left) = false

-- the frames around the innermost one, where that is a `(`
abbrev pub around : List Frame → Option (List Frame)
around [] = None
around (frame ∷ stack) = if is_parens frame then Some stack else None

-- a `)` behind an operand
abbrev pub enclosed_move : Context → Form → Option (List Frame) → Option Transition
enclosed_move p f None = None
enclosed_move p f (Some stack) = goes [] (with_now (with_stack p stack) (AfterOperand f))

-- behind an operand
abbrev pub have_move : Context → Form → Lexeme → Class → Option Transition
have_move p f t (classes.Operator operator) = joined_move p operator (reduce (precedence operator) f p.stack) t.at
have_move p f t classes.CloseParen =
    enclosed_move p (reduce 0 f p.stack).form (around (reduce 0 f p.stack).stack)
have_move p f t _ = None
