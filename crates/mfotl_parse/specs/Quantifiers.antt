-- A quantifier's variables.
use Rattle.std.specs.Prelude.{ℕ, List, [], ◌∷◌, Option, None, length}
use Rattle.mfotl_lex.specs.Lexemes.{Lexeme}
use Rattle.mfotl_parse.specs.declared.class.Class.{Class}
use Rattle.mfotl_parse.specs.declared.class.Class.TheVariants as classes
use Rattle.mfotl_parse.specs.declared.class.Quantifier.{Quantifier}
use Rattle.mfotl_parse.specs.Transitions.{Transition, goes, within_depth, within_nodes}
use Rattle.mfotl_parse.specs.SymbolTable.{bound_more}
use Rattle.mfotl_parse.specs.States.{Binding, Context, Partial, with_now, with_names, counted, pushed, ExpectOperand}
use Rattle.mfotl_parse.specs.States.{ExpectVariable, AfterVariableMark, AfterVariable}

-- behind a quantified variable
abbrev pub bound_now : Context → Quantifier → List ℕ → Partial
bound_now p quantifier name =
    with_now (pushed (Binding quantifier (length p.names.bound_sorts) name) (with_names p (bound_more None p.names)))
    (AfterVariable quantifier)

-- where a quantified variable is due
abbrev pub binder_move : Context → Quantifier → Lexeme → Class → Option Transition
binder_move p quantifier t classes.Name =
    goes (within_depth t.at p.stack ∷ within_nodes t.at p.nodes ∷ []) (bound_now (counted p) quantifier t.text)
binder_move p quantifier t classes.Question =
    goes (within_depth t.at p.stack ∷ within_nodes t.at p.nodes ∷ [])
    (with_now (counted p) (AfterVariableMark quantifier t.at))
binder_move p quantifier t _ = None

-- behind `?` there
abbrev pub binder_marked_move : Context → Quantifier → Lexeme → Class → Option Transition
binder_marked_move p quantifier t classes.Name = goes [] (bound_now p quantifier t.text)
binder_marked_move p quantifier t _ = None

-- behind a quantified variable
abbrev pub bound_move : Context → Quantifier → Class → Option Transition
bound_move p quantifier classes.Comma = goes [] (with_now p (ExpectVariable quantifier))
bound_move p quantifier classes.Dot = goes [] (with_now p ExpectOperand)
bound_move p quantifier _ = None
