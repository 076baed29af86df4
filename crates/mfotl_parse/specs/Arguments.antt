-- An atom's arguments. Each `_` is a variable of its own, bound by EXISTS around the atom.
use Rattle.std.specs.Prelude.{ℕ, zero, suc, ◌+◌, ◌-◌, List, [], ◌∷◌, ◌++◌, Option, Some, None, is_none, length}
use Rattle.std.specs.Prelude.{codes}
use Rattle.mfotl_lex.specs.Lexemes.{Lexeme}
use Rattle.mfotl_lex.specs.Contents.{content_of}
use Rattle.mfotl_model.specs.declared.term.Term.{Term}
use Rattle.mfotl_model.specs.declared.term.Term.TheVariants as terms
use Rattle.mfotl_model.specs.declared.value.Value.TheVariants as values
use Rattle.mfotl_model.specs.Formulas as forms
use Rattle.mfotl_model.specs.Formulas.{Form}
use Rattle.mfotl_sig.specs.Preds.{PredOf, named}
use Rattle.mfotl_parse.specs.declared.class.Class.{Class}
use Rattle.mfotl_parse.specs.declared.class.Class.TheVariants as classes
use Rattle.mfotl_parse.specs.declared.term.Operand.{Operand}
use Rattle.mfotl_parse.specs.declared.term.Operand.TheVariants as operands
use Rattle.mfotl_parse.specs.Transitions.{Unknown, Rule, Transition, goes, within_nodes, one_due, none_due}
use Rattle.mfotl_parse.specs.SortsDue.{due_sort, after_due}
use Rattle.mfotl_parse.specs.SymbolTable.{resolved, noted, bound_more, constrain_term, term_of}
use Rattle.mfotl_parse.specs.States.{Call, Context, Partial, with_now, with_names, counted, AfterOperand}
use Rattle.mfotl_parse.specs.States.{FirstArgument, NextArgument, AfterArgument, AfterArgumentMark}
use Rattle.mfotl_parse.specs.Limits.{max_free}

-- an atom's `(` behind its name; a name that the signature lacks goes on without arguments
abbrev pub call_of : Option PredOf → ℕ → Call
call_of None bound = record { pred = 0; rest = []; args = []; bound = bound }
call_of (Some pred) bound = record { pred = pred.number; rest = pred.sorts; args = []; bound = bound }

-- the signature has the predicate, whose name stands at the offset
abbrev pub known : ℕ → Option PredOf → Rule
known at found = record { broken = is_none found; limit = Unknown; at = at }

-- an atom's `(` behind its name, which stands at the offset
abbrev pub called : List PredOf → Context → ℕ → List ℕ → Option Transition
called sig p at name =
    let found = named name sig in
    goes (known at found ∷ within_nodes at p.nodes ∷ [])
    (with_now (counted p) (FirstArgument (call_of found (length p.names.bound_sorts))))

-- an argument more
abbrev pub with_argument : Call → Term → Call
with_argument call term =
    record { pred = call.pred; rest = after_due call.rest; args = call.args ++ term ∷ []; bound = call.bound }

-- behind a term that stands at the offset
abbrev pub term_taken : Context → Call → ℕ → Operand → Partial
term_taken p call at operand =
    with_now (with_names p (constrain_term operand at (due_sort call.rest) p.names))
    (AfterArgument (with_argument call (term_of operand)))

-- behind a variable's name; the variable stands at the offset
abbrev pub variable_taken : Context → Call → ℕ → List ℕ → Partial
variable_taken p call at name =
    term_taken (with_names p (noted name at p.stack p.names)) call at
    (operands.Variable (resolved name p.stack p.names))

-- behind a `_`
abbrev pub blank_taken : Context → Call → Partial
blank_taken p call =
    with_now (with_names (counted p) (bound_more (Some (due_sort call.rest)) p.names))
    (AfterArgument (with_argument call (terms.Var (max_free + length p.names.bound_sorts))))

-- where an argument is due
abbrev pub argument_move : Context → Call → Lexeme → Class → Option Transition
argument_move p call t classes.Name = goes (one_due t.at call.rest ∷ []) (variable_taken p call t.at t.text)
argument_move p call t classes.Question = goes (one_due t.at call.rest ∷ []) (with_now p (AfterArgumentMark call t.at))
argument_move p call t (classes.Integer z) =
    goes (one_due t.at call.rest ∷ []) (term_taken p call t.at (operands.Constant (values.Int z)))
argument_move p call t classes.Text =
    goes (one_due t.at call.rest ∷ [])
    (term_taken p call t.at (operands.Constant (values.Text (content_of t.kind t.text))))
argument_move p call t classes.Blank =
    goes (one_due t.at call.rest ∷ within_nodes t.at p.nodes ∷ []) (blank_taken p call)
argument_move p call t _ = None

-- EXISTS for the variable of a `_`, by its place among all that are bound
abbrev pub blank : ℕ → Form → Form
blank place f = forms.Exists (record { number = max_free + place; name = codes "_" }) f

-- EXISTS for `count` variables, the one numbered `first` outermost
abbrev pub blanks : ℕ → ℕ → Form → Form
blanks zero first f = f
blanks (suc count) first f = blank first (blanks count (suc first) f)

-- the atom of a call, with EXISTS for each `_` in it
abbrev pub atom_of : Call → ℕ → Form
atom_of call bound =
    blanks (bound - call.bound) call.bound (forms.Atom (record { pred = call.pred; args = call.args }))

-- behind the `)`
abbrev pub call_closed : Context → Call → ℕ → Option Transition
call_closed p call at =
    goes (none_due at call.rest ∷ []) (with_now p (AfterOperand (atom_of call (length p.names.bound_sorts))))

-- behind an atom's `(`
abbrev pub first_move : Context → Call → Lexeme → Class → Option Transition
first_move p call t classes.CloseParen = call_closed p call t.at
first_move p call t class = argument_move p call t class

-- behind an argument
abbrev pub taken_move : Context → Call → Lexeme → Class → Option Transition
taken_move p call t classes.Comma = goes [] (with_now p (NextArgument call))
taken_move p call t classes.CloseParen = call_closed p call t.at
taken_move p call t _ = None

-- behind an argument's `?`, which stands at the offset
abbrev pub argument_marked_move : Context → Call → ℕ → Lexeme → Class → Option Transition
argument_marked_move p call mark t classes.Name = goes [] (variable_taken p call mark t.text)
argument_marked_move p call mark t _ = None
