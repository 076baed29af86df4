-- The grammar of policies, over their tokens, apart from the limits and the other rules:
--     formula    := impl { EQUIV impl }                          grouped to the left
--     impl       := disj [ IMPLIES impl ]
--     disj       := conj { OR conj }                             grouped to the left
--     conj       := temp { AND temp }                            grouped to the left
--     temp       := unary [ ( SINCE | UNTIL ) [ interval ] temp ]
--     unary      := NOT unary | temporal [ interval ] unary | primary
--                 | ( EXISTS | FORALL ) variable { "," variable } "." formula
--     primary    := TRUE | FALSE | "(" formula ")" | atom | term sign term
--     atom       := Word "(" [ argument { "," argument } ] ")"
--     argument   := term | "_"
--     term       := variable | Integer | Text
--     variable   := [ "?" ] Word
--     interval   := ( "[" | "(" ) bound "," ( bound ( "]" | ")" ) | "*" ")" )
--     bound      := Integer [ unit ]
-- A quantifier's body reaches as far to the right as it can.
use Rattle.std.specs.Prelude.{◌≡◌, ◌⊎◌, ◌≤◌, ℕ, ℤ, pos, Bool, true, false, List, [], ◌∷◌, ◌++◌, Some}
use Rattle.mfotl_lex.specs.FirstFault as layer
use Rattle.mfotl_lex.specs.Lexemes.{Lexeme}
use Rattle.mfotl_model.specs.declared.term.Sign.{Sign}
use Rattle.mfotl_parse.specs.declared.class.Class.TheVariants as classes
use Rattle.mfotl_parse.specs.declared.class.Operator.{Operator}
use Rattle.mfotl_parse.specs.declared.class.Operator.TheVariants.{And, Or, Implies, Equiv, Since, Until}
use Rattle.mfotl_parse.specs.declared.class.Quantifier.{Quantifier}
use Rattle.mfotl_parse.specs.declared.class.Temporal.{Temporal}
use Rattle.mfotl_parse.specs.Classes.{class_of, unit_of}

-- ---- what is written, with its tokens

-- a variable, perhaps behind `?`
pub data WrittenVariable : Type 0 where
  Bare : (name : Lexeme) → WrittenVariable
  Asked : (mark name : Lexeme) → WrittenVariable

-- a term
pub data WrittenTerm : Type 0 where
  Named : (variable : WrittenVariable) → WrittenTerm
  Number : (token : Lexeme) (value : ℤ) → WrittenTerm
  Quoted : (token : Lexeme) → WrittenTerm

-- an argument: a term, or `_`
pub data WrittenArgument : Type 0 where
  Given : (term : WrittenTerm) → WrittenArgument
  Hidden : (token : Lexeme) → WrittenArgument

-- arguments, with commas between them
pub data WrittenArguments : Type 0 where
  LastArgument : (argument : WrittenArgument) → WrittenArguments
  MoreArguments : (argument : WrittenArgument) (comma : Lexeme) (rest : WrittenArguments) → WrittenArguments

-- a quantifier's variables, with commas between them
pub data WrittenVariables : Type 0 where
  LastVariable : (variable : WrittenVariable) → WrittenVariables
  MoreVariables : (variable : WrittenVariable) (comma : Lexeme) (rest : WrittenVariables) → WrittenVariables

-- a bound, with the seconds of its unit where it has one
pub data WrittenBound : Type 0 where
  Count : (token : Lexeme) (number : ℕ) → WrittenBound
  Counted : (token : Lexeme) (number : ℕ) (unit : Lexeme) (seconds : ℕ) → WrittenBound

-- an interval behind its comma
pub data WrittenEnd : Type 0 where
  Included : (high : WrittenBound) (closing : Lexeme) → WrittenEnd
  Excluded : (high : WrittenBound) (closing : Lexeme) → WrittenEnd
  Unbounded : (star closing : Lexeme) → WrittenEnd

-- an interval, or none
pub data WrittenInterval : Type 0 where
  Omitted : WrittenInterval
  From : (opening : Lexeme) (low : WrittenBound) (comma : Lexeme) (end : WrittenEnd) → WrittenInterval
  Above : (opening : Lexeme) (low : WrittenBound) (comma : Lexeme) (end : WrittenEnd) → WrittenInterval

-- a formula
pub data Tree : Type 0 where
  Truth : (token : Lexeme) (value : Bool) → Tree
  BareAtom : (name opening closing : Lexeme) → Tree
  AtomOf : (name opening : Lexeme) (arguments : WrittenArguments) (closing : Lexeme) → Tree
  Comparison : (left : WrittenTerm) (token : Lexeme) (sign : Sign) (right : WrittenTerm) → Tree
  Enclosed : (opening : Lexeme) (inside : Tree) (closing : Lexeme) → Tree
  Denied : (token : Lexeme) (inside : Tree) → Tree
  Timed : (token : Lexeme) (operator : Temporal) (interval : WrittenInterval) (inside : Tree) → Tree
  Quantified : (token : Lexeme) (quantifier : Quantifier) (variables : WrittenVariables) (dot : Lexeme)
      (inside : Tree) → Tree
  Joined : (left : Tree) (token : Lexeme) (operator : Operator) (interval : WrittenInterval) (right : Tree) → Tree

-- ---- their tokens in order

-- the tokens of a variable
abbrev pub variable_spelling : WrittenVariable → List Lexeme
variable_spelling (Bare name) = name ∷ []
variable_spelling (Asked mark name) = mark ∷ name ∷ []

-- the tokens of a term
abbrev pub term_spelling : WrittenTerm → List Lexeme
term_spelling (Named variable) = variable_spelling variable
term_spelling (Number token value) = token ∷ []
term_spelling (Quoted token) = token ∷ []

-- the tokens of an argument
abbrev pub argument_spelling : WrittenArgument → List Lexeme
argument_spelling (Given term) = term_spelling term
argument_spelling (Hidden token) = token ∷ []

-- the tokens of arguments, with their commas
abbrev pub arguments_spelling : WrittenArguments → List Lexeme
arguments_spelling (LastArgument argument) = argument_spelling argument
arguments_spelling (MoreArguments argument comma rest) = argument_spelling argument ++ comma ∷ arguments_spelling rest

-- the tokens of variables, with their commas
abbrev pub variables_spelling : WrittenVariables → List Lexeme
variables_spelling (LastVariable variable) = variable_spelling variable
variables_spelling (MoreVariables variable comma rest) = variable_spelling variable ++ comma ∷ variables_spelling rest

-- the tokens of a bound
abbrev pub bound_spelling : WrittenBound → List Lexeme
bound_spelling (Count token number) = token ∷ []
bound_spelling (Counted token number unit seconds) = token ∷ unit ∷ []

-- the tokens of an interval's end
abbrev pub end_spelling : WrittenEnd → List Lexeme
end_spelling (Included high closing) = bound_spelling high ++ closing ∷ []
end_spelling (Excluded high closing) = bound_spelling high ++ closing ∷ []
end_spelling (Unbounded star closing) = star ∷ closing ∷ []

-- the tokens of an interval
abbrev pub interval_spelling : WrittenInterval → List Lexeme
interval_spelling Omitted = []
interval_spelling (From opening low comma end) = opening ∷ bound_spelling low ++ comma ∷ end_spelling end
interval_spelling (Above opening low comma end) = opening ∷ bound_spelling low ++ comma ∷ end_spelling end

-- the tokens of a formula
abbrev pub spelling : Tree → List Lexeme
spelling (Truth token value) = token ∷ []
spelling (BareAtom name opening closing) = name ∷ opening ∷ closing ∷ []
spelling (AtomOf name opening arguments closing) = name ∷ opening ∷ arguments_spelling arguments ++ closing ∷ []
spelling (Comparison left token sign right) = term_spelling left ++ token ∷ term_spelling right
spelling (Enclosed opening inside closing) = opening ∷ spelling inside ++ closing ∷ []
spelling (Denied token inside) = token ∷ spelling inside
spelling (Timed token operator interval inside) = token ∷ interval_spelling interval ++ spelling inside
spelling (Quantified token quantifier variables dot inside) =
    token ∷ variables_spelling variables ++ dot ∷ spelling inside
spelling (Joined left token operator interval right) =
    spelling left ++ token ∷ (interval_spelling interval ++ spelling right)

-- ---- which of them the grammar allows

-- a variable is a name, perhaps behind `?`
abbrev pub FitsVariable : WrittenVariable → Type 0
FitsVariable (Bare name) = class_of name ≡ classes.Name
FitsVariable (Asked mark name) = (class_of mark ≡ classes.Question) × (class_of name ≡ classes.Name)

-- a term is a variable, an Integer or a Text
abbrev pub FitsTerm : WrittenTerm → Type 0
FitsTerm (Named variable) = FitsVariable variable
FitsTerm (Number token value) = class_of token ≡ classes.Integer value
FitsTerm (Quoted token) = class_of token ≡ classes.Text

-- an argument is a term or `_`
abbrev pub FitsArgument : WrittenArgument → Type 0
FitsArgument (Given term) = FitsTerm term
FitsArgument (Hidden token) = class_of token ≡ classes.Blank

-- arguments have commas between them
abbrev pub FitsArguments : WrittenArguments → Type 0
FitsArguments (LastArgument argument) = FitsArgument argument
FitsArguments (MoreArguments argument comma rest) =
    FitsArgument argument × (class_of comma ≡ classes.Comma) × FitsArguments rest

-- variables have commas between them
abbrev pub FitsVariables : WrittenVariables → Type 0
FitsVariables (LastVariable variable) = FitsVariable variable
FitsVariables (MoreVariables variable comma rest) =
    FitsVariable variable × (class_of comma ≡ classes.Comma) × FitsVariables rest

-- a bound is an Integer that isn't negative, perhaps with a unit
abbrev pub FitsBound : WrittenBound → Type 0
FitsBound (Count token number) = class_of token ≡ classes.Integer (pos number)
FitsBound (Counted token number unit seconds) =
    (class_of token ≡ classes.Integer (pos number)) × (class_of unit ≡ classes.Name)
    × (unit_of unit.text ≡ Some seconds)

-- an interval ends with `]` or `)`, and with `)` behind `*`
abbrev pub FitsEnd : WrittenEnd → Type 0
FitsEnd (Included high closing) = FitsBound high × (class_of closing ≡ classes.CloseBracket)
FitsEnd (Excluded high closing) = FitsBound high × (class_of closing ≡ classes.CloseParen)
FitsEnd (Unbounded star closing) = (class_of star ≡ classes.Star) × (class_of closing ≡ classes.CloseParen)

-- an interval begins with `[` or `(`
abbrev pub FitsInterval : WrittenInterval → Type 0
FitsInterval Omitted = Unit {0}
FitsInterval (From opening low comma end) =
    (class_of opening ≡ classes.OpenBracket) × FitsBound low × (class_of comma ≡ classes.Comma) × FitsEnd end
FitsInterval (Above opening low comma end) =
    (class_of opening ≡ classes.OpenParen) × FitsBound low × (class_of comma ≡ classes.Comma) × FitsEnd end

-- only SINCE and UNTIL take an interval
abbrev pub FitsOperator : Bool → WrittenInterval → Type 0
FitsOperator true interval = FitsInterval interval
FitsOperator false interval = interval ≡ Omitted

-- an atom's name: a Word that is no keyword, `_` too
abbrev pub IsAtomName : Lexeme → Type 0
IsAtomName t = (class_of t ≡ classes.Name) ⊎ (class_of t ≡ classes.Blank)

-- the rule that an operator makes: 1 EQUIV, 2 IMPLIES, 3 OR, 4 AND, 5 SINCE and UNTIL
abbrev pub precedence : Operator → ℕ
precedence Equiv = 1
precedence Implies = 2
precedence Or = 3
precedence And = 4
precedence Since = 5
precedence Until = 5

-- the rule of an operator's right operand: IMPLIES, SINCE and UNTIL group to the right, the others to the left
abbrev pub right_precedence : Operator → ℕ
right_precedence Equiv = 2
right_precedence Implies = 2
right_precedence Or = 4
right_precedence And = 5
right_precedence Since = 5
right_precedence Until = 5

-- the operators that may have an interval
abbrev pub is_timed : Operator → Bool
is_timed And = false
is_timed Or = false
is_timed Implies = false
is_timed Equiv = false
is_timed Since = true
is_timed Until = true

-- the operators whose right operand is a level of nesting of its own
abbrev pub deepens : Operator → Bool
deepens And = false
deepens Or = false
deepens Implies = true
deepens Equiv = false
deepens Since = true
deepens Until = true

-- the rule of an operator's left operand, by the numbers of the rules
abbrev pub left_precedence : Operator → ℕ
left_precedence Equiv = 1
left_precedence Implies = 3
left_precedence Or = 3
left_precedence And = 4
left_precedence Since = 6
left_precedence Until = 6

-- no quantifier's body reaches to the end: only such a tree stands left of an operator
abbrev pub is_shut : Tree → Bool
is_shut (Truth token value) = true
is_shut (BareAtom name opening closing) = true
is_shut (AtomOf name opening arguments closing) = true
is_shut (Comparison left token sign right) = true
is_shut (Enclosed opening inside closing) = true
is_shut (Denied token inside) = is_shut inside
is_shut (Timed token operator interval inside) = is_shut inside
is_shut (Quantified token quantifier variables dot inside) = false
is_shut (Joined left token operator interval right) = is_shut right

-- a tree of a rule: 1 formula, 2 impl, 3 disj, 4 conj, 5 temp, 6 unary
abbrev pub Fits : ℕ → Tree → Type 0
Fits rule (Truth token value) = class_of token ≡ classes.Truth value
Fits rule (BareAtom name opening closing) =
    IsAtomName name × (class_of opening ≡ classes.OpenParen) × (class_of closing ≡ classes.CloseParen)
Fits rule (AtomOf name opening arguments closing) =
    IsAtomName name × (class_of opening ≡ classes.OpenParen) × FitsArguments arguments
    × (class_of closing ≡ classes.CloseParen)
Fits rule (Comparison left token sign right) = FitsTerm left × (class_of token ≡ classes.Sign sign) × FitsTerm right
Fits rule (Enclosed opening inside closing) =
    (class_of opening ≡ classes.OpenParen) × Fits 1 inside × (class_of closing ≡ classes.CloseParen)
Fits rule (Denied token inside) = (class_of token ≡ classes.Not) × Fits 6 inside
Fits rule (Timed token operator interval inside) =
    (class_of token ≡ classes.Temporal operator) × FitsInterval interval × Fits 6 inside
Fits rule (Quantified token quantifier variables dot inside) =
    (class_of token ≡ classes.Quantifier quantifier) × FitsVariables variables × (class_of dot ≡ classes.Dot)
    × Fits 1 inside
Fits rule (Joined left token operator interval right) =
    (rule ≤ precedence operator) × Fits (left_precedence operator) left × (is_shut left ≡ true)
    × (class_of token ≡ classes.Operator operator)
    × FitsOperator (is_timed operator) interval × Fits (right_precedence operator) right

-- the tokens are those of a formula, the other rules apart
abbrev pub IsFormula : List Lexeme → Type 0
IsFormula ts = (tree : Tree) × Fits 1 tree × (ts ≡ spelling tree)

-- some tokens behind these make them a formula
abbrev pub BeginsFormula : List Lexeme → Type 0
BeginsFormula ts = layer.IsViable IsFormula ts
