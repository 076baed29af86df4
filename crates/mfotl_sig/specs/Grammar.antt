-- The grammar of a signature, by the tokens that each part of it spells in front of a rest:
--     signature := { predicate }
--     predicate := Word "(" [ { argument "," } argument ] ")"
--     argument  := Word | Word ":" Word
use Rattle.std.specs.Prelude.{◌≡◌, List, [], ◌∷◌, Option, Some, None}
use Rattle.std.specs.List.{AllByRecursion}
use Rattle.mfotl_lex.specs.declared.kind.Kind.TheVariants.{Word, OpenParen, CloseParen, Comma, Colon}
use Rattle.mfotl_lex.specs.FirstFault as layer
use Rattle.mfotl_lex.specs.Lexemes.{Lexeme}

-- an argument: the Word of its sort alone, or behind a label and a `:`
pub data Argument : Type 0 where
  Only : Lexeme → Argument
  Labelled : Lexeme → Lexeme → Lexeme → Argument

-- an argument with the comma behind it
pub record Listed : Type 0 where
  pub argument : Argument
  pub comma : Lexeme

-- a predicate: its arguments are those with a comma behind them, and the last one, if there is any
pub record WrittenPredicate : Type 0 where
  pub name : Lexeme
  pub opening : Lexeme
  pub listed : List Listed
  pub last : Option Argument
  pub closing : Lexeme

-- the tokens are of the kinds that the grammar asks for
abbrev pub FitsArgument : Argument → Type 0
FitsArgument (Only word) = word.kind ≡ Word
FitsArgument (Labelled label colon word) = (label.kind ≡ Word) × (colon.kind ≡ Colon) × (word.kind ≡ Word)

-- also the comma's
abbrev pub FitsListed : Listed → Type 0
FitsListed l = FitsArgument l.argument × (l.comma.kind ≡ Comma)

-- no argument may lack behind a comma
abbrev pub FitsLast : List Listed → Option Argument → Type 0
FitsLast listed None = listed ≡ []
FitsLast listed (Some argument) = FitsArgument argument

-- and a predicate's
pub record Fits (pred : WrittenPredicate) : Type 0 where
  pub named : pred.name.kind ≡ Word
  pub opens : pred.opening.kind ≡ OpenParen
  pub listed : AllByRecursion FitsListed pred.listed
  pub last : FitsLast pred.listed pred.last
  pub closes : pred.closing.kind ≡ CloseParen

-- an argument's tokens, in front of the rest
abbrev pub spell_argument : Argument → List Lexeme → List Lexeme
spell_argument (Only word) rest = word ∷ rest
spell_argument (Labelled label colon word) rest = label ∷ colon ∷ word ∷ rest

-- arguments, each with its comma
abbrev pub spell_listed : List Listed → List Lexeme → List Lexeme
spell_listed [] rest = rest
spell_listed (l ∷ listed) rest = spell_argument l.argument (l.comma ∷ spell_listed listed rest)

-- the last argument, if there is any
abbrev pub spell_last : Option Argument → List Lexeme → List Lexeme
spell_last None rest = rest
spell_last (Some argument) rest = spell_argument argument rest

-- a name, its bracket, and arguments that have a comma behind them
abbrev pub spell_begun : Lexeme → Lexeme → List Listed → List Lexeme → List Lexeme
spell_begun name opening listed rest = name ∷ opening ∷ spell_listed listed rest

-- a predicate from its name to its closing bracket
abbrev pub spell_pred : WrittenPredicate → List Lexeme → List Lexeme
spell_pred p rest = spell_begun p.name p.opening p.listed (spell_last p.last (p.closing ∷ rest))

-- predicates, one behind the other
abbrev pub spell_preds : List WrittenPredicate → List Lexeme → List Lexeme
spell_preds [] rest = rest
spell_preds (p ∷ preds) rest = spell_pred p (spell_preds preds rest)

-- the tokens are these predicates
pub record Spells (ts : List Lexeme) (preds : List WrittenPredicate) : Type 0 where
  pub fits : AllByRecursion Fits preds
  pub spelled : ts ≡ spell_preds preds []

-- the grammar accepts the tokens, the other rules apart
abbrev pub IsAccepted : List Lexeme → Type 0
IsAccepted ts = (preds : List WrittenPredicate) × Spells ts preds

-- the tokens can go on to some that the grammar accepts
abbrev pub IsViable : List Lexeme → Type 0
IsViable ts = layer.IsViable IsAccepted ts
