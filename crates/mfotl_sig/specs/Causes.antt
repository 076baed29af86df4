-- What shows each fault, in the grammar's own words.
use Rattle.std.specs.Prelude.{◌≡◌, ◌≤◌, ◌⊎◌, ℕ, List, [], ◌∷◌, length, None, Contains}
use Rattle.std.specs.List.{AllByRecursion}
use Rattle.mfotl_lex.specs.declared.fault.LexFault.{LexFault}
use Rattle.mfotl_lex.specs.declared.kind.Kind.TheVariants.{Word, OpenParen, CloseParen, Comma, Colon}
use Rattle.mfotl_lex.specs.FirstFault.{Tail, Broken, EndsViability, EndsTooEarly}
use Rattle.mfotl_lex.specs.Lexemes.{Lexeme}
use Rattle.mfotl_sig.specs.declared.fault.SigFault.{SigFault}
use Rattle.mfotl_sig.specs.declared.fault.SigFault.TheVariants.{Lex, Syntax, RepeatedName, UnknownSort, Arity, TooMany}
use Rattle.mfotl_sig.specs.Grammar.{Listed, WrittenPredicate, Fits, FitsListed, spell_begun, spell_preds, Spells}
use Rattle.mfotl_sig.specs.Grammar.{IsAccepted}
use Rattle.mfotl_sig.specs.Grammar.{IsViable}
use Rattle.mfotl_sig.specs.Limits.{max_predicates, max_arguments}
use Rattle.mfotl_sig.specs.Rules.{sort_of, names_of}

-- behind whole predicates, a name, a bracket and arguments with their commas stand these tokens
pub record Begun (front rest : List Lexeme) : Type 0 where
  pub whole : List WrittenPredicate
  pub name : Lexeme
  pub opening : Lexeme
  pub listed : List Listed
  pub parts : front ≡ spell_preds whole (spell_begun name opening listed rest)
  pub fits : AllByRecursion Fits whole
  pub named : name.kind ≡ Word
  pub opens : opening.kind ≡ OpenParen
  pub arguments : AllByRecursion FitsListed listed

-- the name of a predicate that stands further up
pub record IsRepeated (front : List Lexeme) (t : Lexeme) (at : ℕ) : Type 0 where
  pub preds : List WrittenPredicate
  pub spelled : Spells front preds
  pub kind : t.kind ≡ Word
  pub among : Contains (names_of preds) t.text
  pub place : at ≡ t.at

-- a new name behind as many predicates as there may be
pub record IsOneTooMany (front : List Lexeme) (t : Lexeme) (at : ℕ) : Type 0 where
  pub preds : List WrittenPredicate
  pub spelled : Spells front preds
  pub kind : t.kind ≡ Word
  pub new : Contains (names_of preds) t.text → ⊥
  pub many : max_predicates ≤ length preds
  pub place : at ≡ t.at

-- the first token of the ninth argument
pub record IsNinth (front : List Lexeme) (t : Lexeme) (at : ℕ) : Type 0 where
  pub begun : Begun front []
  pub many : length begun.listed ≡ max_arguments
  pub kind : t.kind ≡ Word
  pub place : at ≡ t.at

-- the Word behind a label names no sort
pub record IsUnknownLabelled (front : List Lexeme) (t : Lexeme) (at : ℕ) : Type 0 where
  pub label : Lexeme
  pub colon : Lexeme
  pub begun : Begun front (label ∷ colon ∷ [])
  pub labels : label.kind ≡ Word
  pub divides : colon.kind ≡ Colon
  pub kind : t.kind ≡ Word
  pub unknown : sort_of t.text ≡ None
  pub place : at ≡ t.at

-- an only Word names no sort, and the token behind it shows that it is no label
pub record IsUnknownOnly (front : List Lexeme) (t : Lexeme) (at : ℕ) : Type 0 where
  pub word : Lexeme
  pub begun : Begun front (word ∷ [])
  pub kind : word.kind ≡ Word
  pub unknown : sort_of word.text ≡ None
  pub ends : (t.kind ≡ Comma) ⊎ (t.kind ≡ CloseParen)
  pub place : at ≡ word.at

-- the token shows the fault, behind the front
abbrev pub IsCause : List Lexeme → Lexeme → SigFault → Type 0
IsCause front t (Syntax at) = EndsViability IsViable (λ t. t.at) front t at
IsCause front t (RepeatedName at) = IsRepeated front t at
IsCause front t (UnknownSort at) = IsUnknownLabelled front t at ⊎ IsUnknownOnly front t at
IsCause front t (Arity at) = IsNinth front t at
IsCause front t (TooMany at) = IsOneTooMany front t at
IsCause front t _ = ⊥

-- what stands behind all tokens shows the fault
abbrev pub IsLast : List Lexeme → Tail LexFault → SigFault → Type 0
IsLast ts tail (Lex fault) = tail ≡ Broken fault
IsLast ts tail (Syntax at) = EndsTooEarly IsAccepted ts tail at
IsLast ts tail _ = ⊥
