-- What shows each fault, in the grammar's own words.
use Rattle.std.specs.Prelude.{◌≡◌, ℕ, List, ◌∷◌, ◌++◌, length, Option, Some, None, slice_get}
use Rattle.std.specs.Option.{option_map}
use Rattle.mfotl_lex.specs.declared.fault.LexFault.{LexFault}
use Rattle.mfotl_lex.specs.FirstFault.{Tail, Broken, End, EndsViability, EndsTooEarly}
use Rattle.mfotl_lex.specs.Lexemes.{Lexeme}
use Rattle.mfotl_sig.specs.Preds.{PredOf}
use Rattle.mfotl_parse.specs.declared.fault.PolicyFault.{PolicyFault}
use Rattle.mfotl_parse.specs.declared.fault.PolicyFault.TheVariants.{Lex, Syntax, EmptyInterval, BoundRange}
use Rattle.mfotl_parse.specs.declared.fault.PolicyFault.TheVariants.{UnknownPredicate, WrongArity, SortClash}
use Rattle.mfotl_parse.specs.declared.fault.PolicyFault.TheVariants.{TooManyVariables, TooDeep, TooManyNodes}
use Rattle.mfotl_parse.specs.Grammar.{Tree, Fits, spelling, IsFormula, BeginsFormula}
use Rattle.mfotl_parse.specs.Limits.{max_free}
use Rattle.mfotl_parse.specs.Mentions.{sort_clash}
use Rattle.mfotl_parse.specs.Occurrences.{free_variables}
use Rattle.mfotl_parse.specs.Shows.{shown_by}

-- in a formula that begins with the front and the token, the token shows the fault in front of others
pub record ShowsFault (sig : List PredOf) (front : List Lexeme) (token : Lexeme) (fault : PolicyFault) : Type 0 where
  pub tree : Tree
  pub fits : Fits 1 tree
  pub more : List Lexeme
  pub spelled : spelling tree ≡ front ++ token ∷ more
  pub others : List PolicyFault
  pub shown : slice_get (shown_by sig tree) (length front) ≡ Some (fault ∷ others)

-- the token shows the fault, behind the front
abbrev pub IsCause : List PredOf → List Lexeme → Lexeme → PolicyFault → Type 0
IsCause sig front t (Syntax at) = EndsViability BeginsFormula (λ token. token.at) front t at
IsCause sig front t (EmptyInterval at) = ShowsFault sig front t (EmptyInterval at)
IsCause sig front t (BoundRange at) = ShowsFault sig front t (BoundRange at)
IsCause sig front t (UnknownPredicate at) = ShowsFault sig front t (UnknownPredicate at)
IsCause sig front t (WrongArity at) = ShowsFault sig front t (WrongArity at)
IsCause sig front t (TooDeep at) = ShowsFault sig front t (TooDeep at)
IsCause sig front t (TooManyNodes at) = ShowsFault sig front t (TooManyNodes at)
IsCause sig front t _ = ⊥

-- the tokens are this formula, and the text ends behind them
pub record IsWholeFormula (ts : List Lexeme) (tail : Tail LexFault) (tree : Tree) : Type 0 where
  pub end : ℕ
  pub ended : tail ≡ End end
  pub fits : Fits 1 tree
  pub spelled : ts ≡ spelling tree

-- where its ninth free variable stands first
abbrev pub ninth_variable : Tree → Option ℕ
ninth_variable tree = option_map (λ one. one.1) (slice_get (free_variables tree) max_free)

-- sorts clash in a whole formula
pub record SortsClash (sig : List PredOf) (ts : List Lexeme) (tail : Tail LexFault) (at : ℕ) : Type 0 where
  pub tree : Tree
  pub whole : IsWholeFormula ts tail tree
  pub clash : sort_clash sig tree ≡ Some at

-- a whole formula in which no sorts clash has a ninth free variable
pub record HasNinthVariable (sig : List PredOf) (ts : List Lexeme) (tail : Tail LexFault) (at : ℕ) : Type 0 where
  pub tree : Tree
  pub whole : IsWholeFormula ts tail tree
  pub even : sort_clash sig tree ≡ None
  pub ninth : ninth_variable tree ≡ Some at

-- what stands behind all tokens shows the fault
abbrev pub IsLast : List PredOf → List Lexeme → Tail LexFault → PolicyFault → Type 0
IsLast sig ts tail (Lex fault) = tail ≡ Broken fault
IsLast sig ts tail (Syntax at) = EndsTooEarly IsFormula ts tail at
IsLast sig ts tail (SortClash at) = SortsClash sig ts tail at
IsLast sig ts tail (TooManyVariables at) = HasNinthVariable sig ts tail at
IsLast sig ts tail _ = ⊥
