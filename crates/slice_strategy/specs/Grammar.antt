-- The grammar of a strategy, from left to right: each part of it is spelled behind a front of tokens.
--     strategy := | strategy entry
--     entry    := Word "=" Word ":" integers
--     integers := Integer | integers "," Integer
-- The second Word of an entry is `hash`, behind which stands one integer, or `cut`.
use Rattle.std.specs.Prelude.{◌≡◌, List, [], ◌∷◌, ◌++◌, ℕ, Option, Some, None, if◌then◌else◌, codes}
use Rattle.std.specs.Str.{bytes_eq}
use Rattle.mfotl_lex.specs.declared.kind.Kind.TheVariants.{Word, Integer, Comma, Colon, Equal}
use Rattle.mfotl_lex.specs.FirstFault as layer
use Rattle.mfotl_lex.specs.Lexemes.{Lexeme}
use Rattle.slice_strategy.specs.declared.stage.Method.{Method}
use Rattle.slice_strategy.specs.declared.stage.Method.TheVariants.{Hash, Cut}

-- integers, with commas between them
pub data Integers : Type 0 where
  First : Lexeme → Integers
  Next : Integers → Lexeme → Lexeme → Integers

-- an entry up to its `:`
pub record Opening : Type 0 where
  pub name : Lexeme
  pub equal : Lexeme
  pub word : Lexeme
  pub method : Method
  pub colon : Lexeme

-- whole entries, one behind the other
pub data Entries : Type 0 where
  NoEntry : Entries
  Then : Entries → Opening → Integers → Entries

-- the method that a Word names
abbrev pub method_of : List ℕ → Option Method
method_of word =
    if bytes_eq word (codes "hash") then Some Hash
    else if bytes_eq word (codes "cut") then Some Cut
    else None

-- the tokens are of the kinds that the grammar asks for
abbrev pub FitsOpening : Opening → Type 0
FitsOpening o =
    (o.name.kind ≡ Word) × (o.equal.kind ≡ Equal) × (o.word.kind ≡ Word) × (method_of o.word.text ≡ Some o.method)
    × (o.colon.kind ≡ Colon)

-- also the integers', of which a hash has one
abbrev pub FitsIntegers : Method → Integers → Type 0
FitsIntegers m (First t) = t.kind ≡ Integer
FitsIntegers Hash (Next more comma t) = ⊥
FitsIntegers Cut (Next more comma t) = FitsIntegers Cut more × (comma.kind ≡ Comma) × (t.kind ≡ Integer)

-- and those of all entries
abbrev pub Fits : Entries → Type 0
Fits NoEntry = Unit {0}
Fits (Then es o is) = Fits es × FitsOpening o × FitsIntegers o.method is

-- the front, an entry's name, its `=`, its method and its `:`
abbrev pub spell_opening : List Lexeme → Opening → List Lexeme
spell_opening front o = (((front ++ o.name ∷ []) ++ o.equal ∷ []) ++ o.word ∷ []) ++ o.colon ∷ []

-- the front and integers with their commas
abbrev pub spell_integers : List Lexeme → Integers → List Lexeme
spell_integers front (First t) = front ++ t ∷ []
spell_integers front (Next is comma t) = (spell_integers front is ++ comma ∷ []) ++ t ∷ []

-- the front and whole entries
abbrev pub spell : List Lexeme → Entries → List Lexeme
spell front NoEntry = front
spell front (Then es o is) = spell_integers (spell_opening (spell front es) o) is

-- whole entries, and perhaps a part of one more, up to its name, its `=`, its method, its `:` or a comma
pub data Part : Type 0 where
  Whole : Entries → Part
  ToName : Entries → Lexeme → Part
  ToEqual : Entries → Lexeme → Lexeme → Part
  ToMethod : Entries → Lexeme → Lexeme → Lexeme → Method → Part
  ToColon : Entries → Opening → Part
  ToComma : Entries → Opening → Integers → Lexeme → Part

-- its tokens are of the kinds that the grammar asks for
abbrev pub FitsPart : Part → Type 0
FitsPart (Whole es) = Fits es
FitsPart (ToName es n) = Fits es × (n.kind ≡ Word)
FitsPart (ToEqual es n e) = Fits es × (n.kind ≡ Word) × (e.kind ≡ Equal)
FitsPart (ToMethod es n e w m) =
    Fits es × (n.kind ≡ Word) × (e.kind ≡ Equal) × (w.kind ≡ Word) × (method_of w.text ≡ Some m)
FitsPart (ToColon es o) = Fits es × FitsOpening o
FitsPart (ToComma es o is comma) =
    Fits es × FitsOpening o × (o.method ≡ Cut) × FitsIntegers o.method is × (comma.kind ≡ Comma)

-- its tokens
abbrev pub spell_part : Part → List Lexeme
spell_part (Whole es) = spell [] es
spell_part (ToName es n) = spell [] es ++ n ∷ []
spell_part (ToEqual es n e) = (spell [] es ++ n ∷ []) ++ e ∷ []
spell_part (ToMethod es n e w m) = ((spell [] es ++ n ∷ []) ++ e ∷ []) ++ w ∷ []
spell_part (ToColon es o) = spell_opening (spell [] es) o
spell_part (ToComma es o is comma) = spell_integers (spell_opening (spell [] es) o) is ++ comma ∷ []

-- the tokens are a part of this form
pub record IsPart (ts : List Lexeme) (p : Part) : Type 0 where
  pub fits : FitsPart p
  pub spelled : ts ≡ spell_part p

-- the tokens are these entries
abbrev pub Spells : List Lexeme → Entries → Type 0
Spells ts es = IsPart ts (Whole es)

-- the grammar accepts the tokens, the other rules apart
abbrev pub IsAccepted : List Lexeme → Type 0
IsAccepted ts = (es : Entries) × Spells ts es

-- the tokens can go on to some that the grammar accepts
abbrev pub IsViable : List Lexeme → Type 0
IsViable ts = layer.IsViable IsAccepted ts
