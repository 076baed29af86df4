-- The grammar of a log, by the symbols that each part of it spells in front of a rest:
--     log   := { point }
--     point := "@" Word { Word group { group } } [ ";" ]
--     group := "(" [ value { "," value } ] ")"
-- where a value is a Word or a Text, and the Word behind "@" is digits.
use Rattle.std.specs.Prelude.{◌≡◌, ℕ, List, [], ◌∷◌, ◌++◌, Bool, true, map, if◌then◌else◌}
use Rattle.std.specs.List.{AllByRecursion}
use Rattle.mfotl_lex.specs.Lexemes.{Lexeme}
use Rattle.log_reader.specs.Symbols.{Symbol, AtSign, Opening, Closing, Separator, Terminator, Says, Written, Bare}
use Rattle.log_reader.specs.Symbols.{is_digits, symbol}

-- a predicate's name with its groups, one at least
pub record Mention : Type 0 where
  pub name : List ℕ
  pub first : List Written
  pub more : List (List Written)

-- a time-point as it is written, and whether a `;` closes it
pub record PointText : Type 0 where
  pub stamp : List ℕ
  pub mentions : List Mention
  pub is_closed : Bool

-- values, each behind a comma
abbrev pub spell_more : List Written → List Symbol → List Symbol
spell_more [] rest = rest
spell_more (value ∷ values) rest = Separator ∷ Says value ∷ spell_more values rest

-- values with commas between them
abbrev pub spell_values : List Written → List Symbol → List Symbol
spell_values [] rest = rest
spell_values (value ∷ values) rest = Says value ∷ spell_more values rest

-- values in brackets
abbrev pub spell_group : List Written → List Symbol → List Symbol
spell_group values rest = Opening ∷ spell_values values (Closing ∷ rest)

-- group behind group
abbrev pub spell_groups : List (List Written) → List Symbol → List Symbol
spell_groups [] rest = rest
spell_groups (group ∷ groups) rest = spell_group group (spell_groups groups rest)

-- a name with its groups behind another
abbrev pub spell_mentions : List Mention → List Symbol → List Symbol
spell_mentions [] rest = rest
spell_mentions (m ∷ mentions) rest =
    Says (Bare m.name) ∷ spell_group m.first (spell_groups m.more (spell_mentions mentions rest))

-- a `;`, if there is one
abbrev pub spell_end : Bool → List Symbol → List Symbol
spell_end is_closed rest = if is_closed then Terminator ∷ rest else rest

-- an `@`, the timestamp, the predicates and the end
abbrev pub spell_point : PointText → List Symbol → List Symbol
spell_point p rest = AtSign ∷ Says (Bare p.stamp) ∷ spell_mentions p.mentions (spell_end p.is_closed rest)

-- time-point behind time-point
abbrev pub spell_log : List PointText → List Symbol
spell_log [] = []
spell_log (p ∷ points) = spell_point p (spell_log points)

-- the timestamp is digits
abbrev pub HasStamp : PointText → Type 0
HasStamp p = is_digits p.stamp ≡ true

-- the symbols are those of this log
pub record Spells (symbols : List Symbol) (log : List PointText) : Type 0 where
  pub spelled : symbols ≡ spell_log log
  pub stamps : AllByRecursion HasStamp log

-- what the grammar sees of tokens
abbrev pub symbols_of : List Lexeme → List Symbol
symbols_of ts = map symbol ts

-- the grammar accepts the tokens, the other rules apart
abbrev pub IsAccepted : List Lexeme → Type 0
IsAccepted ts = (log : List PointText) × Spells (symbols_of ts) log

-- tokens can follow with which the grammar accepts them all
abbrev pub IsViable : List Lexeme → Type 0
IsViable ts = (more : List Symbol) × (log : List PointText) × Spells (symbols_of ts ++ more) log
