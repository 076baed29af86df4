-- What stands before a token of a log, by the symbols before it, the nearest first.
use Rattle.std.specs.Prelude.{ℕ, ◌+◌, List, [], ◌∷◌, Bool, true, false, Option, Some, None, drop, option_and_then}
use Rattle.std.specs.Prelude.{reverse, unwrap_or}
use Rattle.mfotl_lex.specs.Lexemes.{Lexeme}
use Rattle.mfotl_model.specs.declared.policy.Sort.{Sort}
use Rattle.mfotl_sig.specs.Preds.{PredOf, named}
use Rattle.log_reader.specs.Grammar.{symbols_of}
use Rattle.log_reader.specs.Symbols.{Symbol, AtSign, Opening, Closing, Separator, Terminator, Says, Bare}
use Rattle.log_reader.specs.ValuesRead.{timestamp_of}

-- the symbols before a token, the nearest first
abbrev pub symbols_before : List Lexeme → List Symbol
symbols_before front = reverse (symbols_of front)

-- ---- what a symbol is for, by what stands before it

-- what a symbol is for in a log
pub data Role : Type 0 where
  PointBegins : Role
  Timestamp : Role
  Name : Role
  GroupBegins : Role
  Value : Role
  Comma : Role
  GroupEnds : Role
  PointEnds : Role
  Nothing : Role

-- an `@` stands directly before
abbrev pub is_behind_at : List Symbol → Bool
is_behind_at (AtSign ∷ older) = true
is_behind_at _ = false

-- the nearest bracket is a `(`
abbrev pub is_in_group : List Symbol → Bool
is_in_group [] = false
is_in_group (Opening ∷ older) = true
is_in_group (Closing ∷ older) = false
is_in_group (x ∷ older) = is_in_group older

-- a Word or a Text directly behind an `@` is a timestamp, within brackets a value, and else a name
abbrev pub said_role : Bool → Bool → Role
said_role true in_group = Timestamp
said_role false true = Value
said_role false false = Name

-- by what stands before it
abbrev pub role : List Symbol → Symbol → Role
role older AtSign = PointBegins
role older (Says written) = said_role (is_behind_at older) (is_in_group older)
role older Opening = GroupBegins
role older Separator = Comma
role older Closing = GroupEnds
role older Terminator = PointEnds
role older _ = Nothing

-- ---- the present time-point

-- how many time-points were begun
abbrev pub points_begun : List Symbol → ℕ
points_begun [] = 0
points_begun (AtSign ∷ older) = points_begun older + 1
points_begun (x ∷ older) = points_begun older

-- a Word, if it is the timestamp; else what was found further back
abbrev pub if_timestamp : Role → List ℕ → Option (List ℕ) → Option (List ℕ)
if_timestamp Timestamp word further = Some word
if_timestamp _ word further = further

-- the last timestamp that is written
abbrev pub last_stamp : List Symbol → Option (List ℕ)
last_stamp [] = None
last_stamp (Says (Bare word) ∷ older) = if_timestamp (role older (Says (Bare word))) word (last_stamp older)
last_stamp (x ∷ older) = last_stamp older

-- the time that it stands for, and 0 before the first
abbrev pub last_time : List Symbol → ℕ
last_time older = unwrap_or (option_and_then timestamp_of (last_stamp older)) 0

-- how many groups the present time-point has
abbrev pub groups_begun : List Symbol → ℕ
groups_begun [] = 0
groups_begun (AtSign ∷ older) = 0
groups_begun (Terminator ∷ older) = 0
groups_begun (Opening ∷ older) = groups_begun older + 1
groups_begun (x ∷ older) = groups_begun older

-- ---- the present group

-- a Word, if it is a predicate's name; else what was found further back
abbrev pub if_name : Role → List ℕ → Option (List ℕ) → Option (List ℕ)
if_name Name word further = Some word
if_name _ word further = further

-- the last name that is written
abbrev pub last_name : List Symbol → Option (List ℕ)
last_name [] = None
last_name (Says (Bare word) ∷ older) = if_name (role older (Says (Bare word))) word (last_name older)
last_name (x ∷ older) = last_name older

-- a predicate's sorts
abbrev pub sorts_of : Option PredOf → List Sort
sorts_of (Some pred) = pred.sorts
sorts_of None = []

-- the sorts of the predicate that was named last
abbrev pub last_sorts : List PredOf → List Symbol → List Sort
last_sorts sig older = sorts_of (option_and_then (λ name. named name sig) (last_name older))

-- how many values the present group has
abbrev pub values_begun : List Symbol → ℕ
values_begun [] = 0
values_begun (Opening ∷ older) = 0
values_begun (Says written ∷ older) = values_begun older + 1
values_begun (x ∷ older) = values_begun older

-- the sorts of the values that the present group lacks
abbrev pub due_sorts : List PredOf → List Symbol → List Sort
due_sorts sig older = drop (values_begun older) (last_sorts sig older)
