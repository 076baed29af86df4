-- What the calls of an input do to the rest of the open file, and to the names asked for, where they are told.
use Rattle.std.specs.Prelude.{◌≡◌, ℕ, ◌+◌, ◌<◌, ◌≤◌, Bool, true, false, List, [], ◌++◌, length, take, Some, None}
use Rattle.std.specs.Prelude.{IfSome}
use Rattle.std.specs.Option.{option_map}
use Rattle.std.specs.declared.option.Option.{Option}
use Rattle.mon_outside.specs.Files.{Files, content, ToldFiles}
pub use Rattle.std.specs.Io.KnownBytes.{Consumes}

-- a file's name, as its bytes
abbrev pub Name : Type 0
Name = List ℕ

-- the names that were asked for, and these behind them
abbrev pub asked_more : Option (List Name) → List Name → Option (List Name)
asked_more asked names = option_map (λ before. before ++ names) asked

-- The named file is open, and nothing of it was read.
abbrev pub Opens : Option Files → List ℕ → Option (List ℕ) → Type 0
Opens files name rest = ToldFiles files (λ files. rest ≡ Some (content files name))

-- A read moved the first `count` bytes of the rest to the front of the buffer.
pub record MovesFrom (old : List ℕ) (new : Option (List ℕ)) (buffer : List ℕ) (count : ℕ) : Type 0 where
  pub left : List ℕ
  pub new_is : new ≡ Some left
  pub next : old ≡ take count buffer ++ left
  -- no byte comes only at the end,
  pub end : count ≡ 0 → old ≡ []
  -- and before it at least one
  pub goes_on : 0 < length old → 0 < count

-- the same, where the rest is told
abbrev pub Moves : Option (List ℕ) → Option (List ℕ) → List ℕ → ℕ → Type 0
Moves None new buffer count = Unit {0}
Moves (Some old) new buffer count = MovesFrom old new buffer count

-- The reads between two moments gave bytes, which stand behind those that were there.
pub record GaveBytes (old new : Option (List ℕ)) (before after : List ℕ) : Type 0 where
  pub given : List ℕ
  pub appended : after ≡ before ++ given
  pub taken : Consumes old new given

-- These are all bytes of the named file.
abbrev pub Loads : Option Files → List ℕ → List ℕ → Type 0
Loads files name bytes = ToldFiles files (λ files. bytes ≡ content files name)

-- The named file has more bytes than this.
abbrev pub IsLonger : Option Files → List ℕ → ℕ → Type 0
IsLonger files name limit = ToldFiles files (λ files. limit < length (content files name))

-- The reading of a file stopped before its end was found: what is left of it is the rest of the open file,
-- and nothing of it was given where it could not be opened.
pub record StopsIn (is_open : Bool) (rest : Option (List ℕ)) (all : List ℕ) : Type 0 where
  pub seen : List ℕ
  pub left : List ℕ
  pub parts : all ≡ seen ++ left
  pub opened : is_open ≡ true → rest ≡ Some left
  pub unopened : is_open ≡ false → seen ≡ []

-- At most so many bytes of a file were given: where it is open, all others are left.
abbrev pub GaveAtMost : ℕ → Bool → Option (List ℕ) → List ℕ → Type 0
GaveAtMost limit is_open rest all = is_open ≡ true → IfSome rest (λ left. length all ≤ limit + length left)
