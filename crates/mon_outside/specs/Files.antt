-- Files: names and their bytes, which the outside may tell or keep to itself.
use Rattle.std.specs.Prelude.{ℕ, List, [], ◌∷◌, bytes_eq, if◌then◌else◌, unwrap_or, Some, None}
use Rattle.std.specs.declared.option.Option.{Option}

-- each file's name, and its bytes
abbrev pub Files : Type 0
Files = List (List ℕ × List ℕ)

-- the bytes of the first file of this name, if there is one
abbrev pub find_file : Files → List ℕ → Option (List ℕ)
find_file [] name = None
find_file (file ∷ files) name = if bytes_eq file.0 name then Some file.1 else find_file files name

-- the same, and no bytes where there is none
abbrev pub content : Files → List ℕ → List ℕ
content files name = unwrap_or (find_file files name) []

-- what holds of the files, where they are told
abbrev pub ToldFiles : Option Files → (Files → Type 0) → Type 0
ToldFiles None P = Unit {0}
ToldFiles (Some files) P = P files
