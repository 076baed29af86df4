-- What the calls of a sink do to the bytes written, where they are told.
use Rattle.std.specs.Prelude.{◌≡◌, ℕ, List, ◌++◌}
use Rattle.std.specs.declared.option.Option.{Option}
pub use Rattle.std.specs.Io.KnownBytes.{Appends}

-- What was written has grown by a front of these bytes.
pub record AppendsFront (old new : Option (List ℕ)) (bytes : List ℕ) : Type 0 where
  pub front : List ℕ
  pub back : List ℕ
  pub split : bytes ≡ front ++ back
  pub appended : Appends old new front
