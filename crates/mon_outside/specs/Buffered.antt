-- A sink that gathers what is written before it hands it on to another.
use Rattle.std.specs.Prelude.{ℕ, List}
use Rattle.std.specs.Io.KnownBytes.{append_known}
use Rattle.std.specs.declared.option.Option.{Option}

-- the sink behind it, and the bytes that it holds back
pub record Buffered (K : Type 0) : Type 0 where
  pub inner : K
  pub held : List ℕ

-- The bytes written to both: those that the sink behind it got, where they are told, and then those held back.
abbrev pub written_or_held : {K : Type 0} → (K → Option (List ℕ)) → Buffered K → Option (List ℕ)
written_or_held written sink = append_known (written sink.inner) sink.held
