-- What a token says.
use Rattle.std.specs.Prelude.{ℕ, ◌-◌, List, length, take, drop}
use Rattle.mfotl_lex.specs.declared.kind.Kind.{Kind}
use Rattle.mfotl_lex.specs.declared.kind.Kind.TheVariants.{Text}

-- without the first byte and the last
abbrev pub between_quotes : List ℕ → List ℕ
between_quotes text = take (length text - 2) (drop 1 text)

-- a Text's bytes between its quotes, any other token's own bytes
abbrev pub content_of : Kind → List ℕ → List ℕ
content_of Text text = between_quotes text
content_of _ text = text
