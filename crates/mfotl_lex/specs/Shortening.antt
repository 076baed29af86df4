-- A comment whose end isn't shown may be kept as its `#` alone.
use Rattle.std.specs.Prelude.{◌≡◌, ℕ, ◌+◌, Bool, false, List, ◌∷◌, ◌++◌, length}
use Rattle.mfotl_lex.specs.declared.kind.Mode.{Mode}
use Rattle.mfotl_lex.specs.Bytes.{hash}
use Rattle.mfotl_lex.specs.Blanks.{blank_len}
use Rattle.mfotl_lex.specs.Places.{Place}
use Rattle.mfotl_lex.specs.Lexemes.{tokens}

-- the bytes from an offset on
abbrev pub place_at : Mode → ℕ → List ℕ → Bool → Place
place_at mode at bytes ended = record { mode = mode; at = at; rest = bytes; ended = ended }

-- so a reader that is fed pieces needs no more than one byte of it: the `#` then stands for the last byte
abbrev pub OpenCommentsShorten : Type 0
OpenCommentsShorten =
    (mode : Mode) (at : ℕ) (comment more : List ℕ) (ended : Bool) → blank_len false (hash ∷ comment) ≡ 0
    → tokens (place_at mode at (hash ∷ (comment ++ more)) ended)
    ≡ tokens (place_at mode (at + length comment) (hash ∷ more) ended)
