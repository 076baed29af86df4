-- Where a lexer stands.
use Rattle.std.specs.Prelude.{◌≡◌, ◌≤◌, length, ℕ, ◌+◌, Bool, true, List, drop}
use Rattle.mfotl_lex.specs.declared.kind.Kind.{Kind}
use Rattle.mfotl_lex.specs.declared.kind.Mode.{Mode}

-- the bytes from the offset `at` on; `ended` says that they are all that come
pub record Place : Type 0 where
  pub mode : Mode
  pub at : ℕ
  pub rest : List ℕ
  pub ended : Bool

-- the beginning of bytes that are all there are
abbrev pub beginning : Mode → List ℕ → Place
beginning mode bytes = record { mode = mode; at = 0; rest = bytes; ended = true }

-- so many bytes further on
abbrev pub further_on : Place → ℕ → Place
further_on p n = record { mode = p.mode; at = p.at + n; rest = drop n p.rest; ended = p.ended }

-- the same place in another mode
abbrev pub in_mode : Mode → Place → Place
in_mode mode p = record p { mode = mode }

-- the mode in which a token of this kind leaves the lexer: the same
unfoldable pub mode_behind : Mode → Kind → Mode
mode_behind mode kind = mode

-- the new place is so many bytes further on, within the bytes of the old one
pub record MovesOn (old new : Place) : Type 0 where
  pub count : ℕ
  pub within : count ≤ length old.rest
  pub place : new ≡ in_mode new.mode (further_on old count)
