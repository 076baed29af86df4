-- The bytes that a reader keeps: those of a log from an offset on.
use Rattle.std.specs.Prelude.{◌≡◌, ◌≤◌, ◌+◌, ◌-◌, ◌==◌, ◌&&◌, ℕ, List, [], ◌∷◌, ◌++◌, length, take, drop, Bool}
use Rattle.std.specs.Prelude.{false, not, nat_lt, None, Ok, if◌then◌else◌}
use Rattle.mfotl_lex.specs.Blanks.{blank_len}
use Rattle.mfotl_lex.specs.Bytes.{hash}
use Rattle.mfotl_lex.specs.Lexemes.{next_token}
use Rattle.mfotl_lex.specs.Places.{Place}
use Rattle.mfotl_lex.specs.declared.kind.Mode.TheVariants.{Log}
use Rattle.log_reader.specs.declared.limits.Limits.{Limits}

-- bytes, the first of which has the offset `from` in the log
pub record Stretch : Type 0 where
  pub from : ℕ
  pub bytes : List ℕ

-- the offset behind them: so many bytes the log has so far
abbrev pub stretch_end : Stretch → ℕ
stretch_end s = s.from + length s.bytes

-- with a piece behind them
abbrev pub with_piece : Stretch → List ℕ → Stretch
with_piece s piece = record { from = s.from; bytes = s.bytes ++ piece }

-- ---- what is looked at

-- the offset `at` within the bytes that are looked at, the first of which has the offset `from` in the log
abbrev pub place_in : ℕ → List ℕ → Bool → ℕ → Place
place_in from looked ended at = record { mode = Log; at = from + at; rest = drop at looked; ended = ended }

-- the bytes that are looked at: those below the limit
abbrev pub looked_at : Limits → Stretch → List ℕ
looked_at limits s = take (limits.bytes - s.from) s.bytes

-- whether their end is the log's
abbrev pub is_end_told : Limits → Stretch → Bool → Bool
is_end_told limits s ended = ended && not (nat_lt limits.bytes (stretch_end s))

-- the offset `at` within them
abbrev pub stretch_place : Limits → Stretch → Bool → ℕ → Place
stretch_place limits s ended at = place_in s.from (looked_at limits s) (is_end_told limits s ended) at

-- ---- what is done with

-- without the first of the bytes
abbrev pub behind : Stretch → ℕ → Stretch
behind s count = record { from = s.from + count; bytes = drop count s.bytes }

-- how many bytes a comment has behind its `#`, if the bytes begin with one
abbrev pub comment_of : List ℕ → ℕ
comment_of [] = 0
comment_of (b ∷ bytes) = if b == hash then length bytes else 0

-- of a comment whose end isn't shown the `#` is enough, in the place of its last byte
abbrev pub shortened : Stretch → Stretch
shortened s = record {
  from = s.from + comment_of s.bytes;
  bytes = take (length s.bytes - comment_of s.bytes) s.bytes;
}

-- what is left where the reader waits for more at an offset
abbrev pub forgotten : Stretch → ℕ → Stretch
forgotten s at = shortened (behind s at)

-- the reader waits there: no blank, and no whole token
pub record Waits (limits : Limits) (s : Stretch) (at : ℕ) : Type 0 where
  pub short : stretch_end s ≤ limits.bytes
  pub within : at ≤ length s.bytes
  pub bare : blank_len false (drop at s.bytes) ≡ 0
  pub unshown : next_token (place_in s.from s.bytes false at) ≡ Ok None
