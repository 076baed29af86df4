-- The greatest sizes of tokens.
use Rattle.std.specs.Prelude.{ℕ, ◌^◌}

-- the bytes of a Word outside logs
abbrev pub max_word : ℕ
max_word = 64

-- the bytes of a Word of a log
abbrev pub max_log_word : ℕ
max_log_word = 4096

-- the bytes of a Text between its quotes
abbrev pub max_text : ℕ
max_text = 4096

-- what an Integer may write behind a `-`; without one it is below this
abbrev pub max_magnitude : ℕ
max_magnitude = 2 ^ 63
