-- The classes of bytes.
use Rattle.std.specs.Prelude.{ℕ, Bool, ◌&&◌, ◌||◌, not, nat_lt, ◌==◌}
use Rattle.std.specs.Char.{is_ascii_alphabetic, is_ascii_alphanumeric}

-- `\n`, which ends a comment
abbrev pub line_feed : ℕ
line_feed = 10

-- `"`
abbrev pub quote : ℕ
quote = 34

-- `#`, which begins a comment
abbrev pub hash : ℕ
hash = 35

-- `-`
abbrev pub minus : ℕ
minus = 45

-- `=`
abbrev pub equals_sign : ℕ
equals_sign = 61

-- space, tab, carriage return and line feed
abbrev pub is_space : ℕ → Bool
is_space b = ((b == 32 || b == 9) || b == 13) || b == 10

-- a letter or `_`
abbrev pub begins_plain_word : ℕ → Bool
begins_plain_word b = is_ascii_alphabetic b || b == 95

-- a letter, a digit or `_`
abbrev pub in_plain_word : ℕ → Bool
in_plain_word b = is_ascii_alphanumeric b || b == 95

-- a letter, a digit, or one of `_ [ ] / : - . !`
abbrev pub in_log_word : ℕ → Bool
in_log_word b =
    is_ascii_alphanumeric b ||
    (b == 95 || (b == 91 || (b == 93 || (b == 47 || (b == 58 || (b == 45 || (b == 46 || b == 33)))))))

-- what the content of a Text is made of
abbrev pub in_text : ℕ → Bool
in_text b = not (b == quote) && not (nat_lt b 32)
