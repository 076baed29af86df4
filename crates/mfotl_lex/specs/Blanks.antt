-- What stands between tokens: whitespace, and comments from `#` up to the end of the line.
use Rattle.std.specs.Prelude.{ℕ, suc, ◌+◌, Bool, List, [], ◌∷◌, ◌==◌, if◌then◌else◌}
use Rattle.mfotl_lex.specs.Bytes.{line_feed, hash, is_space}

-- whitespace and comments, one in front of the other
unfoldable mutual
  -- how many bytes of blanks stand at the front; `ended` says that the bytes are at their end
  pub blank_len : Bool → List ℕ → ℕ
  blank_len ended [] = 0
  blank_len ended (b ∷ bytes) =
      if is_space b then suc (blank_len ended bytes)
      else if b == hash then comment_len ended 1 bytes
      else 0

  -- the same where `count` bytes of a comment stand before; one whose end isn't shown is no blank yet
  pub comment_len : Bool → ℕ → List ℕ → ℕ
  comment_len ended count [] = if ended then count else 0
  comment_len ended count (b ∷ bytes) =
      if b == line_feed then suc count + blank_len ended bytes
      else comment_len ended (suc count) bytes
