-- Blanks, seen byte by byte.
use Rattle.std.proofs.Common.{◌≡◌, ℕ, ◌+◌, ◌-◌, ◌≤◌, suc, Bool, List, [], ◌∷◌, length, drop, Option, Some, None, arith}
use Rattle.mfotl_lex.specs.Blanks.{blank_len, comment_len}

-- at the byte i, where a comment began at `start`, or none is open: what remains gives the rest of the count
abbrev pub Remains : Bool → List ℕ → Option ℕ → ℕ → Type 0
Remains ended bytes None i = i + blank_len ended (drop i bytes) ≡ blank_len ended bytes
Remains ended bytes (Some start) i =
    (start ≤ i) × (start + comment_len ended (i - start) (drop i bytes) ≡ blank_len ended bytes)

mutual
  unfolding blank_len

  -- blanks lie within the bytes
  pub blanks_within : (ended : Bool) (bytes : List ℕ) → blank_len ended bytes ≤ length bytes
  blanks_within ended [] = omega arith
  blanks_within ended (b ∷ bytes) = grind (arith, blanks_within ended bytes, comment_within ended 1 bytes)

  pub comment_within : (ended : Bool) (count : ℕ) (bytes : List ℕ)
      → comment_len ended count bytes ≤ count + length bytes
  comment_within ended count [] = grind arith
  comment_within ended count (b ∷ bytes) =
      grind (arith, blanks_within ended bytes, comment_within ended (suc count) bytes)
