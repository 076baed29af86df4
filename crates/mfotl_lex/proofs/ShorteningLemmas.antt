-- An open comment may be kept as its `#` alone.
use Rattle.std.proofs.Common.{◌≡◌, ℕ, zero, suc, ◌+◌, ◌<◌, Bool, List, ◌∷◌, ◌++◌, length, drop, None, Ok, arith}
use Rattle.std.proofs.Common.{add_assoc}
use Rattle.std.proofs.Math.Seq.{drop-append-add}
use Rattle.mfotl_lex.specs.declared.kind.Mode.{Mode}
use Rattle.mfotl_lex.specs.{Bytes.hash, Blanks.blank_len, Lexemes.next_token, Shortening.place_at}
use Rattle.mfotl_lex.specs.{Shortening.OpenCommentsShorten}
use Rattle.mfotl_lex.proofs.{BlankLemmas.blanks_of_open, Growth.scan_hash, Sequence.next_is, Sequence.tokens_none}
use Rattle.mfotl_lex.proofs.{GrowingLemmas.tokens_same}

-- an open comment shows nothing
open_shows_none : (mode : Mode) (at : ℕ) (bytes : List ℕ) (ended : Bool)
    → blank_len ended (hash ∷ bytes) ≡ 0 → next_token (place_at mode at (hash ∷ bytes) ended) ≡ Ok None
open_shows_none mode at bytes ended none = grind (arith, next_is, scan_hash)

drop_comment : (n : ℕ) (comment more : List ℕ) → 0 < n
    → drop (length comment + n) (hash ∷ (comment ++ more)) ≡ drop n (hash ∷ more)
drop_comment zero comment more some = absurd (omega arith)
drop_comment (suc n) comment more some =
    let e : length comment + suc n ≡ suc (length comment + n) = omega arith in
    rw e (drop-append-add comment more n)

pub shortening : OpenCommentsShorten
shortening mode at comment more ended none =
    grind (arith, blanks_of_open, tokens_none, open_shows_none, drop_comment, add_assoc, tokens_same)
