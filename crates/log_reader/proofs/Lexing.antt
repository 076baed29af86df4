-- What the lexer's laws say of one token: it leads further, and it stays whatever comes later.
use Rattle.std.proofs.Common.{◌≡◌, ℕ, ◌≤◌, ◌<◌, Bool, true, false, List, [], length, drop, Some, None, Ok, refl, sym}
use Rattle.std.proofs.Common.{ap, ◌∙◌, add_assoc, arith}
use Rattle.std.proofs.lemmas.List.{append-nil, length-drop, drop-drop}
use Rattle.mfotl_lex.specs.{Blanks.blank_len, Growing.grown, Scans.IsWithin}
use Rattle.mfotl_lex.specs.Lexemes.{Lexeme, token_at, place_after, past_blanks, next_token, after, tokens}
use Rattle.mfotl_lex.specs.Places.{Place, further_on, mode_behind}
use Rattle.mfotl_lex.specs.declared.scan.Scan.{Scan}
use Rattle.mfotl_lex.proofs.{BlankLemmas.blank_len-drop, BlankLoop.blanks_within, GrowingLemmas.reads_on}
use Rattle.mfotl_lex.proofs.{ScanLemmas.scan_within}
use Rattle.mfotl_lex.proofs.Sequence.{next_is, nothing_after, after_ended, tokens_none}
use Rattle.log_reader.specs.Cursors.{MayComeLater}

-- how far a token leads: past a byte at least, and within the bytes
pub record Moves (p q : Place) : Type 0 where
  pub count : ℕ
  pub some : 0 < count
  pub within : count ≤ length p.rest
  pub place : q ≡ further_on p count

moves_by : (p : Place) (blanks : ℕ) (s : Scan) (t : Lexeme) → blanks ≤ length p.rest → IsWithin (drop blanks p.rest) s
    → token_at (further_on p blanks) s ≡ Ok (Some t) → Moves p (place_after p (further_on p blanks) s)
unfolding mode_behind
moves_by p blanks s t le w e = grind (arith, length-drop, drop-drop, add_assoc)

pub token_moves : (p : Place) (t : Lexeme) → next_token p ≡ Ok (Some t) → Moves p (after p)
unfolding next_token after
token_moves p t e = search (moves_by, blanks_within, scan_within)

-- where nothing comes later the place stays
grown_nothing : (p : Place) → p.ended ≡ true → grown p [] true ≡ p
grown_nothing p e = grind (arith, append-nil)

-- the same token, and the same place behind it
pub record TokenAgain (p : Place) (t : Lexeme) (more : List ℕ) (later : Bool) : Type 0 where
  pub token : next_token (grown p more later) ≡ Ok (Some t)
  pub place : after (grown p more later) ≡ grown (after p) more later

-- whatever comes later
pub token_again : (p : Place) (t : Lexeme) (more : List ℕ) (later : Bool) → MayComeLater p.ended more later
    → next_token p ≡ Ok (Some t) → TokenAgain p t more later
token_again p t more later is found = go p.ended refl is
  where
    go : (ended : Bool) → p.ended ≡ ended → MayComeLater ended more later → TokenAgain p t more later
    go false untold is =
        let on = reads_on p more later untold in
        record { token = on.token t found; place = on.behind t found }
    go true told (none, same) = rw (none, same) (record {
      token = ap next_token (grown_nothing p told) ∙ found;
      place = ap after (grown_nothing p told) ∙ sym (grown_nothing (after p) (after_ended p ∙ told));
    })

-- ---- where no whole token is left

past_twice : (p : Place) → past_blanks (past_blanks p) ≡ past_blanks p
past_twice p = grind (arith, blank_len-drop)

none_behind : (p : Place) → next_token p ≡ Ok None → next_token (after p) ≡ Ok None
none_behind p none = cc (nothing_after p none, next_is (past_blanks p), past_twice p, next_is p)

-- the blanks there are done with
pub record BlanksDone (p : Place) : Type 0 where
  pub again : (more : List ℕ) (later : Bool) → MayComeLater p.ended more later
      → tokens (grown p more later) ≡ tokens (grown (after p) more later)
  pub empty : next_token (after p) ≡ Ok None
  pub bare : blank_len p.ended (after p).rest ≡ 0
  pub moves : after p ≡ further_on p (blank_len p.ended p.rest)
  pub within : blank_len p.ended p.rest ≤ length p.rest

pub blanks_done : (p : Place) → next_token p ≡ Ok None → BlanksDone p
blanks_done p none = record {
  again = λ more later is. go more later p.ended refl is;
  empty = none_behind p none;
  bare = rw (nothing_after p none) (blank_len-drop p.ended p.rest);
  moves = nothing_after p none;
  within = blanks_within p.ended p.rest;
}
  where
    go : (more : List ℕ) (later ended : Bool) → p.ended ≡ ended → MayComeLater ended more later
        → tokens (grown p more later) ≡ tokens (grown (after p) more later)
    go more later false untold is = (reads_on p more later untold).none none
    go more later true told (none_more, same) = rw (none_more, same)
        (ap tokens (grown_nothing p told) ∙ tokens_none p none ∙ sym (tokens_none (after p) (none_behind p none))
        ∙ ap tokens (sym (grown_nothing (after p) (after_ended p ∙ told))))
