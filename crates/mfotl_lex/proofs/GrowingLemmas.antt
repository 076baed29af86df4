-- A place reads on with more bytes.
use Rattle.std.proofs.Common.{◌≡◌, ℕ, zero, suc, ◌+◌, ◌<◌, Bool, false, List, ◌∷◌, ◌++◌, length, drop, Option, Some}
use Rattle.std.proofs.Common.{None, Result, Ok, Err, refl, sym, ◌∙◌, arith, add_assoc}
use Rattle.std.proofs.lemmas.List.{take-append-le, drop-append-le, drop-drop}
use Rattle.mfotl_lex.specs.declared.{fault.LexFault.LexFault, scan.Scan.Scan}
use Rattle.mfotl_lex.specs.declared.scan.Scan.TheVariants.{Unshown, Takes, Fails}
use Rattle.mfotl_lex.specs.{Blanks.blank_len, Scans.IsWithin, Places.Place}
use Rattle.mfotl_lex.specs.Lexemes.{Lexeme, Tokens, past_blanks, token_at, place_after, next_token, after, followed}
use Rattle.mfotl_lex.specs.Lexemes.{tokens}
use Rattle.mfotl_lex.specs.Growing.{grown, ReadsOn, stopped, joined_at, tokens_joined, MoreBytesChangeNothing}
use Rattle.mfotl_lex.proofs.{BlankLoop.blanks_within, BlankLemmas.blank_len-append, BlankLemmas.blank_len-drop}
use Rattle.mfotl_lex.proofs.Growth.{IsShown, keeps_shown, scan_keeps, no_blank_before}
use Rattle.mfotl_lex.proofs.Sequence.{scan_at, at_within, next_is, after_is, after_shorter, after_ended, nothing_after}
use Rattle.mfotl_lex.proofs.Sequence.{tokens_step, tokens_token, tokens_none, tokens_fault, stopped_at_token}
use Rattle.mfotl_lex.proofs.Sequence.{stopped_at_none}

shown_by_token : (q : Place) (s : Scan) (t : Lexeme) → token_at q s ≡ Ok (Some t) → IsShown s
shown_by_token q (Takes kind n) t e = tt
shown_by_token q other t e = absurd cc

shown_by_fault : (q : Place) (s : Scan) (f : LexFault) → token_at q s ≡ Err f → IsShown s
shown_by_fault q (Fails fault n) f e = tt
shown_by_fault q other f e = absurd cc

-- ---- where something is shown

grown_token : (q : Place) (more : List ℕ) (ended : Bool) (s : Scan) → IsWithin q.rest s
    → token_at (grown q more ended) s ≡ token_at q s
grown_token q more ended (Takes kind n) w = rw (take-append-le n q.rest more w.1) refl
grown_token q more ended other w = refl

grown_after : (p q : Place) (more : List ℕ) (ended : Bool) (s : Scan) (t : Lexeme) → IsWithin q.rest s
    → token_at q s ≡ Ok (Some t)
    → place_after (grown p more ended) (grown q more ended) s ≡ grown (place_after p q s) more ended
grown_after p q more ended (Takes kind n) t w e = rw (drop-append-le n q.rest more w.1) refl
grown_after p q more ended other t w e = absurd cc

module _ (p : Place) (more : List ℕ) (ended : Bool) (untold : p.ended ≡ false) where
  past_same : IsShown (scan_at p) → past_blanks (grown p more ended) ≡ grown (past_blanks p) more ended
  past_same shown = grind (arith, no_blank_before, blank_len-drop, blank_len-append, drop-append-le, blanks_within)

  scan_same : IsShown (scan_at p) → scan_at (grown p more ended) ≡ scan_at p
  scan_same shown = grind (arith, past_same, keeps_shown, scan_at, scan_keeps)

  next_same : IsShown (scan_at p) → next_token (grown p more ended) ≡ next_token p
  next_same shown = simp (next_is, past_same, scan_same, grown_token, scan_at, at_within)

  after_same : (t : Lexeme) → token_at (past_blanks p) (scan_at p) ≡ Ok (Some t)
      → after (grown p more ended) ≡ grown (after p) more ended
  after_same t e = search (shown_by_token, scan_at, after_is, past_same, scan_same, grown_after, at_within)

  -- ---- where nothing is shown

  past_again : past_blanks (grown p more ended) ≡ past_blanks (grown (past_blanks p) more ended)
  past_again =
      let n = blank_len false p.rest in
      let m = blank_len ended (drop n p.rest ++ more) in
      let e : drop (n + m) (p.rest ++ more) ≡ drop m (drop n p.rest ++ more) =
      rw (← drop-append-le n p.rest more (blanks_within false p.rest)) (sym (drop-drop _ n (p.rest ++ more))) in
      rw (untold, blank_len-append ended p.rest more, e, add_assoc p.at n m) refl

any_before : (a b q : Place) (s : Scan) → followed (token_at q s)
    (tokens (place_after a q s)) ≡ followed (token_at q s) (tokens (place_after b q s))
any_before a b q Unshown = refl
any_before a b q (Takes kind n) = refl
any_before a b q (Fails fault n) = refl

-- places that have the same behind their blanks have the same tokens
pub tokens_same : (p q : Place) → past_blanks p ≡ past_blanks q → tokens p ≡ tokens q
tokens_same p q e = grind (arith, tokens_step, next_is, after_is, any_before)

-- ---- the law

-- a place whose end isn't told reads on
pub reads_on : (p : Place) (more : List ℕ) (ended : Bool) → p.ended ≡ false → ReadsOn p more ended
reads_on p more ended untold =
    let q = past_blanks p in
    record {
      token = λ t e.
          next_same p more ended untold (shown_by_token q (scan_at p) t (sym (next_is p) ∙ e)) ∙ e;
      behind = λ t e. after_same p more ended untold t (sym (next_is p) ∙ e);
      fault = λ f e.
          next_same p more ended untold (shown_by_fault q (scan_at p) f (sym (next_is p) ∙ e)) ∙ e;
      none = λ e. rw (nothing_after p e)
          (tokens_same (grown p more ended) (grown q more ended) (past_again p more ended untold));
    }

joined_cons : (t : Lexeme) (list : List Lexeme) (fault : Option LexFault) (more : Tokens)
    → followed (Ok (Some t)) (joined_at fault list more) ≡ joined_at fault (t ∷ list) more
joined_cons t list None more = refl
joined_cons t list (Some f) more = refl

-- the tokens with more bytes, where the next one of the front is known
joined_step : (p : Place) (more : List ℕ) (ended : Bool) (r : Result (Option Lexeme) LexFault)
    → ReadsOn p more ended → next_token p ≡ r
    → ((t : Lexeme) → next_token p ≡ Ok (Some t) → tokens (grown (after p) more ended)
    ≡ tokens_joined (tokens (after p)) (tokens (grown (stopped (after p)) more ended)))
    → tokens (grown p more ended) ≡ tokens_joined (tokens p) (tokens (grown (stopped p) more ended))
joined_step p more ended (Ok (Some t)) on e behind = grind (arith, tokens_token, stopped_at_token, joined_cons)
joined_step p more ended (Ok None) on e behind = grind (arith, tokens_none, nothing_after, stopped_at_none)
joined_step p more ended (Err f) on e behind = grind (arith, tokens_fault)

joined_within : (n : ℕ) (p : Place) (more : List ℕ) (ended : Bool) → length p.rest < n → p.ended ≡ false
    → tokens (grown p more ended) ≡ tokens_joined (tokens p) (tokens (grown (stopped p) more ended))
joined_within zero p more ended lt e = absurd (omega arith)
joined_within (suc n) p more ended lt e =
    joined_step p more ended (next_token p) (reads_on p more ended e) refl
    (λ t found. joined_within n (after p) more ended (omega (arith, after_shorter p t found))
    (after_ended p ∙ e))

-- more bytes change nothing
pub more_bytes : MoreBytesChangeNothing
more_bytes p more ended e = grind (arith, reads_on, joined_within)
