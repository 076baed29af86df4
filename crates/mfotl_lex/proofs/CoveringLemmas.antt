-- The tokens and what lies between them are the bytes.
use Rattle.std.proofs.Common.{◌≡◌, ℕ, zero, suc, ◌+◌, ◌<◌, Bool, true, false, List, [], ◌∷◌, ◌++◌, length, take, drop}
use Rattle.std.proofs.Common.{Option, Some, None, Result, Ok, Err, refl, sym, ap, ◌∙◌, arith}
use Rattle.std.specs.Prelude.{◌↔◌}
use Rattle.std.proofs.{lemmas.Bool.cases_lt, Math.Seq.take-length, lemmas.Grind.common_steps}
use Rattle.std.proofs.lemmas.List.{take-append-drop, length-drop, length-take-le, nil_from_length}
use Rattle.mfotl_lex.specs.declared.{fault.LexFault.LexFault, kind.Mode.Mode, kind.Mode.TheVariants.Plain}
use Rattle.mfotl_lex.specs.declared.{kind.Mode.TheVariants.Log, token.Token.Token, scan.Scan.Scan}
use Rattle.mfotl_lex.specs.declared.{scan.Scan.TheVariants.Unshown, scan.Scan.TheVariants.Takes}
use Rattle.mfotl_lex.specs.{Blanks.blank_len, Places.Place}
use Rattle.mfotl_lex.specs.Scans.{plain_scan, log_scan, scan, IsWithin}
use Rattle.mfotl_lex.specs.Lexemes.{seen, Lexeme, past_blanks, token_at, place_after, next_token, after}
use Rattle.mfotl_lex.specs.Covering.{AreBlanks, AreTheBytes, TokensAreTheBytes}
use Rattle.mfotl_lex.proofs.{BlankLoop.blanks_within, Growth.shown_at_end}
use Rattle.mfotl_lex.proofs.BlankLemmas.{told_more, blank_len-drop, blank_len-take, blanks_are_whole, blank_nil}
use Rattle.mfotl_lex.proofs.BlankLemmas.{no_hash}
use Rattle.mfotl_lex.proofs.Sequence.{scan_at, at_within, next_is, after_shorter, after_ended, tokens_token}
use Rattle.mfotl_lex.proofs.Sequence.{tokens_none, tokens_fault, unshown, stopped_at_token, stopped_at_none}
use Rattle.mfotl_lex.proofs.Sequence.{stopped_at_fault}

-- ---- the blanks at the front

len_front : (ended : Bool) (bytes : List ℕ) → length (take (blank_len ended bytes) bytes) ≡ blank_len ended bytes
len_front ended bytes = length-take-le (blank_len ended bytes) bytes (blanks_within ended bytes)

-- blanks whose end isn't needed are blanks at the end too
blanks_at_end : (blanks : List ℕ) → blank_len false blanks ≡ length blanks → blank_len true blanks ≡ length blanks
blanks_at_end blanks e = grind (arith, common_steps, nil_from_length, length-drop, blank_nil, told_more)

front_is_blank : (ended : Bool) (bytes : List ℕ) → AreBlanks ended (take (blank_len ended bytes) bytes)
front_is_blank false bytes = blank_len-take bytes ∙ sym (len_front false bytes)
front_is_blank true bytes =
    grind (arith, common_steps, cases_lt, blanks_at_end, blanks_are_whole, len_front, blanks_within, take-length)

-- ---- one token

-- it is what stands behind the blanks
found_at : (p : Place) (s : Scan) (t : Lexeme) → IsWithin (past_blanks p).rest s
    → token_at (past_blanks p) s ≡ Ok (Some t)
    → (t.text ++ (place_after p (past_blanks p) s).rest ≡ (past_blanks p).rest) × (t.at ≡ (past_blanks p).at)
    × ((place_after p (past_blanks p) s).at ≡ t.at + length t.text) × (0 < length (past_blanks p).rest)
found_at p (Takes kind n) t w e = grind (arith, take-append-drop, length-take-le)
found_at p other t w e = absurd cc

-- ---- at the end

nothing_left : (mode : Mode) (front : List ℕ) → blank_len true front ≡ 0 → scan mode true front ≡ Unshown → front ≡ []
nothing_left mode [] none e = refl
nothing_left mode (b ∷ bytes) none e = absurd (rw e at (shown_at_end mode b bytes (no_hash b bytes none)))

-- at the end no token and no fault leaves no byte
left_at_end : (p : Place) → p.ended ≡ true → next_token p ≡ Ok None → (past_blanks p).rest ≡ []
left_at_end p told e = grind (arith, nothing_left, blank_len-drop, unshown, scan_at, next_is)

-- ---- all tokens

covers_step : (p : Place) (r : Result (Option Lexeme) LexFault) → next_token p ≡ r
    → ((t : Lexeme) → next_token p ≡ Ok (Some t) → AreTheBytes (after p)) → AreTheBytes p
unfolding after
covers_step p (Ok (Some t)) e behind =
    let n = blank_len p.ended p.rest in let b = behind t e in
    let f = found_at p (scan_at p) t (at_within p) (sym (next_is p) ∙ e) in
    let next : (after p).at ≡ t.at + length t.text = f.2 in
    record {
      spread = rw (tokens_token p t e, stopped_at_token p t e) (
        take n p.rest,
        (after p).rest,
        blanks_are_whole p.ended p.rest (omega (arith, f.3, length-drop n p.rest)) ∙ sym (len_front p.ended p.rest),
        rw f.0 (sym (take-append-drop n p.rest)),
        rw (len_front p.ended p.rest) f.1,
        rw (after_ended p, next) at b.spread,
      );
      whole = λ told none.
          rw (stopped_at_token p t e) (b.whole (after_ended p ∙ told) (rw (tokens_token p t e) at none));
    }
covers_step p (Ok None) e behind =
    grind (arith, tokens_none p e, stopped_at_none p e, front_is_blank p.ended p.rest, take-append-drop, left_at_end)
covers_step p (Err f) e behind = grind (arith, tokens_fault, stopped_at_fault, blank_nil)

covers : (n : ℕ) (p : Place) → length p.rest < n → AreTheBytes p
covers zero p lt = absurd (omega arith)
covers (suc n) p lt = covers_step p (next_token p) refl (λ t e. covers n (after p) (omega (arith, after_shorter p t e)))

-- the tokens and what lies between them are the bytes
pub covering : TokensAreTheBytes
covering p = covers (suc (length p.rest)) p (omega arith)

-- ---- no token and no fault

blanks_left : (p : Place) → p.ended ≡ true → next_token p ≡ Ok None → AreBlanks true p.rest
blanks_left p told e =
    let n = blank_len p.ended p.rest in
    let none : length (drop n p.rest) ≡ 0 = ap length (left_at_end p told e) in
    rw (← told) (omega (arith, none, length-drop n p.rest, blanks_within p.ended p.rest))

scan_nil : (mode : Mode) (ended : Bool) → scan mode ended [] ≡ Unshown
unfolding plain_scan log_scan
scan_nil Plain ended = refl
scan_nil Log ended = refl

only_blanks : (p : Place) → p.ended ≡ true → AreBlanks true p.rest → next_token p ≡ Ok None
only_blanks p told all = grind (arith, common_steps, nil_from_length, length-drop, next_is, scan_nil)

seen_none : (r : Result (Option Token) LexFault) → seen r ≡ Ok None → r ≡ Ok None
seen_none (Ok None) e = refl
seen_none other e = absurd cc

-- a call answers that nothing is left exactly where only blanks are
pub none_at_end : (p : Place) (r : Result (Option Token) LexFault) → seen r ≡ next_token p
    → p.ended ≡ true → (r ≡ Ok None) ↔ AreBlanks true p.rest
none_at_end p r found told = grind (arith, blanks_left, seen_none, only_blanks)
