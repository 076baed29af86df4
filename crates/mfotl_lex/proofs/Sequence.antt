-- The tokens one after another: any fuel that suffices gives the same.
use Rattle.std.proofs.Common.{◌≡◌, ℕ, zero, suc, ◌≤◌, ◌<◌, [], ◌∷◌, length, add_assoc, add-zero, Option, Some, None}
use Rattle.std.proofs.Common.{Result, Ok, Err, refl, sym, ap, ◌∙◌, arith}
use Rattle.std.proofs.lemmas.List.{length-drop, drop-drop}
use Rattle.mfotl_lex.specs.declared.{fault.LexFault.LexFault, scan.Scan.Scan}
use Rattle.mfotl_lex.specs.declared.scan.Scan.TheVariants.{Unshown, Takes, Fails}
use Rattle.mfotl_lex.specs.{Blanks.blank_len, Scans.scan, Scans.IsWithin}
use Rattle.mfotl_lex.specs.Places.{Place, MovesOn, mode_behind}
use Rattle.mfotl_lex.specs.Lexemes.{Lexeme, past_blanks, token_at, place_after, ModesStay, next_token, after, followed}
use Rattle.mfotl_lex.specs.Lexemes.{tokens_within, tokens}
use Rattle.mfotl_lex.specs.Growing.{stop_or, stopped_within, stopped}
use Rattle.mfotl_lex.proofs.{BlankLoop.blanks_within, ScanLemmas.scan_within}

-- what is scanned at a place
abbrev pub scan_at : Place → Scan
scan_at p = scan p.mode p.ended (past_blanks p).rest

-- ---- where the place behind is

pub next_is : (p : Place) → next_token p ≡ token_at (past_blanks p) (scan_at p)
unfolding next_token
next_is p = refl

pub after_is : (p : Place) → after p ≡ place_after p (past_blanks p) (scan_at p)
unfolding after
after_is p = refl

pub at_within : (p : Place) → IsWithin (past_blanks p).rest (scan_at p)
at_within p = scan_within p.mode p.ended (past_blanks p).rest

shorter : (p q : Place) (s : Scan) (t : Lexeme) → IsWithin q.rest s → length q.rest ≤ length p.rest
    → token_at q s ≡ Ok (Some t) → length (place_after p q s).rest < length p.rest
shorter p q (Takes kind n) t w le e = omega (arith, w.0, w.1, length-drop n q.rest)
shorter p q other t w le e = absurd cc

-- a token takes a byte at least
pub after_shorter : (p : Place) (t : Lexeme) → next_token p ≡ Ok (Some t) → length (after p).rest < length p.rest
after_shorter p t e = grind (arith, length-drop, after_is, shorter, at_within, next_is)

same_mode : (p : Place) (s : Scan) → (place_after p (past_blanks p) s).mode ≡ p.mode
unfolding mode_behind
same_mode p Unshown = refl
same_mode p (Takes kind n) = refl
same_mode p (Fails fault n) = refl

-- no token changes the mode
pub modes_stay : ModesStay
modes_stay p = rw after_is (same_mode p (scan_at p))

none_after : (p q : Place) (s : Scan) → token_at q s ≡ Ok None → place_after p q s ≡ q
none_after p q Unshown e = refl
none_after p q other e = absurd cc

-- where nothing is shown, the blanks are passed
pub nothing_after : (p : Place) → next_token p ≡ Ok None → after p ≡ past_blanks p
nothing_after p e = after_is p ∙ none_after p (past_blanks p) (scan_at p) (sym (next_is p) ∙ e)

fault_stays : (p q : Place) (s : Scan) (f : LexFault) → token_at q s ≡ Err f → place_after p q s ≡ p
fault_stays p q (Fails fault n) f e = refl
fault_stays p q other f e = absurd cc

pub unshown : (q : Place) (s : Scan) → token_at q s ≡ Ok None → s ≡ Unshown
unshown q Unshown e = refl
unshown q other e = absurd cc

moves_by : (p : Place) (s : Scan) → IsWithin (past_blanks p).rest s → MovesOn p (place_after p (past_blanks p) s)
moves_by p Unshown w = record { count = blank_len p.ended p.rest; within = blanks_within p.ended p.rest; place = refl }
moves_by p (Takes kind n) w = grind (arith, length-drop, blanks_within, drop-drop, add_assoc)
moves_by p (Fails fault n) w = record { count = 0; within = omega arith; place = rw add-zero refl }

-- a place moves on within its bytes
pub moves_on : (p : Place) → MovesOn p (after p)
moves_on p = rw after_is (moves_by p (scan_at p) (at_within p))

-- the end stays told or not
pub after_ended : (p : Place) → (after p).ended ≡ p.ended
after_ended p = ap (λ (q : Place). q.ended) (moves_on p).place

-- ---- any fuel

-- what is made of the next token and of what is behind it, with some fuel; no token and a fault end it
module _ {X : Type 0} (turn : Result (Option Lexeme) LexFault → Place → X → X) (within : ℕ → Place → X)
    (steps : (n : ℕ) (p : Place) → within (suc n) p ≡ turn (next_token p) (after p) (within n (after p)))
    (none : (q : Place) (x y : X) → turn (Ok None) q x ≡ turn (Ok None) q y)
    (fault : (f : LexFault) (q : Place) (x y : X) → turn (Err f) q x ≡ turn (Err f) q y) where
  same_behind : (r : Result (Option Lexeme) LexFault) (q : Place) (x y : X)
      → ((t : Lexeme) → r ≡ Ok (Some t) → x ≡ y) → turn r q x ≡ turn r q y
  same_behind (Ok (Some t)) q x y same = ap (turn (Ok (Some t)) q) (same t refl)
  same_behind (Ok None) q x y same = none q x y
  same_behind (Err f) q x y same = fault f q x y

  fuel : (m n : ℕ) (p : Place) → length p.rest < m → length p.rest < n → within m p ≡ within n p
  fuel zero n p lt lt' = absurd (omega arith)
  fuel (suc m) zero p lt lt' = absurd (omega arith)
  fuel (suc m) (suc n) p lt lt' =
      steps m p ∙ same_behind (next_token p) (after p) (within m (after p)) (within n (after p))
      (λ t e. let less = after_shorter p t e in fuel m n (after p) (omega arith) (omega arith)) ∙ sym (steps n p)

  enough : (p : Place) → within (suc (length p.rest)) p
      ≡ turn (next_token p) (after p) (within (suc (length (after p).rest)) (after p))
  enough p = grind (arith, same_behind, fuel, after_shorter)

-- the tokens are the next one, and those behind it
pub tokens_step : (p : Place) → tokens p ≡ followed (next_token p) (tokens (after p))
unfolding tokens tokens_within
tokens_step p = enough (λ r q x. followed r x) tokens_within (λ n q. refl) (λ q x y. refl) (λ f q x y. refl) p

pub stopped_step : (p : Place) → stopped p ≡ stop_or (next_token p) (after p) (stopped (after p))
unfolding stopped stopped_within
stopped_step p = enough stop_or stopped_within (λ n q. refl) (λ q x y. refl) (λ f q x y. refl) p

-- a token first
pub tokens_token : (p : Place) (t : Lexeme) → next_token p ≡ Ok (Some t)
    → tokens p ≡ record { list = t ∷ (tokens (after p)).list; fault = (tokens (after p)).fault }
tokens_token p t e = rw (tokens_step p, e)

-- no token
pub tokens_none : (p : Place) → next_token p ≡ Ok None → tokens p ≡ record { list = []; fault = None }
tokens_none p e = rw (tokens_step p, e)

-- a fault
pub tokens_fault : (p : Place) (fault : LexFault) → next_token p ≡ Err fault
    → tokens p ≡ record { list = []; fault = Some fault }
tokens_fault p fault e = rw (tokens_step p, e)

-- where reading stops, by the next token
pub stopped_at_token : (p : Place) (t : Lexeme) → next_token p ≡ Ok (Some t) → stopped p ≡ stopped (after p)
stopped_at_token p t e = rw (stopped_step p, e)

pub stopped_at_none : (p : Place) → next_token p ≡ Ok None → stopped p ≡ past_blanks p
stopped_at_none p e = rw (stopped_step p, e) (nothing_after p e)

pub stopped_at_fault : (p : Place) (f : LexFault) → next_token p ≡ Err f → stopped p ≡ p
stopped_at_fault p f e = grind (arith, stopped_step, after_is, fault_stays, next_is)
